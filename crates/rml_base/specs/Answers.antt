-- What is said of the answers of calls that need memory. `memory` is the answer that there was none. It alone is free: it needs no
-- cause, and may stand in place of any other answer.
use Rattle.std.specs.Prelude.{◌≡◌, ◌≢◌, ◌⊎◌, Result, MatchResult}

-- this is so, or the answer is that there was no memory
abbrev pub OrMemory : {E : Type 0} → E → E → Type 0 → Type 0
OrMemory memory answer so = so ⊎ (answer ≡ memory)

-- something is given that is so, or there was no memory
abbrev pub Gives : {X E : Type 0} → E → Result X E → (X → Type 0) → Type 0
Gives memory result so = MatchResult result so (λ e. e ≡ memory)

-- nothing is given: the error is so, or there was no memory
abbrev pub Refuses : {X E : Type 0} → E → Result X E → (E → Type 0) → Type 0
Refuses memory result so = MatchResult result (λ _. ⊥) (λ e. OrMemory memory e (so e))

-- each answer has its cause: what is given is so, and any error but want of memory is so
abbrev pub Explains : {X E : Type 0} → E → Result X E → (X → Type 0) → (E → Type 0) → Type 0
Explains memory result given refused = MatchResult result given (λ e. e ≢ memory → refused e)
