-- Tiny relations, on which the laws are tried. Relation 0, and each other, counts its number down by calls of itself, and then
-- answers 0.
use Rattle.std.specs.Prelude.{ℕ, zero, suc, None}
use Rattle.rml_base.specs.Run.{Answer, Failure, Rest, bare, step}
use Rattle.rml_simulation.specs.declared.partial.Partial.{Partial}
use Rattle.rml_simulation.specs.declared.partial.Partial.TheVariants.{Yes, No}
use Rattle.rml_simulation.specs.Partial.{untraced, take_step, then_go, or_else, followed}
use Rattle.rml_simulation.specs.Calls.{Calls, calls_by_steps}
use Rattle.rml_simulation.specs.Acts.{Acts}
use Rattle.rml_simulation.specs.Carries.{Before}

-- a step a call
abbrev pub counted : Calls ℕ ℕ → Calls ℕ ℕ
counted calls r zero n = Yes 0 untraced n
counted calls r (suc s) n = take_step (calls r s) n

-- two steps a call
abbrev pub plodding : Calls ℕ ℕ → Calls ℕ ℕ
plodding calls r zero n = Yes 0 untraced n
plodding calls r (suc s) n = take_step (take_step (calls r s)) n

-- a step before it counts, as a rule that is begun
abbrev pub late : Calls ℕ ℕ → Calls ℕ ℕ
late calls r s n = take_step (counted calls r s) n

-- a step a call, and then it fails
abbrev pub fading : Calls ℕ ℕ → Calls ℕ ℕ
fading calls r zero n = No untraced n
fading calls r (suc s) n = take_step (calls r s) n

-- the same, told what follows: what follows a failure is come to by a step
abbrev pub told : Acts ℕ ℕ → Acts ℕ ℕ
told acts r k h zero n = step h n
told acts r k h (suc s) n = step (acts r k h s) n

-- two steps a call
abbrev pub told_slowly : Acts ℕ ℕ → Acts ℕ ℕ
told_slowly acts r k h zero n = step h n
told_slowly acts r k h (suc s) n = step (step (acts r k h s)) n

abbrev pub by_a_step : Before
by_a_step = record { answer = λ k. k; failure = step }

-- the call of relation 0
abbrev pub counting : ℕ → ℕ → Partial ℕ
counting s = calls_by_steps counted 0 s

-- what follows an answer, and a failure
abbrev pub answering : ℕ → Rest
answering a n = bare (Answer None)

abbrev pub failing : Rest
failing n = bare Failure

-- a run that counts, and one that counts, fails and counts again
abbrev pub once : ℕ → Rest
once s n = followed (counting s n) answering failing

abbrev pub twice : ℕ → Rest
twice s n = followed (or_else (then_go (counting s n) (λ a m. No untraced m)) (counting s)) answering failing

-- a run that counts late, and one that counts and then takes a step before what follows
abbrev pub begun_late : ℕ → Rest
begun_late s n = followed (calls_by_steps late 0 s n) answering failing

abbrev pub ended_late : ℕ → Rest
ended_late s n = followed (counting s n) (λ a. step (answering a)) (step failing)
