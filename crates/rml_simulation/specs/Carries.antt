-- What relations do after a pass simulates what they did before it, said of one relation, given that it is so of what it calls with
-- fewer steps: a call is a step. What each pass says of a relation ends in one of these, for bodies in direct style, for bodies that
-- are told what follows, and from one style to the other.
use Rattle.std.specs.Prelude.{◌≡◌, ℕ, ◌<◌, ◌≤◌}
use Rattle.rml_base.specs.Run.{Rest}
use Rattle.rml_simulation.specs.declared.partial.Partial.{Partial}
use Rattle.rml_simulation.specs.Partial.{followed}
use Rattle.rml_simulation.specs.Calls.{Calls}
use Rattle.rml_simulation.specs.Acts.{Act, Acts}
use Rattle.rml_simulation.specs.Simulates.{Credit, Simulates}

-- Over at most i steps, whatever the old run is ahead by when it begins: the whole simulates where what follows an answer does, and
-- what follows a failure, with the credit that was earned by then.
pub record SimulatesAct {S A : Type 0} (earned : Credit → Credit) (i : ℕ) (old new : Act S A) : Type 0 where
  pub at : (j : ℕ) (c : Credit) (k k' : A → Rest) (h h' : Rest) → j ≤ i → ((a : A) → Simulates j (earned c) (k a) (k' a)) → Simulates j (earned c) h h' → (s : S) → Simulates j c (old k h s) (new k' h' s)

-- the old run is ahead by as much as when it began
abbrev pub kept : Credit → Credit
kept c = c

-- what a relation in direct style does, told what follows
abbrev pub acted : {S A : Type 0} → (S → ℕ → Partial A) → Act S A
acted call k h s n = followed (call s n) k h

-- The bodies of one relation before and after a pass, in direct style. All relations keep the credit with which they began; of one
-- that is called once and from outside, as `main` is, more may be said: what it has earned by its end.
pub record CarriesCall {S A : Type 0} (earned : Credit → Credit) (old new : Calls S A → S → ℕ → Partial A) : Type 0 where
  pub by : (i : ℕ) (olds news : Calls S A) → ((j : ℕ) → j < i → (r : ℕ) → SimulatesAct kept j (acted (olds r)) (acted (news r)))
      → SimulatesAct earned i (acted (old olds)) (acted (new news))

-- the same of bodies that are told what follows
pub record CarriesAct {S A : Type 0} (old new : Acts S A → Act S A) : Type 0 where
  pub by : (i : ℕ) (olds news : Acts S A) → ((j : ℕ) → j < i → (r : ℕ) → SimulatesAct kept j (olds r) (news r)) → SimulatesAct kept i (old olds) (new news)

-- ---- from direct style to acts

-- What is done before what follows an answer, and before what follows a failure: a step, where the other form has none there.
pub record Before : Type 0 where
  pub answer : Rest → Rest
  pub failure : Rest → Rest

-- what a relation in direct style does, told what follows, with this done before
abbrev pub acted_before : {S A : Type 0} → Before → (S → ℕ → Partial A) → Act S A
acted_before before call k h s n = followed (call s n) (λ a. before.answer (k a)) (before.failure h)

-- the bodies of one relation, in direct style before a pass and told what follows after it
pub record CarriesTold {S A : Type 0} (before : Before) (old : Calls S A → S → ℕ → Partial A) (new : Acts S A → Act S A) : Type 0 where
  pub by : (i : ℕ) (olds : Calls S A) (news : Acts S A) → ((j : ℕ) → j < i → (r : ℕ) → SimulatesAct kept j (acted_before before (olds r)) (news r))
      → SimulatesAct kept i (acted_before before (old olds)) (new news)

-- the acts give the runs that the calls do
abbrev pub AreActed : {S A : Type 0} → Before → Calls S A → Acts S A → Type 0
AreActed {S = S} {A = A} before calls acts = (r : ℕ) (k : A → Rest) (h : Rest) (s : S) (n : ℕ) → acts r k h s n ≡ acted_before before (calls r) k h s n

-- the bodies of one relation give the same runs where what they call does: a pass that changes neither steps nor weights
pub record Corresponds {S A : Type 0} (before : Before) (direct : Calls S A → S → ℕ → Partial A) (told : Acts S A → Act S A) : Type 0 where
  pub at : (calls : Calls S A) (acts : Acts S A) → AreActed before calls acts → (k : A → Rest) (h : Rest) (s : S) (n : ℕ) → told acts k h s n ≡ acted_before before (direct calls) k h s n
