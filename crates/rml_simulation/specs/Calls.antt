-- Calls in direct style, to a depth: relations call one another without end, so what they do is told to each depth of calls. A
-- call takes a step, so with n steps no call is deeper than n, and the depth is no bound of its own. S is what a relation is
-- called with, A what it answers. The lemmas are in CallsLaws.antt.
use Rattle.std.specs.Prelude.{ℕ, zero, suc, ◌+◌, ◌<◌}
use Rattle.rml_simulation.specs.declared.partial.Partial.{Partial}
use Rattle.rml_simulation.specs.declared.partial.Partial.TheVariants.{CutOff}
use Rattle.rml_simulation.specs.Partial.{untraced}
use Rattle.rml_simulation.specs.Growing.{Grows}
use Rattle.rml_simulation.specs.Alike.{Alike}

-- the relation's number, what it is called with, the steps
abbrev pub Calls : Type 0 → Type 0 → Type 0
Calls S A = ℕ → S → ℕ → Partial A

abbrev pub calls_to : {S A : Type 0} → (Calls S A → Calls S A) → ℕ → Calls S A
calls_to body zero r s n = CutOff untraced
calls_to body (suc depth) r s n = body (calls_to body depth) r s n

-- by the steps alone
abbrev pub calls_by_steps : {S A : Type 0} → (Calls S A → Calls S A) → Calls S A
calls_by_steps body r s n = calls_to body (suc n) r s n

-- alike with fewer than i steps, and they leave no more than they were given
abbrev pub AlikeCalls : {S A : Type 0} → ℕ → Calls S A → Calls S A → Type 0
AlikeCalls {S = S} i f g = (r : ℕ) (s : S) (m : ℕ) → m < i → Alike m (f r s m) (g r s m)

-- with n steps it looks at its calls with fewer steps alone, and leaves no more than n
pub record StepsToCall {S A : Type 0} (body : Calls S A → Calls S A) : Type 0 where
  pub at : (n : ℕ) (f g : Calls S A) → AlikeCalls n f g → (r : ℕ) (s : S) → Alike n (body f r s n) (body g r s n)

-- the body of a relation grows with the steps where its calls do
pub record GrowsWithCalls {S A : Type 0} (body : Calls S A → Calls S A) : Type 0 where
  pub at : (j : ℕ) (f g : Calls S A) → ((r : ℕ) (s : S) (m : ℕ) → Grows j (f r s m) (g r s (m + j))) → (r : ℕ) (s : S) (m : ℕ) → Grows j (body f r s m) (body g r s (m + j))
