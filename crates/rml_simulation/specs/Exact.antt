-- The exact use of steps: a part that leaves m of its steps leaves m - k where it is given k fewer, and is cut where it has too
-- few. So what a part does is known at every number of steps from what it does at one at which it ends, and a run that goes
-- through it twice can be followed by one that goes through it once. The lemmas are in ExactLaws.antt.
use Rattle.std.specs.Prelude.{◌≡◌, ℕ, ◌-◌, ◌<◌, ◌≤◌, ◌⊎◌}
use Rattle.rml_simulation.specs.declared.partial.Partial.{Partial}
use Rattle.rml_simulation.specs.declared.partial.Partial.TheVariants.{Yes, No, CutOff, GoneWrong}
use Rattle.rml_simulation.specs.Alike.{Left}
use Rattle.rml_simulation.specs.Calls.{Calls}

-- its steps ran out
abbrev pub IsCut : {A : Type 0} → Partial A → Type 0
IsCut (Yes a t m) = ⊥
IsCut (No t m) = ⊥
IsCut (CutOff t) = Unit {0}
IsCut (GoneWrong t) = ⊥

-- the second is the first, given k steps fewer; how many steps a part takes that is Wrong is not told, so it may be cut then
abbrev pub Fewer : {A : Type 0} → ℕ → Partial A → Partial A → Type 0
Fewer k (Yes a t m) v = (k ≤ m → v ≡ Yes a t (m - k)) × (m < k → IsCut v)
Fewer k (No t m) v = (k ≤ m → v ≡ No t (m - k)) × (m < k → IsCut v)
Fewer k (CutOff t) v = IsCut v
Fewer k (GoneWrong t) v = (v ≡ GoneWrong t) ⊎ IsCut v

-- the first, from n steps, leaves no more than these, and the second is the first from k fewer
pub record Spends {A : Type 0} (k n : ℕ) (w v : Partial A) : Type 0 where
  pub left : Left n w
  pub fewer : k ≤ n → Fewer k w v

-- at every number of steps
pub record UsesExactly {A : Type 0} (part : ℕ → Partial A) : Type 0 where
  pub at : (k n : ℕ) → Spends k n (part n) (part (n - k))

-- the body of a relation uses its steps exactly where its calls do
pub record SpendsWithCalls {S A : Type 0} (body : Calls S A → Calls S A) : Type 0 where
  pub at : (k : ℕ) (f g : Calls S A) → ((r : ℕ) (s : S) (m : ℕ) → Spends k m (f r s m) (g r s (m - k))) → (r : ℕ) (s : S) (m : ℕ) → Spends k m (body f r s m) (body g r s (m - k))
