-- A part in direct style that simulates another, whatever follows; and the same where of what follows only that is to be shown which
-- can come: so it is learned from the simulation how the old part ended.
use Rattle.std.specs.Prelude.{◌≡◌, ℕ, ◌≤◌}
use Rattle.rml_base.specs.Run.{Rest}
use Rattle.rml_simulation.specs.declared.partial.Trace.{Trace}
use Rattle.rml_simulation.specs.declared.partial.Partial.{Partial}
use Rattle.rml_simulation.specs.declared.partial.Partial.TheVariants.{Yes, No}
use Rattle.rml_simulation.specs.Partial.{followed}
use Rattle.rml_simulation.specs.Simulates.{Credit, Simulates}

-- the whole simulates where what follows any answer does, and what follows a failure
pub record SimulatesPart {A : Type 0} (i : ℕ) (old new : ℕ → Partial A) : Type 0 where
  pub at : (j : ℕ) (c : Credit) (k k' : A → Rest) (h h' : Rest) → j ≤ i → ((a : A) → Simulates j c (k a) (k' a)) → Simulates j c h h'
      → Simulates j c (λ n. followed (old n) k h) (λ n. followed (new n) k' h')

-- the whole simulates where what follows the old part's answer does, if it answers, and what follows its failure, if it fails
pub record SimulatesKnown {A : Type 0} (i : ℕ) (old new : ℕ → Partial A) : Type 0 where
  pub at : (j : ℕ) (c : Credit) (k k' : A → Rest) (h h' : Rest) → j ≤ i
      → ((a : A) (n m : ℕ) (t : Trace) → old n ≡ Yes a t m → Simulates j c (k a) (k' a))
      → ((n m : ℕ) (t : Trace) → old n ≡ No t m → Simulates j c h h')
      → Simulates j c (λ n. followed (old n) k h) (λ n. followed (new n) k' h')
