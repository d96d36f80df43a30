-- A run with more steps: an end stays, and a text only grows. The lemmas are in MonotoneLaws.antt.
use Rattle.std.specs.Prelude.{◌≡◌, ◌≢◌, ℕ, ◌+◌, ◌≤◌}
use Rattle.rml_base.specs.Run.{Cut, Run, Rest, IsPrefix}

-- the second is the first with more steps: it is the same run where the first has ended, and otherwise it has printed,
-- made and weighed no less
pub record Later (r s : Run) : Type 0 where
  pub ended : r.outcome ≢ Cut → s ≡ r
  pub text : IsPrefix r.text s.text
  pub made : r.made ≤ s.made
  pub weighed : r.weighed ≤ s.weighed

-- more steps change nothing of a run that has ended, and only add to one that is cut
pub record IsMonotone (f : Rest) : Type 0 where
  pub later : (m n : ℕ) → m ≤ n → Later (f m) (f n)

-- the second with j more steps is later than the first
pub record Longer (j : ℕ) (f g : Rest) : Type 0 where
  pub at : (n : ℕ) → Later (f n) (g (n + j))
