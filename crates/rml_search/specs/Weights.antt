-- Steps and what they weigh: each step that is taken weighs the same, and nothing else weighs anything.
use Rattle.std.specs.Prelude.{◌≡◌, ℕ, ◌+◌, ◌*◌, ◌≤◌}
use Rattle.rml_base.specs.Run.{Cut, Run}
use Rattle.rml_simulation.specs.declared.partial.Partial.{Partial}
use Rattle.rml_simulation.specs.declared.partial.Partial.TheVariants.{Yes, No, CutOff, GoneWrong}
use Rattle.rml_simulation.specs.Partial.{trace_of}

-- of n steps so many were taken: all that are not left, all where it is cut, and at most n where it is Wrong
abbrev pub Took : {A : Type 0} → ℕ → ℕ → Partial A → Type 0
Took n steps (Yes a t left) = steps + left ≡ n
Took n steps (No t left) = steps + left ≡ n
Took n steps (CutOff t) = steps ≡ n
Took n steps (GoneWrong t) = steps ≤ n

-- a part of the search from n steps weighs as much as the steps that it took
pub record WeighsSteps {A : Type 0} (weight n : ℕ) (w : Partial A) : Type 0 where
  pub steps : ℕ
  pub took : Took n steps w
  pub weighs : (trace_of w).weighed ≡ weight * steps

-- and so does a run of at most n steps: of all n, where it is cut
pub record RunWeighsSteps (weight n : ℕ) (r : Run) : Type 0 where
  pub steps : ℕ
  pub within : steps ≤ n
  pub cut : r.outcome ≡ Cut → steps ≡ n
  pub weighs : r.weighed ≡ weight * steps
