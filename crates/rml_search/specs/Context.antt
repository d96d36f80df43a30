-- What a search reads besides the rules: what the names are, what the vals are, and what a step weighs. A whole program gives all
-- three, and so does whoever searches a part of a program apart from the rest.
use Rattle.std.specs.Prelude.{ℕ, List, Option}
use Rattle.rml_value.specs.declared.value.Value.{Value}

pub record Context : Type 0 where
  pub names : List (List ℕ)
  pub vals : ℕ → Option Value
  pub step_weight : ℕ
