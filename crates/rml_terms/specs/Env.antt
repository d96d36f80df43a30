-- What variables stand for.
use Rattle.std.specs.Prelude.{ℕ, ◌==◌, if◌then◌else◌, List, [], ◌∷◌, ◌++◌, map, Option, Some, None}
use Rattle.rml_value.specs.declared.value.Value.{Value}
use Rattle.rml_terms.specs.declared.state.Binding.{Binding}

-- in the order in which they were bound
abbrev pub Env : Type 0
Env = List Binding

abbrev pub bind : ℕ → Value → Env → Env
bind x v env = env ++ record { var = x; value = v } ∷ []

-- what a variable stands for: what was bound to it first
abbrev pub look : ℕ → Env → Option Value
look x [] = None
look x (b ∷ env) = if x == b.var then Some b.value else look x env

-- the variables that stand for something
abbrev pub bound_in : Env → List ℕ
bound_in env = map (λ (b : Binding). b.var) env

-- what they stand for
abbrev pub values_in : Env → List Value
values_in env = map (λ (b : Binding). b.value) env
