-- Parts of a search that are not Wrong, and whose answers have types.
use Rattle.std.specs.Prelude.{◌≡◌, ℕ, List, Some}
use Rattle.rml_types.specs.declared.tree.SchemeTree.{SchemeTree}
use Rattle.rml_simulation.specs.declared.partial.Partial.{Partial}
use Rattle.rml_simulation.specs.declared.partial.Partial.TheVariants.{Yes, No, CutOff, GoneWrong}
use Rattle.rml_value.specs.declared.value.Value.{Value}
use Rattle.rml_builtin.specs.declared.applied.Answer.{Answer}
use Rattle.rml_builtin.specs.declared.applied.Applied.{Applied}
use Rattle.rml_builtin.specs.declared.applied.Applied.TheVariants as applied
use Rattle.rml_builtin.specs.Applied.{Store}
use Rattle.rml_resolved.specs.declared.parts.Parts.{Parts}
use Rattle.rml_terms.specs.declared.state.Matched.{Matched}
use Rattle.rml_terms.specs.declared.state.Matched.TheVariants as matched
use Rattle.rml_terms.specs.Env.{Env, look}
use Rattle.rml_terms.specs.Calling.{RelationCalls}
use Rattle.rml_search.specs.declared.state.State.{State}
use Rattle.rml_typed.specs.Typed.{Assigned}
use Rattle.rml_sound.specs.Values.{StoreTypes, ValueHas, ValuesHave, StoreHas, Grows, RelationHas}

-- a part of a search is not Wrong, and this holds of its answer
abbrev pub Safe : {A : Type 0} → (A → Type 0) → Partial A → Type 0
Safe P (Yes a t n) = P a
Safe P (No t n) = Unit {0}
Safe P (CutOff t) = Unit {0}
Safe P (GoneWrong t) = ⊥

-- a match is not Wrong, and this holds of what is bound then
abbrev pub SafeMatch : (Env → Type 0) → Matched → Type 0
SafeMatch P (matched.Yes env) = P env
SafeMatch P matched.No = Unit {0}
SafeMatch P matched.Wrong = ⊥

-- a built-in is not Wrong, and this holds of its answer
abbrev pub SafeApplied : (Answer → Type 0) → Applied → Type 0
SafeApplied P (applied.Yes a t) = P a
SafeApplied P applied.No = Unit {0}
SafeApplied P applied.Wrong = ⊥

-- an answer has these types, in a store that has only grown
pub record AnswerHas (p : Parts) (S : StoreTypes) (ts : List SchemeTree) (a : Answer) : Type 0 where
  pub T : StoreTypes
  pub grows : Grows S T
  pub store : StoreHas p T a.store
  pub values : ValuesHave p T a.values ts

-- What a variable stands for has the type of the variable, as types are read where the program runs. That each variable that is
-- used stands for something is a law of the search.
abbrev pub EnvHas : Parts → StoreTypes → (SchemeTree → SchemeTree) → Assigned → Env → Type 0
EnvHas p S reads G env = (x : ℕ) (v : Value) → look x env ≡ Some v → ValueHas p S v (reads (G x))

-- the same after a goal, in a store that has only grown
pub record StateHas (p : Parts) (S : StoreTypes) (reads : SchemeTree → SchemeTree) (G : Assigned) (s : State) : Type 0 where
  pub T : StoreTypes
  pub grows : Grows S T
  pub store : StoreHas p T s.store
  pub env : EnvHas p T reads G s.env

-- relations that are called with values of their types are not Wrong, and answer by values of their types
abbrev pub CallsSafe : Parts → RelationCalls → Type 0
CallsSafe p calls = (r : ℕ) (ins outs : List SchemeTree) (S : StoreTypes) (vs : List Value) (store : Store) (n : ℕ) → RelationHas p r ins outs
    → ValuesHave p S vs ins → StoreHas p S store → Safe (AnswerHas p S outs) (calls r (record { values = vs; store = store }) n)
