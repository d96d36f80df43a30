-- What a built-in gives: results, the store after it and a text; or no answer; or nothing that has a meaning, where
-- arguments are of other kinds than it takes.
use Rattle.std.specs.Prelude.{Bool, if◌then◌else◌, List, [], ◌∷◌, Option, Some, None, ℤ}
use Rattle.rml_value.specs.declared.value.Value.{Value}
use Rattle.rml_value.specs.declared.value.Value.TheVariants as value
use Rattle.rml_value.specs.declared.value.TheConstants.{FALSE, TRUE}
use Rattle.rml_value.specs.Range.{is_integer}
use Rattle.rml_builtin.specs.declared.applied.Applied.{Applied}
use Rattle.rml_builtin.specs.declared.applied.Applied.TheVariants.{Yes, No, Wrong}

-- an entry for each logical variable, which is None where it is unset
abbrev pub Store : Type 0
Store = List (Option Value)

-- results, and no text
abbrev pub gives : List Value → Store → Applied
gives vs store = Yes (record { values = vs; store = store }) []

-- one result
abbrev pub gives_one : Value → Store → Applied
gives_one v store = gives (v ∷ []) store

-- an integer, or no answer out of range
abbrev pub ranged : ℤ → Store → Applied
ranged n store = if is_integer n then gives_one (value.Int n) store else No

-- `true` or `false`
abbrev pub bool_value : Bool → Value
bool_value b = value.Con (if b then TRUE else FALSE) []

-- a truth value
abbrev pub truth : Bool → Store → Applied
truth b store = gives_one (bool_value b) store

-- goes on with arguments of the right kinds, or with an entry or a row that is there; where there is none it is Wrong
abbrev pub or_wrong : {A : Type 0} → Option A → (A → Applied) → Applied
or_wrong None go = Wrong
or_wrong (Some x) go = go x

-- goes on with what is there, and otherwise there is no answer
abbrev pub or_no : {A : Type 0} → Option A → (A → Applied) → Applied
or_no None go = No
or_no (Some x) go = go x
