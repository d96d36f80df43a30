-- What `main` is called with, and what its answer is to who ran it.
use Rattle.std.specs.Prelude.{ℕ, List, [], ◌∷◌, map, Option, Some, None, ℤ}
use Rattle.rml_value.specs.declared.value.Value.{Value, out-Value}
use Rattle.rml_value.specs.declared.value.Value.TheOpen.{Value-F}
use Rattle.rml_value.specs.declared.value.Value.TheVariants as value
use Rattle.rml_value.specs.Lists.{list_of}
use Rattle.rml_builtin.specs.Called.{Called}

-- the list of the arguments as texts
abbrev pub argument : List (List ℕ) → Value
argument args = list_of (map value.Text args)

-- from an empty store
abbrev pub opening : List (List ℕ) → Called
opening args = record { values = argument args ∷ []; store = [] }

abbrev pub integer_at : Value-F Value → Option ℤ
integer_at (Value-F.Int n) = Some n
integer_at _ = None

-- the integer that one result is
abbrev pub integer_in : List Value → Option ℤ
integer_in (v ∷ []) = integer_at (out-Value v)
integer_in _ = None
