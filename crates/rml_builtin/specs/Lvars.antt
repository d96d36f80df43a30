-- What the rows over logical variables give. A logical variable is the number of its entry in the store.
use Rattle.std.specs.Prelude.{ℕ, List, [], ◌∷◌, ◌++◌, length, Option, Some, None, slice_get, slice_set}
use Rattle.rml_value.specs.declared.value.Value.{Value}
use Rattle.rml_value.specs.declared.value.Value.TheVariants as value
use Rattle.rml_value.specs.declared.value.TheConstants.{NONE, SOME}
use Rattle.rml_builtin.specs.declared.applied.Applied.{Applied}
use Rattle.rml_builtin.specs.declared.applied.Applied.TheVariants.{No, Wrong}
use Rattle.rml_builtin.specs.Applied.{Store, gives, gives_one, or_wrong}

-- a new entry, which is unset
abbrev pub new_lvar : List Value → Store → Applied
new_lvar [] store = gives_one (value.Cell (length store)) (store ++ None ∷ [])
new_lvar _ store = Wrong

-- `NONE`, or `SOME` of a value
abbrev pub option_value : Option Value → Value
option_value None = value.Con NONE []
option_value (Some v) = value.Con SOME (v ∷ [])

-- what an entry holds
abbrev pub get_lvar : ℕ → Store → Applied
get_lvar k store = or_wrong (slice_get store k) (λ held. gives_one (option_value held) store)

-- sets entry k, which holds this, where it is unset
abbrev pub set_entry : Option Value → ℕ → Value → Store → Applied
set_entry None k v store = gives [] (slice_set store k (Some v))
set_entry (Some old) k v store = No

-- sets an entry, and gives no answer where it is set
abbrev pub set_lvar : ℕ → Value → Store → Applied
set_lvar k v store = or_wrong (slice_get store k) (λ held. set_entry held k v store)
