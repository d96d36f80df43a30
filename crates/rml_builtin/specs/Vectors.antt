-- What rows over vectors give, where a line of the table would be too long.
use Rattle.std.specs.Prelude.{List, slice_get, ℤ, pos, negsuc}
use Rattle.rml_value.specs.declared.value.Value.{Value}
use Rattle.rml_builtin.specs.declared.applied.Applied.{Applied}
use Rattle.rml_builtin.specs.declared.applied.Applied.TheVariants.{No}
use Rattle.rml_builtin.specs.Applied.{Store, gives_one, or_no}

-- the item at an index, from 0
abbrev pub nth_item : List Value → ℤ → Store → Applied
nth_item vs (pos n) store = or_no (slice_get vs n) (λ v. gives_one v store)
nth_item vs (negsuc n) store = No
