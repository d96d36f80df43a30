-- What rows over texts and their characters give, where a line of the table would be too long.
use Rattle.std.specs.Prelude.{ℕ, if◌then◌else◌, nat_le, List, [], slice_get, ℤ, pos, negsuc}
use Rattle.rml_value.specs.declared.value.Value.TheVariants as value
use Rattle.rml_builtin.specs.declared.applied.Applied.{Applied}
use Rattle.rml_builtin.specs.declared.applied.Applied.TheVariants.{Yes, No}
use Rattle.rml_builtin.specs.Applied.{Store, gives_one, or_no}
use Rattle.rml_builtin.specs.Decimal.{read}

-- the integer that a text writes
abbrev pub int_from : List ℕ → Store → Applied
int_from t store = or_no (read t) (λ n. gives_one (value.Int n) store)

-- the character of a number from 0 to 255
abbrev pub char_from : ℤ → Store → Applied
char_from (pos n) store = if nat_le n 255 then gives_one (value.Char n) store else No
char_from (negsuc n) store = No

-- the character at an index, from 0
abbrev pub nth_char : List ℕ → ℤ → Store → Applied
nth_char t (pos n) store = or_no (slice_get t n) (λ c. gives_one (value.Char c) store)
nth_char t (negsuc n) store = No

-- no result, and a text
abbrev pub printed : List ℕ → Store → Applied
printed t store = Yes (record { values = []; store = store }) t
