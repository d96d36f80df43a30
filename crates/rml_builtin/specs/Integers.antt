-- What rows over integers give, where a line of the table would be too long.
use Rattle.std.specs.Prelude.{if◌then◌else◌, ℤ, pos, ◌-ℤ◌, ◌*ℤ◌, int_lt, int_div, neg_ℤ}
use Rattle.std.specs.Ordering.{int_eq}
use Rattle.rml_value.specs.declared.value.Value.TheVariants as value
use Rattle.rml_builtin.specs.declared.applied.Applied.{Applied}
use Rattle.rml_builtin.specs.declared.applied.Applied.TheVariants.{No}
use Rattle.rml_builtin.specs.Applied.{Store, gives_one, ranged}

-- the quotient toward zero; no answer for a divisor 0
abbrev pub divided : ℤ → ℤ → Store → Applied
divided m n store = if int_eq n (pos 0) then No else ranged (int_div m n) store

-- the dividend minus the divisor times that quotient, so it has the sign of the dividend or is 0; no answer for a divisor 0
abbrev pub remaining : ℤ → ℤ → Store → Applied
remaining m n store = if int_eq n (pos 0) then No else gives_one (value.Int (m -ℤ (n *ℤ int_div m n))) store

abbrev pub absolute : ℤ → ℤ
absolute n = if int_lt n (pos 0) then neg_ℤ n else n
