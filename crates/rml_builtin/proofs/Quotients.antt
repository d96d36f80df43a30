-- The remainder, by the quotient.
use Rattle.std.proofs.Common.{◌≡◌, ℤ, ◌∙◌, ap, arith}
use Rattle.std.specs.Prelude.{◌+ℤ◌, ◌-ℤ◌, ◌*ℤ◌, int_div, int_rem}
use Rattle.std.proofs.Math.IntN.{*ℤ_comm}
use Rattle.std.proofs.lemmas.Int.{quot-rem, ints}

other-part : (x r m : ℤ) → x +ℤ r ≡ m → r ≡ m -ℤ x
other-part x r m e = omega (arith, ints)

pub rem-by_quotient : (m n : ℤ) → int_rem m n ≡ m -ℤ (n *ℤ int_div m n)
rem-by_quotient m n = other-part (int_div m n *ℤ n) (int_rem m n) m (quot-rem m n) ∙ ap (λ x. m -ℤ x) (*ℤ_comm (int_div m n) n)
