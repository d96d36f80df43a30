-- Kinds of bytes, and the number that digits stand for.
use Rattle.std.specs.Prelude.{ℕ, ◌+◌, ◌-◌, ◌*◌, Bool, ◌&&◌, ◌||◌, ◌==◌, not, nat_le, List, fold}

abbrev pub is_blank : ℕ → Bool
is_blank b = b == 9 || b == 10 || b == 13 || b == 32

abbrev pub is_letter : ℕ → Bool
is_letter b = nat_le 65 b && nat_le b 90 || nat_le 97 b && nat_le b 122

abbrev pub is_digit : ℕ → Bool
is_digit b = nat_le 48 b && nat_le b 57

abbrev pub is_dash : ℕ → Bool
is_dash b = b == 45

-- a - or a ~
abbrev pub is_minus : ℕ → Bool
is_minus b = b == 45 || b == 126

-- an e or an E
abbrev pub is_exponent : ℕ → Bool
is_exponent b = b == 101 || b == 69

-- a letter, a digit, _ or '
abbrev pub is_name_byte : ℕ → Bool
is_name_byte b = is_letter b || is_digit b || b == 95 || b == 39

-- a byte that stands for itself in a literal: 32 to 126 but no " and no \, or 128 and on
abbrev pub is_plain : ℕ → Bool
is_plain b = nat_le 32 b && nat_le b 126 && not (b == 34) && not (b == 92) || nat_le 128 b

-- the number with these digits, after those that gave n
abbrev pub number_from : ℕ → List ℕ → ℕ
number_from n digits = fold (λ a d. 10 * a + (d - 48)) n digits
