-- Integers as texts: what is written, and what is read.
use Rattle.std.specs.Prelude.{ℕ, Bool, true, false, ◌==◌, ◌||◌, ◌+◌, ◌-◌, ◌*◌, if◌then◌else◌, List, [], ◌∷◌, Option, Some, None, option_map, option_and_then, ℤ, pos, neg_ℤ}
use Rattle.std.specs.Str.{all_ascii_digits}
use Rattle.rml_value.specs.Range.{is_integer}
use Rattle.std.specs.Fmt.{signed_decimal}

-- the decimal of an integer, with a `-` before a negative one
abbrev pub decimal_of : ℤ → List ℕ
decimal_of = signed_decimal

-- the number that digits write after those of n
abbrev pub digits_after : ℕ → List ℕ → ℕ
digits_after n [] = n
digits_after n (c ∷ cs) = digits_after (n * 10 + (c - 48)) cs

-- the same, where all of them are digits
abbrev pub number_after : ℕ → List ℕ → Option ℕ
number_after n cs = if all_ascii_digits cs then Some (digits_after n cs) else None

-- the number that one or more digits write
abbrev pub natural_of : List ℕ → Option ℕ
natural_of [] = None
natural_of (c ∷ cs) = number_after 0 (c ∷ cs)

-- a `-` or a `~`
abbrev pub is_minus : ℕ → Bool
is_minus c = (c == 45) || (c == 126)

-- a number, or the negative of it
abbrev pub with_sign : Bool → ℕ → ℤ
with_sign true n = neg_ℤ (pos n)
with_sign false n = pos n

-- the number that an optional `-` or `~` and one or more digits write
abbrev pub signed : List ℕ → Option ℤ
signed [] = None
signed (c ∷ cs) = if is_minus c then option_map (with_sign true) (natural_of cs) else option_map (with_sign false) (natural_of (c ∷ cs))

-- a number, where it is an integer of the language
abbrev pub integer_of : ℤ → Option ℤ
integer_of n = if is_integer n then Some n else None

-- the integer that a text writes
abbrev pub read : List ℕ → Option ℤ
read t = option_and_then integer_of (signed t)
