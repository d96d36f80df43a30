-- Integers and reals. A real is always a fault.
use Rattle.std.specs.Prelude.{ℕ, Bool, nat_le, ◌==◌, List, [], ◌∷◌, Option, None, if◌then◌else◌, ℤ, pos, neg_ℤ}
use Rattle.rml_lex.specs.declared.piece.LexKind.TheVariants.{IntRange, Real}
use Rattle.rml_lex.specs.declared.piece.Piece.{Piece}
use Rattle.rml_lex.specs.declared.piece.Piece.TheVariants as piece
use Rattle.rml_lex.specs.Bytes.{is_exponent, is_minus, number_from}
use Rattle.rml_lex.specs.Machine.{ends, ends_or, follows, digits_then}

-- the greatest distance from 0
abbrev pub limit : Bool → ℕ
limit is_negative = if is_negative then 1073741824 else 1073741823

-- the integer so far from 0
abbrev pub int_value : Bool → ℕ → ℤ
int_value is_negative n = if is_negative then neg_ℤ (pos n) else pos n

abbrev pub int_piece : Bool → List ℕ → Piece
int_piece is_negative digits = if nat_le (number_from 0 digits) (limit is_negative) then piece.Int (int_value is_negative (number_from 0 digits)) else piece.Faulty IntRange 0

abbrev pub real : Piece
real = piece.Faulty Real 0

-- one - or ~ less, if there is one
abbrev pub unsigned : List ℕ → List ℕ
unsigned [] = []
unsigned (b ∷ bs) = if is_minus b then bs else b ∷ bs

-- an exponent after its e, and after its sign
abbrev pub power_digits : List ℕ → Option Piece
power_digits = digits_then (λ _. ends real)

abbrev pub power : List ℕ → Option Piece
power bytes = power_digits (unsigned bytes)

abbrev pub exponent : List ℕ → Option Piece
exponent = follows is_exponent power

-- a fraction after its point, with or without an exponent
abbrev pub fraction : List ℕ → Option Piece
fraction = digits_then (λ _. ends_or real exponent)

-- what makes an integer a real
abbrev pub real_end : List ℕ → Option Piece
real_end [] = None
real_end (b ∷ bs) = if b == 46 then fraction bs else exponent (b ∷ bs)

-- a number after its sign
abbrev pub number : Bool → List ℕ → Option Piece
number is_negative = digits_then (λ digits. ends_or (int_piece is_negative digits) real_end)
