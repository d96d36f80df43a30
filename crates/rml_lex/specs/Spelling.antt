-- What the whole of some bytes spells, by what their first byte can begin.
use Rattle.std.specs.Prelude.{ℕ, ◌==◌, Bool, true, false, List, [], ◌∷◌, Option, Some, None, if◌then◌else◌}
use Rattle.rml_syntax.specs.declared.token.Key.{Key}
use Rattle.rml_syntax.specs.declared.token.Mark.{Mark}
use Rattle.rml_syntax.specs.declared.token.Mark.TheVariants as mark
use Rattle.rml_lex.specs.Bytes.{is_blank, is_letter, is_digit, is_dash, is_name_byte}
use Rattle.rml_lex.specs.Words.{word_of}
use Rattle.rml_lex.specs.Comment.{comment_inside}
use Rattle.rml_lex.specs.Literal.{text_inside, char_inside}
use Rattle.rml_lex.specs.Number.{number}
use Rattle.rml_lex.specs.Machine.{ends, follows, run}
use Rattle.rml_lex.specs.declared.piece.Piece.{Piece}
use Rattle.rml_lex.specs.declared.piece.Piece.TheVariants as piece
use Rattle.rml_lex.specs.declared.first.Class.{Class}
use Rattle.rml_lex.specs.declared.first.Class.TheVariants as class

-- what a piece that begins with the byte can be, where the byte is no digit
abbrev pub class_of : ℕ → Class
class_of b =
    if is_blank b then class.Blank
    else if is_letter b then class.Letter
    else if b == 45 then class.Dash
    else if b == 126 then class.Tilde
    else if b == 34 then class.Quote
    else if b == 35 then class.Hash
    else if b == 39 then class.Prime
    else if b == 40 then class.Round
    else if b == 58 then class.Colon
    else if b == 61 then class.Equals
    else class.Other

-- the sign of one byte that begins no other piece
abbrev pub single_sign : ℕ → Option Mark
single_sign b =
    if b == 41 then Some mark.CloseRound
    else if b == 91 then Some mark.OpenSquare
    else if b == 93 then Some mark.CloseSquare
    else if b == 44 then Some mark.Comma
    else if b == 38 then Some mark.Amp
    else if b == 124 then Some mark.Bar
    else if b == 42 then Some mark.Star
    else if b == 46 then Some mark.Dot
    else if b == 95 then Some mark.Wild
    else None

abbrev pub single : Option Mark → List ℕ → Option Piece
single (Some m) = ends (piece.Sign m)
single None = λ _. None

-- a sign alone, and otherwise what follows a second byte
abbrev pub sign_or : Mark → (ℕ → Bool) → (List ℕ → Option Piece) → List ℕ → Option Piece
sign_or m test more [] = Some (piece.Sign m)
sign_or m test more (b ∷ bs) = if test b then more bs else None

abbrev pub named : Option Key → Piece
named (Some k) = piece.Word k
named None = piece.Name

-- a word or a name
abbrev pub name_piece : List ℕ → Piece
name_piece spelling = named (word_of spelling)

-- after a -: more of them, or an integer
abbrev pub dash : List ℕ → Option Piece
dash [] = None
dash (b ∷ bs) = if is_dash b then run is_dash (λ _. piece.Dashes) bs else number true (b ∷ bs)

abbrev pub prime : List ℕ → Option Piece
prime = follows is_letter (run is_name_byte (λ _. piece.TyVar))

abbrev pub hash : List ℕ → Option Piece
hash = follows (λ b. b == 34) char_inside

abbrev pub round : List ℕ → Option Piece
round = sign_or mark.OpenRound (λ b. b == 42) comment_inside

abbrev pub colon : List ℕ → Option Piece
colon = sign_or mark.Colon (λ b. b == 58) (ends (piece.Sign mark.TwoColons))

abbrev pub equals : List ℕ → Option Piece
equals = sign_or mark.Equals (λ b. b == 62) (ends (piece.Sign mark.Arrow))

-- what the bytes after a first byte make of it
abbrev pub after_first : Class → ℕ → List ℕ → Option Piece
after_first class.Blank b = ends piece.Blank
after_first class.Letter b = run is_name_byte (λ bs. name_piece (b ∷ bs))
after_first class.Dash b = dash
after_first class.Tilde b = number true
after_first class.Quote b = text_inside
after_first class.Hash b = hash
after_first class.Prime b = prime
after_first class.Round b = round
after_first class.Colon b = colon
after_first class.Equals b = equals
after_first class.Other b = single (single_sign b)

-- the piece that the whole of the bytes spells, if they spell one; faults are pieces too
abbrev pub whole : List ℕ → Option Piece
whole [] = None
whole (b ∷ bs) = if is_digit b then number false (b ∷ bs) else after_first (class_of b) b bs
