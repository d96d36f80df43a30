-- Which tokens can stand in a printed line, and what it is that printed bytes are read as the tokens that were printed.
use Rattle.std.specs.Prelude.{◌≡◌, ℕ, ◌<◌, ◌≤◌, Bool, true, false, List, [], ◌∷◌, length, map, All}
use Rattle.rml_base.specs.declared.limits.TheConstants.{LITERAL}
use Rattle.rml_syntax.specs.declared.token.Lit.{Lit}
use Rattle.rml_syntax.specs.declared.token.Lit.TheVariants as lit
use Rattle.rml_syntax.specs.declared.token.Mark.TheVariants as mark
use Rattle.rml_syntax.specs.declared.token.Spot.{Spot}
use Rattle.rml_syntax.specs.declared.token.Token.{Token}
use Rattle.rml_syntax.specs.declared.token.Token.TheVariants as token
use Rattle.rml_lex.specs.declared.piece.Piece.TheVariants as piece
use Rattle.rml_lex.specs.Number.{int_value, limit}
use Rattle.rml_lex.specs.Reading.{Spelled, shown}
use Rattle.rml_lex.specs.Spells.{Spells}
use Rattle.rml_print.specs.Spelling.{name_bytes}

-- an integer in range, a byte, a text of bytes that is not too long
abbrev pub IsPrintableLiteral : List (List ℕ) → Lit → Type 0
IsPrintableLiteral names (lit.Int i) = (is_negative : Bool) × (n : ℕ) × (n ≤ limit is_negative) × (i ≡ int_value is_negative n)
IsPrintableLiteral names (lit.Char b) = b < 256
IsPrintableLiteral names (lit.Text n) = All (λ b. b < 256) (name_bytes names n) × (length (name_bytes names n) ≤ LITERAL)

-- A token that has a spelling: the bytes of its number, if it has one, are those of a name, a type variable or a text.
abbrev pub IsPrintable : List (List ℕ) → Token → Type 0
IsPrintable names (token.Word k) = Unit {0}
IsPrintable names (token.Name n) = Spells (name_bytes names n) piece.Name
IsPrintable names (token.TyVar n) = Spells (name_bytes names n) piece.TyVar
IsPrintable names (token.Lit l) = IsPrintableLiteral names l
IsPrintable names (token.Sign m) = Unit {0}
IsPrintable names (token.Dashes n) = 2 ≤ n

-- Two tokens between which no blank stands, and whose bytes would be read as the beginning of one piece: ( and * open a
-- comment, two : are a sign of their own, and an integer and a . may begin a real.
abbrev pub runs_together : Token → Token → Bool
runs_together (token.Sign mark.OpenRound) (token.Sign mark.Star) = true
runs_together (token.Sign mark.Colon) (token.Sign mark.Colon) = true
runs_together (token.Lit (lit.Int i)) (token.Sign mark.Dot) = true
runs_together _ _ = false

-- neither the first of the tokens and the one before them, nor two of them, run together
abbrev pub AreApartFrom : Token → List Token → Type 0
AreApartFrom last [] = Unit {0}
AreApartFrom last (t ∷ ts) = (runs_together last t ≡ false) × AreApartFrom t ts

abbrev pub AreApart : List Token → Type 0
AreApart [] = Unit {0}
AreApart (t ∷ ts) = AreApartFrom t ts

-- tokens that can stand on one line
pub record ArePrintable (names : List (List ℕ)) (ts : List Token) : Type 0 where
  pub each : All (IsPrintable names) ts
  pub apart : AreApart ts

-- the bytes are read as these tokens, at some places
abbrev pub AreReadAs : ℕ → List (List ℕ) → List ℕ → List Token → Type 0
AreReadAs text names bytes ts = (spots : List Spot) × Spelled text bytes (shown names spots) × (map (λ s. s.token) spots ≡ ts)
