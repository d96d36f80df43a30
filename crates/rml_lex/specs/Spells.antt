-- What the whole of some bytes spells, in words of their own: the table of tokens, one sentence for each kind of piece,
-- faults among them.
use Rattle.std.specs.Prelude.{◌≡◌, ℕ, ◌<◌, ◌≤◌, Bool, true, false, List, [], ◌∷◌, ◌++◌, length, take, Some, ◌⊎◌, IsTrue}
use Rattle.std.specs.List.{list_all}
use Rattle.rml_base.specs.declared.limits.TheConstants.{LITERAL}
use Rattle.rml_syntax.specs.declared.token.Key.{Key}
use Rattle.rml_lex.specs.declared.piece.LexKind.{LexKind}
use Rattle.rml_lex.specs.declared.piece.LexKind.TheVariants as kind
use Rattle.rml_lex.specs.declared.piece.Piece.{Piece}
use Rattle.rml_lex.specs.declared.piece.Piece.TheVariants as piece
use Rattle.rml_lex.specs.Bytes.{is_blank, is_letter, is_digit, is_dash, is_exponent, is_minus, is_name_byte, is_plain, number_from}
use Rattle.rml_lex.specs.Character.{escape_value}
use Rattle.rml_lex.specs.Number.{int_value, limit}
use Rattle.rml_lex.specs.Words.{word_spelling, sign_spelling}

-- Names, words and type variables

-- a letter, then letters, digits, _ and '
abbrev pub IsNameLike : List ℕ → Type 0
IsNameLike s = (b : ℕ) × (bs : List ℕ) × (s ≡ b ∷ bs) × IsTrue (is_letter b) × IsTrue (list_all is_name_byte bs)

-- Numbers

-- one digit or more
abbrev pub IsDigits : List ℕ → Type 0
IsDigits s = (0 < length s) × IsTrue (list_all is_digit s)

-- no sign, or one - or ~
pub data IsSign (s : List ℕ) : Bool → Type 0 where
  NoSign : s ≡ [] → IsSign s false
  Signed : (b : ℕ) → s ≡ b ∷ [] → IsTrue (is_minus b) → IsSign s true

-- an integer: whether it is negative, and how far from 0
pub record IsInt (s : List ℕ) (is_negative : Bool) (n : ℕ) : Type 0 where
  pub sign : List ℕ
  pub digits : List ℕ
  pub spelled : s ≡ sign ++ digits
  pub sign_is : IsSign sign is_negative
  pub digits_are : IsDigits digits
  pub value : n ≡ number_from 0 digits

-- an e or E, at most one sign, digits
pub record IsExponent (s : List ℕ) : Type 0 where
  pub e : ℕ
  pub sign : List ℕ
  pub is_negative : Bool
  pub digits : List ℕ
  pub spelled : s ≡ e ∷ sign ++ digits
  pub e_is : IsTrue (is_exponent e)
  pub sign_is : IsSign sign is_negative
  pub digits_are : IsDigits digits

-- what makes an integer a real: a point and digits, with or without an exponent, or an exponent
pub data IsRealEnd (s : List ℕ) : Type 0 where
  Fraction : (digits : List ℕ) → s ≡ 46 ∷ digits → IsDigits digits → IsRealEnd s
  FractionAndExponent : (digits exponent : List ℕ) → s ≡ 46 ∷ digits ++ exponent → IsDigits digits → IsExponent exponent → IsRealEnd s
  ExponentAlone : IsExponent s → IsRealEnd s

pub record IsReal (s : List ℕ) : Type 0 where
  pub int : List ℕ
  pub end : List ℕ
  pub is_negative : Bool
  pub n : ℕ
  pub spelled : s ≡ int ++ end
  pub int_is : IsInt int is_negative n
  pub end_is : IsRealEnd end

-- Characters, chars and texts

-- a character and the byte that it stands for
pub data IsCharacter (s : List ℕ) (v : ℕ) : Type 0 where
  Itself : s ≡ v ∷ [] → IsTrue (is_plain v) → IsCharacter s v
  Escaped : (letter : ℕ) → s ≡ 92 ∷ letter ∷ [] → escape_value letter ≡ Some v → IsCharacter s v
  ThreeDigits : (a b c : ℕ) → s ≡ 92 ∷ a ∷ b ∷ c ∷ [] → IsTrue (list_all is_digit (a ∷ b ∷ c ∷ [])) → v ≡ number_from 0 (a ∷ b ∷ c ∷ []) → v ≤ 255 → IsCharacter s v

-- characters one after another: their bytes, and what they stand for
pub data AreCharacters : List ℕ → List ℕ → Type 0 where
  Nothing : AreCharacters [] []
  Then : (s : List ℕ) (v : ℕ) (rest values : List ℕ) → IsCharacter s v → AreCharacters rest values → AreCharacters (s ++ rest) (v ∷ values)

-- a character that is cut: a \ and at most two digits
abbrev pub IsCutEscape : List ℕ → Type 0
IsCutEscape s = (digits : List ℕ) × (s ≡ 92 ∷ digits) × (length digits ≤ 2) × IsTrue (list_all is_digit digits)

-- a byte that stands in no literal: it begins no character, and is no " and no line end
pub record IsStray (b : ℕ) : Type 0 where
  pub no_character : is_plain b ≡ false
  pub no_escape : b ≡ 92 → ⊥
  pub no_quote : b ≡ 34 → ⊥
  pub no_line_end : b ≡ 10 → ⊥

-- a literal up to some place inside: its opening and whole characters, as many as it may have
pub data OpensTo (s : List ℕ) (values : List ℕ) : Type 0 where
  InText : (inside : List ℕ) → s ≡ 34 ∷ inside → AreCharacters inside values → OpensTo s values
  InChar : (inside : List ℕ) → s ≡ 35 ∷ 34 ∷ inside → AreCharacters inside values → length values ≤ 1 → OpensTo s values

-- a text in its quotes, and what it stands for
abbrev pub IsText : List ℕ → List ℕ → Type 0
IsText s values = (inside : List ℕ) × (s ≡ 34 ∷ inside ++ 34 ∷ []) × AreCharacters inside values

-- Comments

-- a bracket of comments begins the bytes: (* or *)
abbrev pub BeginsBracket : List ℕ → Type 0
BeginsBracket s = (rest : List ℕ) × ((s ≡ 40 ∷ 42 ∷ rest) ⊎ (s ≡ 42 ∷ 41 ∷ rest))

-- What follows the opening (* of a comment, up to the *) that closes it: comments, and bytes at which no bracket begins.
-- So in (*) the star serves the opening alone.
pub data IsInside : List ℕ → Type 0 where
  Closes : IsInside (42 ∷ 41 ∷ [])
  Nests : (a b : List ℕ) → IsInside a → IsInside b → IsInside (40 ∷ 42 ∷ a ++ b)
  Other : (b : ℕ) (rest : List ℕ) → (BeginsBracket (b ∷ rest) → ⊥) → IsInside rest → IsInside (b ∷ rest)

abbrev pub IsComment : List ℕ → Type 0
IsComment s = (inside : List ℕ) × (s ≡ 40 ∷ 42 ∷ inside) × IsInside inside

-- an opening (* that nothing closes
abbrev pub IsOpenComment : List ℕ → Type 0
IsOpenComment s = (inside : List ℕ) × (s ≡ 40 ∷ 42 ∷ inside) × ((m : ℕ) → m ≤ length s → IsComment (take m s) → ⊥)

-- All pieces

-- a fault of this kind, at the offset from the beginning of the bytes
abbrev pub SpellsFault : List ℕ → LexKind → ℕ → Type 0
SpellsFault s kind.BadByte at = (opening : List ℕ) × (values : List ℕ) × (b : ℕ) × (s ≡ opening ++ b ∷ []) × OpensTo opening values × IsStray b × (at ≡ length opening)
SpellsFault s kind.OpenComment at = IsOpenComment s × (at ≡ 0)
SpellsFault s kind.OpenString at = (values : List ℕ) × OpensTo s values × (at ≡ 0)
SpellsFault s kind.BadEscape at =
    ((opening : List ℕ) × (values : List ℕ) × (cut : List ℕ) × (s ≡ opening ++ cut) × OpensTo opening values × IsCutEscape cut × (at ≡ length opening))
    ⊎ ((s ≡ 35 ∷ 34 ∷ 34 ∷ []) × (at ≡ 0))
    ⊎ ((inside : List ℕ) × (v : ℕ) × (w : ℕ) × (s ≡ 35 ∷ 34 ∷ inside) × AreCharacters inside (v ∷ w ∷ []) × (at ≡ 0))
SpellsFault s kind.IntRange at = (is_negative : Bool) × (n : ℕ) × IsInt s is_negative n × (limit is_negative < n) × (at ≡ 0)
SpellsFault s kind.Real at = IsReal s × (at ≡ 0)
SpellsFault s kind.LongString at = (values : List ℕ) × IsText s values × (LITERAL < length values) × (at ≡ 0)

-- the whole of the bytes is this piece
abbrev pub Spells : List ℕ → Piece → Type 0
Spells s piece.Blank = (b : ℕ) × (s ≡ b ∷ []) × IsTrue (is_blank b)
Spells s piece.Comment = IsComment s
Spells s (piece.Word k) = s ≡ word_spelling k
Spells s piece.Name = IsNameLike s × ((k : Key) → s ≡ word_spelling k → ⊥)
Spells s piece.TyVar = (name : List ℕ) × (s ≡ 39 ∷ name) × IsNameLike name
Spells s (piece.Int i) = (is_negative : Bool) × (n : ℕ) × IsInt s is_negative n × (n ≤ limit is_negative) × (i ≡ int_value is_negative n)
Spells s (piece.Char v) = (inside : List ℕ) × (s ≡ 35 ∷ 34 ∷ inside ++ 34 ∷ []) × IsCharacter inside v
Spells s piece.Text = (values : List ℕ) × IsText s values × (length values ≤ LITERAL)
Spells s piece.Dashes = (2 ≤ length s) × IsTrue (list_all is_dash s)
Spells s (piece.Sign m) = s ≡ sign_spelling m
Spells s (piece.Faulty k at) = SpellsFault s k at

-- the first n bytes are the piece p, and no longer front is any piece
pub record IsLongest (bytes : List ℕ) (n : ℕ) (p : Piece) : Type 0 where
  pub within : n ≤ length bytes
  pub spelled : Spells (take n bytes) p
  pub longer : (m : ℕ) (q : Piece) → n < m → m ≤ length bytes → Spells (take m bytes) q → ⊥

abbrev pub HasLongest : List ℕ → Type 0
HasLongest bytes = (n : ℕ) × (p : Piece) × IsLongest bytes n p

-- no front of the bytes is any piece
abbrev pub BeginsNothing : List ℕ → Type 0
BeginsNothing bytes = (m : ℕ) (p : Piece) → m ≤ length bytes → Spells (take m bytes) p → ⊥
