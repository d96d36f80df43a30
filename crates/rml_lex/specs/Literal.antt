-- Texts after their opening ", and chars after their opening #", read a byte at a time.
use Rattle.std.specs.Prelude.{◌≡◌, ℕ, ◌+◌, ◌≤◌, nat_le, List, Option, Some, None, if◌then◌else◌}
use Rattle.rml_base.specs.declared.limits.TheConstants.{LITERAL}
use Rattle.rml_lex.specs.declared.piece.LexKind.TheVariants.{OpenString, BadEscape, BadByte, LongString}
use Rattle.rml_lex.specs.declared.piece.Piece.{Piece}
use Rattle.rml_lex.specs.declared.piece.Piece.TheVariants as piece
use Rattle.rml_lex.specs.declared.character.Read.{Read}
use Rattle.rml_lex.specs.declared.character.Read.TheVariants.{Part, Whole, Quote, Stray, Cut}
use Rattle.rml_lex.specs.declared.character.Inside.{Inside}
use Rattle.rml_lex.specs.declared.character.Inside.TheVariants.{Between, Escape, OneDigit, TwoDigits}
use Rattle.rml_lex.specs.declared.literal.InText.{InText}
use Rattle.rml_lex.specs.declared.literal.InChar.{InChar}
use Rattle.rml_lex.specs.declared.machine.Move.{Move}
use Rattle.rml_lex.specs.declared.machine.Move.TheVariants.{On, Done, Dead}
use Rattle.rml_lex.specs.Character.{character_step, read_of, HasDigits}
use Rattle.rml_lex.specs.Machine.{whole_from}

-- What a literal is that ends inside: it is open between characters, and has a bad escape within one, whose \ stands at
-- the offset.
abbrev pub stopped : Inside → ℕ → Piece
stopped Between at = piece.Faulty OpenString 0
stopped Escape at = piece.Faulty BadEscape at
stopped (OneDigit v) at = piece.Faulty BadEscape at
stopped (TwoDigits v) at = piece.Faulty BadEscape at

-- a text of so many characters, at its closing quote
abbrev pub closed_text : ℕ → Piece
closed_text count = if nat_le count LITERAL then piece.Text else piece.Faulty LongString 0

abbrev pub text_moves : InText → Read → Move InText
text_moves s (Part next) = On (record { at = s.at; count = s.count; inside = next })
text_moves s (Whole v) = On (record { at = s.at + read_of s.inside + 1; count = s.count + 1; inside = Between })
text_moves s Quote = Done (closed_text s.count)
text_moves s Stray = Done (piece.Faulty BadByte s.at)
text_moves s Cut = Dead

abbrev pub text_step : InText → ℕ → Move InText
text_step s b = text_moves s (character_step s.inside b)

abbrev pub text_stop : InText → Piece
text_stop s = stopped s.inside s.at

abbrev pub text_inside : List ℕ → Option Piece
text_inside = whole_from text_stop text_step (record { at = 1; count = 0; inside = Between })

-- a char with this character, or with none, at its closing quote
abbrev pub closed_char : Option ℕ → Piece
closed_char (Some v) = piece.Char v
closed_char None = piece.Faulty BadEscape 0

-- a character after this one, or after none
abbrev pub next_character : InChar → ℕ → Option ℕ → Move InChar
next_character s v None = On (record { at = s.at + read_of s.inside + 1; first = Some v; inside = Between })
next_character s v (Some w) = Done (piece.Faulty BadEscape 0)

abbrev pub char_moves : InChar → Read → Move InChar
char_moves s (Part next) = On (record { at = s.at; first = s.first; inside = next })
char_moves s (Whole v) = next_character s v s.first
char_moves s Quote = Done (closed_char s.first)
char_moves s Stray = Done (piece.Faulty BadByte s.at)
char_moves s Cut = Dead

abbrev pub char_step : InChar → ℕ → Move InChar
char_step s b = char_moves s (character_step s.inside b)

abbrev pub char_stop : InChar → Piece
char_stop s = stopped s.inside s.at

abbrev pub char_inside : List ℕ → Option Piece
char_inside = whole_from char_stop char_step (record { at = 2; first = None; inside = Between })

-- the offset of the next byte, and the number of characters, after a byte
abbrev pub TextWithin : InText → Move InText → Type 0
TextWithin s (On next) = (next.at + read_of next.inside ≡ s.at + read_of s.inside + 1) × (next.count ≤ s.count + 1) × HasDigits next.inside
TextWithin s (Done p) = Unit {0}
TextWithin s Dead = Unit {0}

abbrev pub CharWithin : InChar → Move InChar → Type 0
CharWithin s (On next) = (next.at + read_of next.inside ≡ s.at + read_of s.inside + 1) × HasDigits next.inside
CharWithin s (Done p) = Unit {0}
CharWithin s Dead = Unit {0}
