-- Texts of the first form, by their bytes, and what they print.
use Rattle.std.specs.Prelude.{◌≡◌, ℕ, ◌≤◌, ◌==◌, nat_le, Bool, true, false, ◌&&◌, ◌||◌, not, if◌then◌else◌, List, [], ◌∷◌, length, flat_map}
use Rattle.std.specs.List.{list_all}
use Rattle.rml_base.specs.declared.limits.TheConstants.{BYTES}
use Rattle.rml_lex.specs.Character.{unescaped}
use Rattle.rml_lex.specs.Reading.{Part, Reaches}
use Rattle.rml_lex.specs.declared.piece.Piece.{Piece}
use Rattle.rml_lex.specs.declared.piece.Piece.TheVariants.{Blank, Comment, Faulty}
use Rattle.rml_top.specs.FirstForm.{IsFirstForm}

abbrev pub is_blank : Piece → Bool
is_blank Blank = true
is_blank p = false

abbrev pub is_comment : Piece → Bool
is_comment Comment = true
is_comment p = false

-- a piece that no text of the first form has
abbrev pub is_refused : Piece → Bool
is_refused Comment = true
is_refused (Faulty k at) = true
is_refused p = false

-- how the tokens among the pieces are spelled
abbrev pub spellings : List Part → List (List ℕ)
spellings [] = []
spellings (part ∷ parts) = if is_blank part.1 then spellings parts else part.0 ∷ spellings parts

-- The bytes are these tokens, with blanks and no comment between them.
pub record HasTokens (bytes : List ℕ) (tokens : List (List ℕ)) : Type 0 where
  pub parts : List Part
  pub reaches : Reaches bytes parts []
  pub no_comment : list_all (λ p. not (is_comment p.1)) parts ≡ true
  pub tokens_are : tokens ≡ spellings parts

-- bytes 32 to 126, where after each \ comes n, \ or "
abbrev pub simple_from : Bool → List ℕ → Bool
simple_from escaped [] = true
simple_from escaped (b ∷ bs) = (if escaped then b == 110 || b == 92 || b == 34 else nat_le 32 b && nat_le b 126) && simple_from (not escaped && b == 92) bs

abbrev pub is_simple : List ℕ → Bool
is_simple literal = simple_from false literal

-- The bytes are a text of the first form, which prints this.
pub record IsText (bytes text : List ℕ) : Type 0 where
  pub short : length bytes ≤ BYTES
  pub tokens : List (List ℕ)
  pub literals : List (List ℕ)
  pub has_tokens : HasTokens bytes tokens
  pub form : IsFirstForm tokens literals
  pub simple : list_all is_simple literals ≡ true
  pub prints : text ≡ flat_map unescaped literals
