-- Lines of tokens as bytes: where blanks stand.
use Rattle.std.specs.Prelude.{ℕ, Bool, true, false, ◌&&◌, ◌||◌, List, [], ◌∷◌, ◌++◌, replicate, Option, Some, None, if◌then◌else◌}
use Rattle.std.specs.List.{flat_map}
use Rattle.rml_syntax.specs.declared.token.Token.{Token}
use Rattle.rml_syntax.specs.declared.token.Token.TheVariants as token
use Rattle.rml_syntax.specs.declared.token.Mark.TheVariants as mark
use Rattle.rml_print.specs.Spelling.{spelling}

-- no blank stands after ( and [, nor after a .
abbrev pub holds_next : Token → Bool
holds_next (token.Sign mark.OpenRound) = true
holds_next (token.Sign mark.OpenSquare) = true
holds_next (token.Sign mark.Dot) = true
holds_next _ = false

-- no blank stands before ), ] and , nor before a : and a .
abbrev pub holds_last : Token → Bool
holds_last (token.Sign mark.CloseRound) = true
holds_last (token.Sign mark.CloseSquare) = true
holds_last (token.Sign mark.Comma) = true
holds_last (token.Sign mark.Colon) = true
holds_last (token.Sign mark.Dot) = true
holds_last _ = false

abbrev pub is_name : Token → Bool
is_name (token.Name n) = true
is_name _ = false

abbrev pub is_open_round : Token → Bool
is_open_round (token.Sign mark.OpenRound) = true
is_open_round _ = false

-- nor between a name and its (
abbrev pub is_tight : Token → Token → Bool
is_tight left right = holds_next left || holds_last right || is_name left && is_open_round right

-- one blank, or none, between two tokens
abbrev pub gap : Token → Token → List ℕ
gap left right = if is_tight left right then [] else 32 ∷ []

-- what stands before a token: nothing at the head of a line
abbrev pub gap_before : Option Token → Token → List ℕ
gap_before None right = []
gap_before (Some left) right = gap left right

-- tokens behind one, or at the head of a line
abbrev pub spaced_after : List (List ℕ) → Option Token → List Token → List ℕ
spaced_after names last [] = []
spaced_after names last (t ∷ ts) = gap_before last t ++ spelling names t ++ spaced_after names (Some t) ts

-- tokens on one line
abbrev pub spaced : List (List ℕ) → List Token → List ℕ
spaced names = spaced_after names None

-- a line: how far it is indented, and its tokens
pub record Line : Type 0 where
  pub indent : ℕ
  pub tokens : List Token

abbrev pub line_bytes : List (List ℕ) → Line → List ℕ
line_bytes names l = replicate l.indent 32 ++ spaced names l.tokens ++ 10 ∷ []

abbrev pub lines_bytes : List (List ℕ) → List Line → List ℕ
lines_bytes names = flat_map (line_bytes names)
