-- Tokens one on a line: the place, the kind and the spelling.
use Rattle.std.specs.Prelude.{ℕ, List, [], ◌∷◌, ◌++◌, codes}
use Rattle.std.specs.List.{flat_map}
use Rattle.std.specs.Fmt.{decimal}
use Rattle.rml_syntax.specs.declared.token.Spot.{Spot}
use Rattle.rml_syntax.specs.declared.token.Token.{Token}
use Rattle.rml_syntax.specs.declared.token.Token.TheVariants as token
use Rattle.rml_syntax.specs.declared.token.Lit.TheVariants as lit
use Rattle.rml_print.specs.Spelling.{spelling}

abbrev pub kind_name : Token → List ℕ
kind_name (token.Word k) = codes "word"
kind_name (token.Name n) = codes "name"
kind_name (token.TyVar n) = codes "tyvar"
kind_name (token.Lit (lit.Int i)) = codes "int"
kind_name (token.Lit (lit.Char b)) = codes "char"
kind_name (token.Lit (lit.Text n)) = codes "text"
kind_name (token.Sign m) = codes "sign"
kind_name (token.Dashes n) = codes "dashes"

-- LINE:COLUMN KIND SPELLING, with the line's end
abbrev pub spot_line : List (List ℕ) → Spot → List ℕ
spot_line names s = decimal s.place.line ++ 58 ∷ decimal s.place.column ++ 32 ∷ kind_name s.token ++ 32 ∷ spelling names s.token ++ 10 ∷ []

abbrev pub listing : List (List ℕ) → List Spot → List ℕ
listing names spots = flat_map (spot_line names) spots
