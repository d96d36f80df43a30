-- Numbers for the names of a text: its tokens as they were spelled, and the numbers that these get over names that may know
-- some of them already. The names, type variables and text literals of a text are numbered in the order of its tokens.
use Rattle.std.specs.Prelude.{◌≡◌, ℕ, List, [], ◌∷◌, fold, map}
use Rattle.std.specs.List.{flat_map}
use Rattle.rml_base.specs.Numbering.{number_in, with_name}
use Rattle.rml_base.specs.declared.place.Place.{Place}
use Rattle.rml_syntax.specs.declared.token.Lit.TheVariants as lit
use Rattle.rml_syntax.specs.declared.token.Spot.{Spot}
use Rattle.rml_syntax.specs.declared.token.Token.{Token}
use Rattle.rml_syntax.specs.declared.token.Token.TheVariants as token
use Rattle.rml_lex.specs.Reading.{Shown, Word, Name, TyVar, Int, Char, Text, Sign, Dashes}

-- the bytes for which a token's number stands, if it has one
abbrev pub bytes_in : Shown → List (List ℕ)
bytes_in (Name bytes) = bytes ∷ []
bytes_in (TyVar bytes) = bytes ∷ []
bytes_in (Text bytes) = bytes ∷ []
bytes_in (Word k) = []
bytes_in (Int i) = []
bytes_in (Char v) = []
bytes_in (Sign m) = []
bytes_in (Dashes n) = []

-- those of all tokens, in their order
abbrev pub names_in : List (Place × Shown) → List (List ℕ)
names_in spots = flat_map (λ s. bytes_in s.1) spots

-- the names with all of these among them, each where it is new
abbrev pub with_names : List (List ℕ) → List (List ℕ) → List (List ℕ)
with_names names all = fold with_name names all

-- a token with its number among the names
abbrev pub token_in : List (List ℕ) → Shown → Token
token_in names (Name bytes) = token.Name (number_in names bytes)
token_in names (TyVar bytes) = token.TyVar (number_in names bytes)
token_in names (Text bytes) = token.Lit (lit.Text (number_in names bytes))
token_in names (Word k) = token.Word k
token_in names (Int i) = token.Lit (lit.Int i)
token_in names (Char v) = token.Lit (lit.Char v)
token_in names (Sign m) = token.Sign m
token_in names (Dashes n) = token.Dashes n

abbrev pub spots_in : List (List ℕ) → List (Place × Shown) → List Spot
spots_in names spots = map (λ s. record { token = token_in names s.1; place = s.0 }) spots

-- the old names grow by those of the tokens, and the tokens have their numbers among the new ones
pub record IsNumbered (old : List (List ℕ)) (shown : List (Place × Shown)) (spots : List Spot) (new : List (List ℕ)) : Type 0 where
  pub names : new ≡ with_names old (names_in shown)
  pub tokens : spots ≡ spots_in new shown
