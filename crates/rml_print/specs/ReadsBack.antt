-- What is printed of a tree that derives is read back: its tokens, at whatever places, derive the same tree.
use Rattle.std.specs.Prelude.{◌≡◌, ℕ, List, map}
use Rattle.std.specs.List.{flat_map}
use Rattle.rml_base.specs.declared.place.Place.{Place}
use Rattle.rml_syntax.specs.declared.token.Token.{Token}
use Rattle.rml_syntax.specs.declared.token.Spot.{Spot}
use Rattle.rml_syntax.specs.declared.texts.Text.{Text}
use Rattle.rml_lex.specs.Places.{place_after, start}
use Rattle.rml_lex.specs.Reading.{Spelled, shown}
use Rattle.rml_grammar.specs.SpelledTexts.{Derives}
use Rattle.rml_print.specs.Plain.{plain_text}
use Rattle.rml_print.specs.Texts.{text_lines}

-- the same but for places and counts of tokens
abbrev pub SameText : Text → Text → Type 0
SameText t u = plain_text t ≡ plain_text u

-- the tokens that a tree is printed as, in order
abbrev pub text_tokens : Text → List Token
text_tokens t = flat_map (λ l. l.tokens) (text_lines t)

-- Whatever tokens the tree was derived from, and whatever the places of those that are printed: they derive the tree ..
abbrev pub ReadsBack : Type 0
ReadsBack = (end last : Place) (us spots : List Spot) (t : Text) → Derives end us t → map (λ s. s.token) spots ≡ text_tokens t → (u : Text) × Derives last spots u × SameText t u

-- .. and no other
abbrev pub ReadsNothingElse : Type 0
ReadsNothingElse = (end last : Place) (us spots : List Spot) (t u : Text) → Derives end us t → map (λ s. s.token) spots ≡ text_tokens t → Derives last spots u → SameText t u

-- The bytes, as a text of this number, are read as the tree again: they spell tokens with these names, which derive the tree,
-- up to its end, and no other.
pub record AreReadBack (number : ℕ) (names : List (List ℕ)) (bytes : List ℕ) (t : Text) : Type 0 where
  pub spots : List Spot
  pub spelled : Spelled number bytes (shown names spots)
  pub tree : Text
  pub derived : Derives (place_after (start number) bytes) spots tree
  pub same : SameText t tree
  pub only : (end : Place) (u : Text) → Derives end spots u → SameText t u
