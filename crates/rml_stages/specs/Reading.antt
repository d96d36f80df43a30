-- What texts are read as, and why they are refused. A text is its bytes. It has a number, for its places, and is read over the
-- names that were known before it.
use Rattle.std.specs.Prelude.{◌≡◌, ℕ, suc, ◌+◌, List, [], ◌∷◌, ◌++◌, length}
use Rattle.rml_base.specs.declared.place.Place.{Place}
use Rattle.rml_syntax.specs.declared.token.Spot.{Spot}
use Rattle.rml_syntax.specs.declared.texts.Text.{Text}
use Rattle.rml_lex.specs.declared.piece.LexKind.{LexKind}
use Rattle.rml_lex.specs.Numbered.{IsNumbered}
use Rattle.rml_lex.specs.Places.{place_after, start}
use Rattle.rml_lex.specs.Reading.{FirstFault, Shown, Spelled}
use Rattle.rml_grammar.specs.declared.fault.ParseKind.{ParseKind}
use Rattle.rml_parse.specs.Faults.{IsTree, StopsAt}
use Rattle.rml_stages.specs.declared.refusal.Refusal.{Refusal}
use Rattle.rml_stages.specs.Refusals.{misspelled, underived}

-- where the text's next byte would stand
abbrev pub end_of : ℕ → List ℕ → Place
end_of number bytes = place_after (start number) bytes

-- the bytes spell these tokens, with their numbers among the names, which are the old ones and those of the text
pub record IsSpelledAs (number : ℕ) (bytes : List ℕ) (old : List (List ℕ)) (spots : List Spot) (new : List (List ℕ)) : Type 0 where
  pub shown : List (Place × Shown)
  pub spelled : Spelled number bytes shown
  pub numbered : IsNumbered old shown spots new

-- the bytes spell these tokens, the tree derives from them, and no bracket and no rule among them is one too many
pub record IsReadAs (number : ℕ) (bytes : List ℕ) (old : List (List ℕ)) (spots : List Spot) (tree : Text) (new : List (List ℕ)) : Type 0 where
  pub spelled : IsSpelledAs number bytes old spots new
  pub is_tree : IsTree (end_of number bytes) spots tree

abbrev pub IsRead : ℕ → List ℕ → List (List ℕ) → Text → List (List ℕ) → Type 0
IsRead number bytes old tree new = (spots : List Spot) × IsReadAs number bytes old spots tree new

-- the bytes have a first lexical fault; or they spell tokens, and reading these stops
pub data IsRefused (number : ℕ) (bytes : List ℕ) (old : List (List ℕ)) (r : Refusal) : Type 0 where
  is_misspelled : (place : Place) (kind : LexKind) → FirstFault number bytes place kind → r ≡ misspelled place kind → IsRefused number bytes old r
  is_underived : (spots : List Spot) (new : List (List ℕ)) (place : Place) (kind : ParseKind) → IsSpelledAs number bytes old spots new → StopsAt (end_of number bytes) spots place kind → r ≡ underived place kind → IsRefused number bytes old r

-- texts with the numbers from this one on are read as these trees, each over the names behind the text before it
abbrev pub AreRead : ℕ → List (List ℕ) → List (List ℕ) → List Text → List (List ℕ) → Type 0
AreRead number [] old [] new = new ≡ old
AreRead number [] old (tree ∷ trees) new = ⊥
AreRead number (text ∷ texts) old [] new = ⊥
AreRead number (text ∷ texts) old (tree ∷ trees) new = (between : List (List ℕ)) × IsRead number text old tree between × AreRead (suc number) texts between trees new

-- one of the texts is refused, and those before it are read: so no fault of theirs is seen, and none of a later text
pub record IsFirstRefusal (number : ℕ) (texts : List (List ℕ)) (old : List (List ℕ)) (r : Refusal) : Type 0 where
  pub before : List (List ℕ)
  pub text : List ℕ
  pub after : List (List ℕ)
  pub cut : texts ≡ before ++ text ∷ after
  pub trees : List Text
  pub new : List (List ℕ)
  pub read : AreRead number before old trees new
  pub refused : IsRefused (number + length before) text new r
