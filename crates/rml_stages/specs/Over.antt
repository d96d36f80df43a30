-- The tree of a text over names that number what its tokens spell: the names behind the text, and all later ones.
use Rattle.std.specs.Prelude.{ℕ, suc, List, [], ◌∷◌, length}
use Rattle.rml_syntax.specs.declared.token.Spot.{Spot}
use Rattle.rml_syntax.specs.declared.texts.Text.{Text}
use Rattle.rml_lex.specs.Reading.{AllGiven, Spelled, shown}
use Rattle.rml_parse.specs.Faults.{IsTree}
use Rattle.rml_stages.specs.Reading.{end_of}

-- where names have these numbers, the bytes spell tokens, each name in them has a number, and the tree is that of these
pub record IsTreeOver (names : List (List ℕ)) (number : ℕ) (bytes : List ℕ) (tree : Text) : Type 0 where
  pub spots : List Spot
  pub spelled : Spelled number bytes (shown names spots)
  pub given : AllGiven (length names) spots
  pub is_tree : IsTree (end_of number bytes) spots tree

-- the same of texts with the numbers from this one on
abbrev pub AreTreesOver : List (List ℕ) → ℕ → List (List ℕ) → List Text → Type 0
AreTreesOver names number [] [] = Unit {0}
AreTreesOver names number [] (tree ∷ trees) = ⊥
AreTreesOver names number (text ∷ texts) [] = ⊥
AreTreesOver names number (text ∷ texts) (tree ∷ trees) = IsTreeOver names number text tree × AreTreesOver names (suc number) texts trees
