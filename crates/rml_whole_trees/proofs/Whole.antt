-- The trees of texts are whole.
use Rattle.std.proofs.Common.{◌≡◌, ℕ, suc, ◌≤◌, true, List, [], ◌∷◌, length, refl, arith}
use Rattle.std.specs.Prelude.{All}
use Rattle.std.proofs.lemmas.List.Elements.{All-head, All-tail}
use Rattle.rml_base.specs.Bytes.{AreBytes, IsBytes}
use Rattle.rml_base.specs.declared.limits.TheConstants.{BYTES}
use Rattle.rml_syntax.specs.declared.texts.Text.{Text}
use Rattle.rml_lex.proofs.Callers.{few-tokens}
use Rattle.rml_stages.specs.Over.{AreTreesOver, IsTreeOver}
use Rattle.rml_stages.specs.Reading.{AreRead, end_of}
use Rattle.rml_stages.proofs.Callers.{all-behind}
use Rattle.rml_whole.specs.Whole.{text_is_whole, texts_are_whole}
use Rattle.rml_whole_trees.proofs.Small.{text-small}
use Rattle.rml_whole_trees.proofs.Spelled.{spelled-formed}
use Rattle.rml_whole_trees.proofs.Texts.{text-formed}
use Rattle.rml_whole_trees.proofs.Words.{and-left, and-right, cons-of}

abbrev IsShort : List ℕ → Type 0
IsShort b = length b ≤ BYTES

pub tree-whole : (number : ℕ) (bytes : List ℕ) (names : List (List ℕ)) (tree : Text) → IsBytes bytes → IsShort bytes → IsTreeOver names number bytes tree → text_is_whole (length names) tree ≡ true
tree-whole number bytes names tree all short h =
    let few = few-tokens number bytes names h.spots h.spelled in
    let formed = text-formed (length names) h.is_tree.derived (spelled-formed number bytes names h.spots all h.spelled h.given) in
    let small = text-small (end_of number bytes) h.spots tree (omega (arith, few, short)) h.is_tree.derived in
    rw (formed, small) refl

pub trees-whole : (names texts : List (List ℕ)) (number : ℕ) (trees : List Text) → AreBytes texts → All IsShort texts → AreTreesOver names number texts trees → texts_are_whole (length names) trees ≡ true
trees-whole names [] number [] all short h = refl
trees-whole names [] number (t ∷ ts) all short h = absurd h
trees-whole names (x ∷ xs) number [] all short h = absurd h
trees-whole names (x ∷ xs) number (t ∷ ts) all short h =
    let one = tree-whole number x names t (and-left _ _ all) (All-head IsShort x xs short) h.0 in
    let more = trees-whole names xs (suc number) ts (and-right _ _ all) (All-tail IsShort x xs short) h.1 in
    cons-of (text_is_whole (length names)) t ts one more

pub read-whole : (number : ℕ) (texts old new : List (List ℕ)) (trees : List Text) → AreBytes texts → All IsShort texts → AreRead number texts old trees new → texts_are_whole (length new) trees ≡ true
read-whole number texts old new trees all short h = trees-whole new texts number trees all short (all-behind texts number old new trees h)
