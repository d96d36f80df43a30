-- The types of `main`, by their labels.
use Rattle.std.proofs.Common.{◌≡◌, Bool, true, false, List, [], ◌∷◌, ◌++◌, refl, sym, ap, ◌∙◌, ◌⊎◌, inl, inr}
use Rattle.std.specs.Prelude.{◌↔◌, ◌||◌, IsTrue}
use Rattle.rml_types.specs.Labels.{Label, labels, labels_at}
use Rattle.rml_types.specs.declared.form.TypeCon.TheVariants as con
use Rattle.rml_types.specs.declared.tree.SchemeTree.{SchemeTree}
use Rattle.rml_types.specs.declared.tree.SchemeTree.TheVariants as tree
use Rattle.rml_types.proofs.Callers.{fold-Named, fold-Rel, labels-one}
use Rattle.rml_type_facts.specs.Facts.{IsMainType, is_main_type, lists, string_list}
use Rattle.rml_type_facts.specs.Same.{same_labels}
use Rattle.rml_type_facts.proofs.SameTypes.{labels-same, same-labels}

labels-lists : labels lists ≡ string_list
labels-lists = fold-Named (List Label) labels_at 3 (tree.Named 2 [] ∷ []) ∙ ap (λ ls. (ls ++ []) ++ (con.Named 3, 1) ∷ []) (fold-Named (List Label) labels_at 2 [])

gives-none : labels (tree.Rel (lists ∷ []) []) ≡ string_list ++ (con.Rel 1, 1) ∷ []
gives-none = fold-Rel (List Label) labels_at (lists ∷ []) [] ∙ ap (λ ls. (ls ++ []) ++ (con.Rel 1, 1) ∷ []) labels-lists

gives-int : labels (tree.Rel (lists ∷ []) (tree.Named 0 [] ∷ [])) ≡ string_list ++ (con.Named 0, 0) ∷ (con.Rel 1, 2) ∷ []
gives-int =
    fold-Rel (List Label) labels_at (lists ∷ []) (tree.Named 0 [] ∷ [])
    ∙ ap (λ ls. (ls ++ (labels (tree.Named 0 []) ++ [])) ++ (con.Rel 1, 2) ∷ []) labels-lists
    ∙ ap (λ ls. (string_list ++ (ls ++ [])) ++ (con.Rel 1, 2) ∷ []) (fold-Named (List Label) labels_at 0 [])

either : (a b : Bool) → (a || b) ≡ true → (a ≡ true) ⊎ (b ≡ true)
either true b e = inl refl
either false b e = inr e

left-holds : (a b : Bool) → a ≡ true → (a || b) ≡ true
left-holds a b e = rw e refl

right-holds : (a b : Bool) → b ≡ true → (a || b) ≡ true
right-holds true b e = refl
right-holds false b e = e

abbrev one : List Label
one = string_list ++ (con.Rel 1, 1) ∷ []

abbrev two : List Label
two = string_list ++ (con.Named 0, 0) ∷ (con.Rel 1, 2) ∷ []

pub main-types : (t : SchemeTree) → IsTrue (is_main_type t) ↔ IsMainType t
main-types t = (there, back) where
  there : IsTrue (is_main_type t) → IsMainType t
  there e = elim (either (same_labels (labels t) one) (same_labels (labels t) two) e) [
    | inl h ↦ inl (labels-one t (tree.Rel (lists ∷ []) []) (same-labels (labels t) one h ∙ sym gives-none))
    | inr h ↦ inr (labels-one t (tree.Rel (lists ∷ []) (tree.Named 0 [] ∷ [])) (same-labels (labels t) two h ∙ sym gives-int))
  ]

  back : IsMainType t → IsTrue (is_main_type t)
  back m = elim m [
    | inl e ↦ left-holds (same_labels (labels t) one) (same_labels (labels t) two) (labels-same (labels t) one (ap labels e ∙ gives-none))
    | inr e ↦ right-holds (same_labels (labels t) one) (same_labels (labels t) two) (labels-same (labels t) two (ap labels e ∙ gives-int))
  ]
