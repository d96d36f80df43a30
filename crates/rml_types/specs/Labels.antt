-- Types in reverse Polish order: each constructor with the number of its arguments, after these.
use Rattle.std.specs.Prelude.{ℕ, List, [], ◌∷◌, ◌++◌, length, map}
use Rattle.std.specs.Borrow.{Bor}
use Rattle.rml_types.specs.declared.form.TypeCon.{TypeCon}
use Rattle.rml_types.specs.declared.form.TypeCon.TheVariants as con
use Rattle.rml_types.specs.declared.tree.SchemeTree.{SchemeTree, fold-SchemeTree}
use Rattle.rml_types.specs.declared.tree.SchemeTree.TheOpen.{SchemeTree-F}

-- a constructor and the number of its arguments
abbrev pub Label : Type 0
Label = TypeCon × ℕ

abbrev pub joined : List (List Label) → List Label
joined [] = []
joined (xs ∷ rest) = xs ++ joined rest

abbrev pub labels_at : SchemeTree-F (List Label) → List Label
labels_at (SchemeTree-F.Var k) = (con.Fixed k, 0) ∷ []
labels_at (SchemeTree-F.Named c ts) = joined ts ++ (con.Named c, length ts) ∷ []
labels_at (SchemeTree-F.Tuple ts) = joined ts ++ (con.Tuple, length ts) ∷ []
labels_at (SchemeTree-F.Rel ins outs) = joined (ins ++ outs) ++ (con.Rel (length ins), length (ins ++ outs)) ∷ []

-- the labels of a type: a variable is one that stands fixed
abbrev pub labels : SchemeTree → List Label
labels = fold-SchemeTree (List Label) labels_at

-- what some references point to
abbrev pub looked_at : List (Bor SchemeTree) → List SchemeTree
looked_at = map (λ (b : Bor SchemeTree). b.now)

-- the labels of some types, one after another
abbrev pub all_labels : List SchemeTree → List Label
all_labels ts = joined (map labels ts)
