-- The labels of types with types in place of their variables.
use Rattle.std.specs.Prelude.{ℕ, List, [], ◌∷◌, ◌++◌, get_or}
use Rattle.rml_types.specs.Labels.{Label, labels}
use Rattle.rml_types.specs.Schemes.{unit}
use Rattle.rml_types.specs.declared.form.TypeCon.{TypeCon}
use Rattle.rml_types.specs.declared.form.TypeCon.TheVariants as con
use Rattle.rml_types.specs.declared.tree.SchemeTree.{SchemeTree}

-- what stands in place of a label: for a variable the labels of its type, else the label itself
abbrev pub labels_for : List SchemeTree → TypeCon → ℕ → List Label
labels_for ts (con.Named c) count = (con.Named c, count) ∷ []
labels_for ts (con.Fixed k) count = labels (get_or ts k unit)
labels_for ts con.Tuple count = (con.Tuple, count) ∷ []
labels_for ts (con.Rel inputs) count = (con.Rel inputs, count) ∷ []

-- what stands in place of some labels
abbrev pub replaced : List SchemeTree → List Label → List Label
replaced ts [] = []
replaced ts (l ∷ ls) = labels_for ts l.0 l.1 ++ replaced ts ls
