-- Whether types are the same, as tests.
use Rattle.std.specs.Prelude.{Bool, true, false, ◌&&◌, nat_eq, List, [], ◌∷◌}
use Rattle.rml_types.specs.Labels.{Label, labels}
use Rattle.rml_types.specs.declared.form.TypeCon.{TypeCon}
use Rattle.rml_types.specs.declared.form.TypeCon.TheVariants as con
use Rattle.rml_types.specs.declared.tree.SchemeTree.{SchemeTree}
use Rattle.rml_type_ops.specs.Numbered.{numbered}

abbrev pub same_con : TypeCon → TypeCon → Bool
same_con (con.Named c) (con.Named d) = nat_eq c d
same_con (con.Fixed j) (con.Fixed k) = nat_eq j k
same_con con.Tuple con.Tuple = true
same_con (con.Rel j) (con.Rel k) = nat_eq j k
same_con c d = false

abbrev pub same_labels : List Label → List Label → Bool
same_labels [] [] = true
same_labels [] (m ∷ ms) = false
same_labels (l ∷ ls) [] = false
same_labels (l ∷ ls) (m ∷ ms) = same_con l.0 m.0 && nat_eq l.1 m.1 && same_labels ls ms

-- two types are one up to the names of their variables
abbrev pub are_one : SchemeTree → SchemeTree → Bool
are_one a b = same_labels (numbered [] (labels a)) (numbered [] (labels b))
