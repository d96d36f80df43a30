-- Types made anew: what is made of each constructor, over what was made of its arguments.
use Rattle.std.specs.Prelude.{ℕ, ◌-◌, List, [], ◌∷◌, ◌++◌, length, take, drop, Option, Some, None, slice_get}
use Rattle.std.specs.Option.{option_map_or}
use Rattle.rml_types.specs.declared.form.TypeCon.{TypeCon}
use Rattle.rml_types.specs.declared.form.TypeCon.TheVariants as con
use Rattle.rml_types.specs.declared.tree.SchemeTree.{SchemeTree}
use Rattle.rml_types.specs.declared.tree.SchemeTree.TheVariants as tree
use Rattle.rml_types.specs.Labels.{Label}
use Rattle.rml_types.specs.Schemes.{inst}
use Rattle.rml_typed.specs.Own.{Meanings, written}
use Rattle.rml_equations.specs.Coding.{packed}
use Rattle.rml_equations.specs.declared.rebuilding.Way.{Way}
use Rattle.rml_equations.specs.declared.rebuilding.Way.TheVariants as way

abbrev pub known : Option (Option SchemeTree) → Option SchemeTree
known None = None
known (Some meaning) = meaning

-- what names stand for, by a table
abbrev pub meanings_in : List (Option SchemeTree) → Meanings
meanings_in table c = known (slice_get table c)

abbrev pub named_by : Way → ℕ → List SchemeTree → SchemeTree
named_by way.Packed c ts = tree.Named c ts
named_by (way.Written table) c ts = option_map_or (inst ts) (meanings_in table.now c) (tree.Named c ts)

abbrev pub related_by : Way → List SchemeTree → List SchemeTree → SchemeTree
related_by way.Packed ins outs = tree.Rel (tree.Tuple ins ∷ []) (tree.Tuple outs ∷ [])
related_by (way.Written table) ins outs = tree.Rel ins outs

-- what is made of a constructor
abbrev pub made_by : Way → TypeCon → List SchemeTree → SchemeTree
made_by how (con.Named c) ts = named_by how c ts
made_by how (con.Fixed k) ts = tree.Var k
made_by how con.Tuple ts = tree.Tuple ts
made_by how (con.Rel inputs) ts = related_by how (take inputs ts) (drop inputs ts)

-- and of a type
abbrev pub rebuilt : Way → SchemeTree → SchemeTree
rebuilt way.Packed t = packed t
rebuilt (way.Written table) t = written (meanings_in table.now) t

-- the last that were made gave way to what is made of a label over them
abbrev pub turned : {A : Type 0} → (TypeCon → List A → A) → Label → List A → List A
turned by l made = take (length made - l.1) made ++ by l.0 (drop (length made - l.1) made) ∷ []
