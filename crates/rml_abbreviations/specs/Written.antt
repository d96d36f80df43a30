-- Types in which names give way to what they stand for.
use Rattle.std.specs.Prelude.{ℕ, zero, suc, List, take, drop, Option, slice_get}
use Rattle.std.specs.Option.{option_flatten, option_map_or}
use Rattle.rml_types.specs.declared.form.TypeCon.{TypeCon}
use Rattle.rml_types.specs.declared.form.TypeCon.TheVariants as con
use Rattle.rml_types.specs.declared.tree.SchemeTree.{SchemeTree, fold-SchemeTree}
use Rattle.rml_types.specs.declared.tree.SchemeTree.TheOpen.{SchemeTree-F}
use Rattle.rml_types.specs.declared.tree.SchemeTree.TheVariants as tree
use Rattle.rml_types.specs.Schemes.{inst}

-- what names stand for, by their numbers: a type over variables for the name's arguments, where they stand for one
abbrev pub Meanings : Type 0
Meanings = ℕ → Option SchemeTree

-- the same of a table; a name behind its end stands for itself
abbrev pub meaning_in : List (Option SchemeTree) → Meanings
meaning_in table c = option_flatten (slice_get table c)

abbrev pub written_at : Meanings → SchemeTree-F SchemeTree → SchemeTree
written_at meanings (SchemeTree-F.Var k) = tree.Var k
written_at meanings (SchemeTree-F.Named c ts) = option_map_or (inst ts) (meanings c) (tree.Named c ts)
written_at meanings (SchemeTree-F.Tuple ts) = tree.Tuple ts
written_at meanings (SchemeTree-F.Rel ins outs) = tree.Rel ins outs

-- a type in which each name that stands for a type gives way to that, over the name's arguments, in which the same was done
abbrev pub written : Meanings → SchemeTree → SchemeTree
written meanings = fold-SchemeTree SchemeTree (written_at meanings)

abbrev pub times : ℕ → (SchemeTree → SchemeTree) → SchemeTree → SchemeTree
times zero f t = t
times (suc n) f t = f (times n f t)

-- so many times over
abbrev pub written_out : ℕ → Meanings → SchemeTree → SchemeTree
written_out count meanings = times count (written meanings)

-- what a constructor makes of types that are written out
abbrev pub written_by : Meanings → TypeCon → List SchemeTree → SchemeTree
written_by meanings (con.Named c) ts = option_map_or (inst ts) (meanings c) (tree.Named c ts)
written_by meanings (con.Fixed k) ts = tree.Var k
written_by meanings con.Tuple ts = tree.Tuple ts
written_by meanings (con.Rel inputs) ts = tree.Rel (take inputs ts) (drop inputs ts)
