-- Type trees as schemes: which variables they name, and what substituting for these gives.
use Rattle.std.specs.Prelude.{ℕ, Bool, true, ◌&&◌, nat_lt, List, [], get_or}
use Rattle.std.specs.List.{list_all}
use Rattle.rml_types.specs.declared.form.TypeCon.{TypeCon}
use Rattle.rml_types.specs.declared.form.TypeCon.TheVariants as con
use Rattle.rml_types.specs.declared.tree.SchemeTree.{SchemeTree, fold-SchemeTree}
use Rattle.rml_types.specs.declared.tree.SchemeTree.TheOpen.{SchemeTree-F}
use Rattle.rml_types.specs.declared.tree.SchemeTree.TheVariants as tree

abbrev pub every : List Bool → Bool
every = list_all (λ b. b)

abbrev pub below_at : ℕ → SchemeTree-F Bool → Bool
below_at vars (SchemeTree-F.Var k) = nat_lt k vars
below_at vars (SchemeTree-F.Named c ts) = every ts
below_at vars (SchemeTree-F.Tuple ts) = every ts
below_at vars (SchemeTree-F.Rel ins outs) = every ins && every outs

-- each variable is below a number
abbrev pub vars_below : ℕ → SchemeTree → Bool
vars_below vars = fold-SchemeTree Bool (below_at vars)

-- the same of a constructor: it is no variable, or one below the number
abbrev pub names_below : ℕ → TypeCon → Bool
names_below vars (con.Fixed k) = nat_lt k vars
names_below vars _ = true

-- the type without parts, which closes a list of types
abbrev pub unit : SchemeTree
unit = tree.Tuple []

abbrev pub inst_at : List SchemeTree → SchemeTree-F SchemeTree → SchemeTree
inst_at ts (SchemeTree-F.Var k) = get_or ts k unit
inst_at ts (SchemeTree-F.Named c us) = tree.Named c us
inst_at ts (SchemeTree-F.Tuple us) = tree.Tuple us
inst_at ts (SchemeTree-F.Rel ins outs) = tree.Rel ins outs

-- each variable replaced by the type of its number in a list, and by the type without parts past the end of the list
abbrev pub inst : List SchemeTree → SchemeTree → SchemeTree
inst ts = fold-SchemeTree SchemeTree (inst_at ts)
