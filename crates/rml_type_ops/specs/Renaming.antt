-- Types that are one up to the names of their variables.
use Rattle.std.specs.Prelude.{◌≡◌, ℕ, Contains}
use Rattle.rml_types.specs.General.{variables_in}
use Rattle.rml_types.specs.declared.tree.SchemeTree.{SchemeTree, fold-SchemeTree}
use Rattle.rml_types.specs.declared.tree.SchemeTree.TheOpen.{SchemeTree-F}
use Rattle.rml_types.specs.declared.tree.SchemeTree.TheVariants as tree

abbrev pub renamed_at : (ℕ → ℕ) → SchemeTree-F SchemeTree → SchemeTree
renamed_at name (SchemeTree-F.Var k) = tree.Var (name k)
renamed_at name (SchemeTree-F.Named c ts) = tree.Named c ts
renamed_at name (SchemeTree-F.Tuple ts) = tree.Tuple ts
renamed_at name (SchemeTree-F.Rel ins outs) = tree.Rel ins outs

-- a type with each variable renamed
abbrev pub renamed : (ℕ → ℕ) → SchemeTree → SchemeTree
renamed name = fold-SchemeTree SchemeTree (renamed_at name)

-- A renaming that is one to one on the variables of a type makes it another.
pub record IsSameUpToNames (a b : SchemeTree) : Type 0 where
  pub name : ℕ → ℕ
  pub one_to_one : (j k : ℕ) → Contains (variables_in a) j → Contains (variables_in a) k → name j ≡ name k → j ≡ k
  pub is : renamed name a ≡ b
