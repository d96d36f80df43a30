-- What tables may hold that a check of types has to do with: a relation at every type, relations whose types are inferred, and an
-- abstype.
use Rattle.std.specs.Prelude.{◌≡◌, ℕ, [], ◌∷◌, Some, slice_get}
use Rattle.rml_types.specs.declared.scheme.Scheme.{Scheme}
use Rattle.rml_types.specs.declared.tree.SchemeTree.TheVariants as tree
use Rattle.rml_builtin.specs.Types.{a, int}
use Rattle.rml_resolved.specs.declared.parts.Parts.{Parts}
use Rattle.rml_resolved.specs.declared.tables.RelDef.{RelDef}
use Rattle.rml_typed.specs.Units.{InGroup}
use Rattle.rml_sound.specs.Full.{definition}

-- a type that stands for the integers in its own text, and a relation there that makes its values
pub record HasAbstype (p : Parts) : Type 0 where
  pub c : ℕ
  pub means : Scheme
  pub stands_for : definition (slice_get p.types c) ≡ Some means
  pub integers : means.body ≡ int
  pub r : ℕ
  pub rel : RelDef
  pub there : slice_get p.rels r ≡ Some rel
  pub scheme : Scheme
  pub declared : rel.scheme ≡ Some scheme
  pub type : scheme.body ≡ tree.Rel (int ∷ []) (tree.Named c [] ∷ [])

-- a relation from every type to itself
pub record HasIdentity (p : Parts) : Type 0 where
  pub r : ℕ
  pub rel : RelDef
  pub there : slice_get p.rels r ≡ Some rel
  pub scheme : Scheme
  pub declared : rel.scheme ≡ Some scheme
  pub type : scheme.body ≡ tree.Rel (a ∷ []) (a ∷ [])

-- a relation of the group of a text
pub record HasGroup (p : Parts) : Type 0 where
  pub text : ℕ
  pub r : ℕ
  pub group : InGroup p text r
