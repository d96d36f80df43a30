-- Programs that are typed, and the schemes of their relations and vals: what a check of types is to answer.
use Rattle.std.specs.Prelude.{◌≡◌, ℕ, ◌≤◌, length, map, Some, slice_get}
use Rattle.std.specs.List.{Contains}
use Rattle.rml_base.specs.declared.limits.TheConstants.{TYPES}
use Rattle.rml_types.specs.declared.scheme.Scheme.{Scheme}
use Rattle.rml_types.specs.declared.tree.SchemeTree.{SchemeTree}
use Rattle.rml_types.specs.Finite.{nodes}
use Rattle.rml_types.specs.General.{IsNumbered}
use Rattle.rml_resolved.specs.declared.parts.Parts.{Parts}
use Rattle.rml_resolved.specs.declared.tables.ValDef.{ValDef}
use Rattle.rml_resolved.specs.declared.tables.RelDef.{RelDef}
use Rattle.rml_resolved.specs.declared.tables.RRule.{RRule}
use Rattle.rml_typed.specs.declared.answers.Typed.{Typed}
use Rattle.rml_typed.specs.Units.{InGroup, GroupTypes, GroupTyped, IsGeneralType, DeclaredTyped, ValTyped}

-- a relation of a group has a general type within the limit
pub record HasNarrowType (p : Parts) (text r : ℕ) : Type 0 where
  pub body : SchemeTree
  pub general : IsGeneralType p text r body
  pub narrow : nodes body ≤ TYPES

-- each group, each rule of a declared relation and each val is typed, and no inferred type is over the limit
pub record IsTyped (p : Parts) : Type 0 where
  pub groups : (text : ℕ) → (S : GroupTypes) × GroupTyped p text S
  pub narrow : (text r : ℕ) → InGroup p text r → HasNarrowType p text r
  pub rules : (r : ℕ) (rel : RelDef) (s : Scheme) (rule : RRule) → slice_get p.rels r ≡ Some rel → rel.scheme ≡ Some s → Contains rel.rules rule → DeclaredTyped p rel s rule
  pub vals : (v : ℕ) (val : ValDef) → slice_get p.vals v ≡ Some val → ValTyped p val

-- the scheme of a relation: the declared one, or else its general type, with its variables numbered as they come
pub data SchemeOf (p : Parts) (r : ℕ) (s : Scheme) : Type 0 where
  declared : (rel : RelDef) → slice_get p.rels r ≡ Some rel → rel.scheme ≡ Some s → SchemeOf p r s
  inferred : (text : ℕ) → InGroup p text r → IsGeneralType p text r s.body → IsNumbered s.vars s.body → SchemeOf p r s

-- a scheme for each relation and each val, in the order of their numbers
pub record HasSchemes (p : Parts) (typed : Typed) : Type 0 where
  pub rel_count : length typed.rels ≡ length p.rels
  pub rels : (r : ℕ) (s : Scheme) → slice_get typed.rels r ≡ Some s → SchemeOf p r s
  pub vals : typed.vals ≡ map (λ (v : ValDef). v.scheme) p.vals
