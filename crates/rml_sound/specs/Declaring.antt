-- A program in which the types that were inferred are written in, as if they had been declared.
use Rattle.std.specs.Prelude.{◌≡◌, ℕ, List, Some, None, slice_get}
use Rattle.rml_types.specs.declared.scheme.Scheme.{Scheme}
use Rattle.rml_resolved.specs.declared.parts.Parts.{Parts}
use Rattle.rml_resolved.specs.declared.tables.RelDef.{RelDef}
use Rattle.rml_resolved.specs.declared.tables.ValDef.{ValDef}
use Rattle.rml_typed.specs.Own.{own}
use Rattle.rml_typed.specs.Checked.{SchemeOf}

-- the same tables but for the relations, and the same relation but for its type
abbrev pub with_rels : Parts → List RelDef → Parts
with_rels p rels = record p { rels = rels }

abbrev pub with_scheme : RelDef → Scheme → RelDef
with_scheme rel s = record rel { scheme = Some s }

-- a relation or a val of this module stands in this text; in tables that are made of texts each text has one module
pub data IsOf (p : Parts) (text m : ℕ) : Type 0 where
  relation : (r : ℕ) (rel : RelDef) → slice_get p.rels r ≡ Some rel → rel.place.text ≡ text → rel.«module» ≡ m → IsOf p text m
  val : (v : ℕ) (def : ValDef) → slice_get p.vals v ≡ Some def → def.place.text ≡ text → def.«module» ≡ m → IsOf p text m

-- The relation of a number, declared with its scheme: the declared one, or else its general type. In that the abstypes of its text
-- are written out, so that the text reads it as it stands.
pub record IsDeclared (p : Parts) (r : ℕ) (new : RelDef) : Type 0 where
  pub old : RelDef
  pub there : slice_get p.rels r ≡ Some old
  pub scheme : Scheme
  pub is : new ≡ with_scheme old scheme
  pub right : SchemeOf p r scheme
  pub stands : old.scheme ≡ None → (m : ℕ) → IsOf p old.place.text m → own p.types m scheme.body ≡ scheme.body

-- all relations, in the order of their numbers
pub record AreDeclared (p : Parts) (rels : List RelDef) : Type 0 where
  pub each : (r : ℕ) (new : RelDef) → slice_get rels r ≡ Some new → IsDeclared p r new
  pub all : (r : ℕ) (old : RelDef) → slice_get p.rels r ≡ Some old → (new : RelDef) × (slice_get rels r ≡ Some new)
