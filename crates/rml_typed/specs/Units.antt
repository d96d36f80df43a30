-- What is typed together: all rules of a text's group, of relations whose types are not declared, by types that they share; each
-- rule of a declared relation by itself; each val by itself. The text of a relation or val is that of its place.
use Rattle.std.specs.Prelude.{◌≡◌, ◌↔◌, ℕ, if◌then◌else◌, length, Some, None, option_map, slice_get}
use Rattle.std.specs.List.{Contains}
use Rattle.rml_base.specs.declared.place.Place.{Place}
use Rattle.rml_base.specs.Order.{is_before}
use Rattle.rml_types.specs.declared.scheme.Scheme.{Scheme}
use Rattle.rml_types.specs.declared.tree.SchemeTree.{SchemeTree, out-SchemeTree}
use Rattle.rml_types.specs.Instances.{IsInstance}
use Rattle.rml_resolved.specs.declared.parts.Parts.{Parts}
use Rattle.rml_resolved.specs.declared.tables.ConDef.{ConDef}
use Rattle.rml_resolved.specs.declared.tables.ValDef.{ValDef}
use Rattle.rml_resolved.specs.declared.tables.RelDef.{RelDef}
use Rattle.rml_resolved.specs.declared.tables.RRule.{RRule}
use Rattle.rml_typed.specs.Own.{own}
use Rattle.rml_typed.specs.Typed.{Assigned, Declared, Uses, ExpOf}
use Rattle.rml_typed.specs.Parts.{RelType, as_type, pieces, FirstTyped, sides}

-- ---- what a text reads of the tables

-- the schemes of constructors and vals as the text of a module reads them
abbrev pub declared : Parts → ℕ → Declared
declared p m = record {
  con = λ c. option_map (λ (d : ConDef). own p.types m d.scheme.body) (slice_get p.cons c);
  val = λ v. option_map (λ (d : ValDef). own p.types m d.scheme.body) (slice_get p.vals v);
}

-- a relation of a text's group: its type is declared in neither place
pub record InGroup (p : Parts) (text r : ℕ) : Type 0 where
  pub rel : RelDef
  pub there : slice_get p.rels r ≡ Some rel
  pub undeclared : rel.scheme ≡ None
  pub here : rel.place.text ≡ text

-- How a rule of a text uses relations: one whose type is declared at an instance of that, as the text reads it, and one of the
-- text's own group as is said. No text sees the group of another.
pub data Used (p : Parts) (text m : ℕ) (grouped : Uses) (r : ℕ) (t : SchemeTree) : Type 0 where
  by_type : (rel : RelDef) (s : Scheme) → slice_get p.rels r ≡ Some rel → rel.scheme ≡ Some s → IsInstance (own p.types m s.body) t → Used p text m grouped r t
  by_group : InGroup p text r → grouped r t → Used p text m grouped r t

-- ---- the group of a text

-- a finite relation type for each relation of the group
abbrev pub GroupTypes : Type 0
GroupTypes = ℕ → RelType

-- inside the group each relation is used at its one type
abbrev pub inside : GroupTypes → Uses
inside S r t = t ≡ as_type (S r)

-- these types type the first parts of each rule of the group, so many of each
abbrev pub GroupFirstTyped : Parts → ℕ → GroupTypes → (RRule → ℕ) → Type 0
GroupFirstTyped p text S count = (r : ℕ) (g : InGroup p text r) (rule : RRule) → Contains g.rel.rules rule
    → FirstTyped (declared p g.rel.«module») (Used p text g.rel.«module» (inside S)) (S r) rule (count rule)

-- they type all rules of the group
abbrev pub GroupTyped : Parts → ℕ → GroupTypes → Type 0
GroupTyped p text S = GroupFirstTyped p text S (λ rule. length (pieces rule))

-- Of the parts of a group, which are those of its rules in the order of place, those of the rules before a place and the first n
-- at that place: how many of a rule's parts these are.
abbrev pub up_to : Place → ℕ → RRule → ℕ
up_to place n rule = if is_before place rule.place then 0 else if is_before rule.place place then length (pieces rule) else n

-- some types type them
abbrev pub GroupCanBeTyped : Parts → ℕ → Place → ℕ → Type 0
GroupCanBeTyped p text place n = (S : GroupTypes) × GroupFirstTyped p text S (up_to place n)

-- Outside the group a relation is used at an instance of its general type: at a type that it has where some types type the
-- whole group.
abbrev pub outside : Parts → ℕ → Uses
outside p text r t = (S : GroupTypes) × GroupTyped p text S × (t ≡ as_type (S r))

-- the general type of a relation of the group: its instances are exactly those types
abbrev pub IsGeneralType : Parts → ℕ → ℕ → SchemeTree → Type 0
IsGeneralType p text r body = (t : SchemeTree) → IsInstance body t ↔ outside p text r t

-- ---- what stands alone

-- how the rules of declared relations and the vals of a text use relations
abbrev pub alone : Parts → ℕ → ℕ → Uses
alone p text m = Used p text m (outside p text)

-- a relation of this declared type, whose variables stand fixed
abbrev pub declared_type : Parts → RelDef → Scheme → RelType
declared_type p rel s = sides (out-SchemeTree (own p.types rel.«module» s.body))

-- the first n parts of a rule of a relation that is declared with this type
abbrev pub DeclaredFirstTyped : Parts → RelDef → Scheme → RRule → ℕ → Type 0
DeclaredFirstTyped p rel s = FirstTyped (declared p rel.«module») (alone p rel.place.text rel.«module») (declared_type p rel s)

-- the whole rule
abbrev pub DeclaredTyped : Parts → RelDef → Scheme → RRule → Type 0
DeclaredTyped p rel s rule = DeclaredFirstTyped p rel s rule (length (pieces rule))

-- a val's expression has its declared type, whose variables stand fixed; it has no variables, so any types of these will do
abbrev pub ValTyped : Parts → ValDef → Type 0
ValTyped p v = (G : Assigned) × ExpOf (declared p v.«module») (alone p v.place.text v.«module») G v.value (own p.types v.«module» v.scheme.body)
