-- What is untyped, at which part, and the order in which faults come: text by text; in a text first its group at its least part,
-- then the relations of the group whose general type is too wide, then the rules of declared relations and the vals, by place.
use Rattle.std.specs.Prelude.{◌≡◌, ◌⊎◌, ℕ, suc, ◌<◌, ◌≤◌, Bool, false, IsTrue, ◌&&◌, ◌||◌, ◌==◌, nat_lt, length, Some, slice_get}
use Rattle.std.specs.List.{Contains}
use Rattle.rml_base.specs.declared.limits.TheConstants.{TYPES}
use Rattle.rml_base.specs.declared.place.Place.{Place}
use Rattle.rml_base.specs.Order.{is_before}
use Rattle.rml_types.specs.declared.scheme.Scheme.{Scheme}
use Rattle.rml_types.specs.declared.tree.SchemeTree.{SchemeTree}
use Rattle.rml_types.specs.Finite.{nodes}
use Rattle.rml_resolved.specs.declared.parts.Parts.{Parts}
use Rattle.rml_resolved.specs.declared.tables.ValDef.{ValDef}
use Rattle.rml_resolved.specs.declared.tables.RelDef.{RelDef}
use Rattle.rml_resolved.specs.declared.tables.RRule.{RRule}
use Rattle.rml_typed.specs.declared.answers.Part.{Part}
use Rattle.rml_typed.specs.declared.answers.Part.TheVariants.{Val}
use Rattle.rml_typed.specs.declared.answers.TypeErr.{TypeErr}
use Rattle.rml_typed.specs.declared.answers.TypeErr.TheVariants.{NoTyping, TooWide}
use Rattle.rml_typed.specs.Parts.{pieces, part_at}
use Rattle.rml_typed.specs.Units.{InGroup, GroupCanBeTyped, IsGeneralType, DeclaredFirstTyped, ValTyped}

-- ---- what is untyped

-- What comes before the part of a number can be typed, and with that part it cannot. Since what is typed stays so with fewer
-- parts (see the laws), this is the least part such that nothing types all parts up to it.
pub record IsLeastUntyped (CanBeTyped : ℕ → Type 0) (k : ℕ) : Type 0 where
  pub before : CanBeTyped k
  pub not_with_it : CanBeTyped (suc k) → ⊥

-- a part, by the place of its rule and its number in it, is another or comes before it
abbrev pub IsNotPast : Place → ℕ → Place → ℕ → Type 0
IsNotPast earlier m place n = IsTrue (is_before earlier place) ⊎ ((earlier ≡ place) × (m ≤ n))

-- a rule stands at a place and has a part
pub record HasPart (rule : RRule) (place : Place) (part : Part) : Type 0 where
  pub number : ℕ
  pub within : number < length (pieces rule)
  pub is : part_at rule number ≡ part
  pub at : rule.place ≡ place

-- the group of a text is untyped at a part of one of its rules
pub record UntypedGroup (p : Parts) (text : ℕ) (place : Place) (part : Part) : Type 0 where
  pub r : ℕ
  pub group : InGroup p text r
  pub rule : RRule
  pub among : Contains group.rel.rules rule
  pub has : HasPart rule place part
  pub least : IsLeastUntyped (GroupCanBeTyped p text place) has.number

-- the general type of a relation of the group, whose name stands at this place, has more nodes than the limit
pub record TooWideAt (p : Parts) (text : ℕ) (place : Place) : Type 0 where
  pub r : ℕ
  pub group : InGroup p text r
  pub at : group.rel.place ≡ place
  pub body : SchemeTree
  pub general : IsGeneralType p text r body
  pub wide : TYPES < nodes body

-- a rule of a declared relation is untyped at one of its parts
pub record UntypedRule (p : Parts) (text : ℕ) (place : Place) (part : Part) : Type 0 where
  pub r : ℕ
  pub rel : RelDef
  pub there : slice_get p.rels r ≡ Some rel
  pub here : rel.place.text ≡ text
  pub scheme : Scheme
  pub declared : rel.scheme ≡ Some scheme
  pub rule : RRule
  pub among : Contains rel.rules rule
  pub has : HasPart rule place part
  pub least : IsLeastUntyped (DeclaredFirstTyped p rel scheme rule) has.number

-- a val is untyped
pub record UntypedVal (p : Parts) (text : ℕ) (place : Place) : Type 0 where
  pub v : ℕ
  pub val : ValDef
  pub there : slice_get p.vals v ≡ Some val
  pub here : val.place.text ≡ text
  pub at : val.place ≡ place
  pub never : ValTyped p val → ⊥

-- ---- the order

-- where a fault comes: its text, its turn in the text, its place
pub record Rank : Type 0 where
  pub text : ℕ
  pub turn : ℕ
  pub place : Place

abbrev pub is_earlier : Rank → Rank → Bool
is_earlier a b = nat_lt a.text b.text || ((a.text == b.text) && (nat_lt a.turn b.turn || ((a.turn == b.turn) && is_before a.place b.place)))

abbrev pub rank : ℕ → ℕ → Place → Rank
rank text turn place = record { text = text; turn = turn; place = place }

-- a fault, and where it comes
pub data IsFault (p : Parts) : Rank → TypeErr → Type 0 where
  group : (text : ℕ) (place : Place) (part : Part) → UntypedGroup p text place part → IsFault p (rank text 0 place) (NoTyping place part)
  wide : (text : ℕ) (place : Place) → TooWideAt p text place → IsFault p (rank text 1 place) (TooWide place)
  rule : (text : ℕ) (place : Place) (part : Part) → UntypedRule p text place part → IsFault p (rank text 2 place) (NoTyping place part)
  val : (text : ℕ) (place : Place) → UntypedVal p text place → IsFault p (rank text 2 place) (NoTyping place Val)

-- a fault, and none comes earlier
pub record IsFirstFault (p : Parts) (fault : TypeErr) : Type 0 where
  pub at : Rank
  pub is : IsFault p at fault
  pub first : (other : Rank) (e : TypeErr) → IsFault p other e → is_earlier other at ≡ false
