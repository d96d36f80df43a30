-- The rules of a group, by where they stand and how many parts they have.
use Rattle.std.specs.Prelude.{◌≡◌, ◌||◌, ◌&&◌, ◌==◌, if◌then◌else◌, ℕ, zero, suc, ◌<◌, Bool, true, nat_lt, not, List, length, All, Option, Some, None, slice_get}
use Rattle.std.specs.List.{Contains}
use Rattle.rml_base.specs.Order.{is_before}
use Rattle.rml_resolved.specs.declared.parts.Parts.{Parts}
use Rattle.rml_resolved.specs.declared.tables.RelDef.{RelDef}
use Rattle.rml_resolved.specs.declared.tables.RRule.{RRule}
use Rattle.rml_typed.specs.declared.answers.Part.{Part}
use Rattle.rml_typed.specs.declared.answers.Part.TheVariants.{Head, Premise, Results}
use Rattle.rml_typed.specs.Parts.{pieces}
use Rattle.rml_typed.specs.Units.{GroupCanBeTyped, GroupFirstTyped, GroupTypes}
use Rattle.rml_typed.specs.Untyped.{IsLeastUntyped}
use Rattle.rml_groups.specs.declared.extent.Extent.{Extent}
use Rattle.rml_groups.specs.declared.spots.Spot.{Spot}
use Rattle.rml_groups.specs.Groups.{is_member, parts_in}

abbrev pub spot_of : RRule → Spot
spot_of rule = record { place = rule.place; parts = length (pieces rule) }

-- one stands behind another, or at its place with more parts
abbrev pub comes_after : Spot → Spot → Bool
comes_after a b = is_before b.place a.place || (not (is_before a.place b.place) && nat_lt b.parts a.parts)

-- a rule of the group stands here
pub record IsSpotOf (rels : List RelDef) (text : ℕ) (s : Spot) : Type 0 where
  pub r : ℕ
  pub rel : RelDef
  pub there : slice_get rels r ≡ Some rel
  pub member : is_member text rel ≡ true
  pub rule : RRule
  pub among : Contains rel.rules rule
  pub is : s ≡ spot_of rule

-- these are the rules of the group
pub record HasAllSpots (rels : List RelDef) (text : ℕ) (spots : List Spot) : Type 0 where
  pub sound : All (IsSpotOf rels text) spots
  pub every : (s : Spot) → IsSpotOf rels text s → Contains spots s

-- some types type these parts of the group
abbrev pub CanBeTyped : Parts → ℕ → Extent → Type 0
CanBeTyped p text extent = (S : GroupTypes) × GroupFirstTyped p text S (parts_in extent)

-- a rule of the group, such that some types type the parts before it, and none these and all parts at its place
pub record IsUntypedAt (p : Parts) (text : ℕ) (s : Spot) : Type 0 where
  pub of : IsSpotOf p.rels text s
  pub before : GroupCanBeTyped p text s.place 0
  pub never : GroupCanBeTyped p text s.place s.parts → ⊥

abbrev pub IsRuleFound : Parts → ℕ → Option Spot → Type 0
IsRuleFound p text None = ⊥
IsRuleFound p text (Some s) = IsUntypedAt p text s

-- a rule of the group, and the number of the part of it that is the least at which the group is untyped
pub record IsLeastAt (p : Parts) (text : ℕ) (s : Spot) (number : ℕ) : Type 0 where
  pub of : IsSpotOf p.rels text s
  pub within : number < s.parts
  pub least : IsLeastUntyped (GroupCanBeTyped p text s.place) number

-- where there is one
abbrev pub IsLeastPart : Parts → ℕ → Option (Spot × ℕ) → Type 0
IsLeastPart p text None = ⊥
IsLeastPart p text (Some least) = IsLeastAt p text least.0 least.1

-- the part of a number, in a rule of so many parts
abbrev pub part_by : ℕ → ℕ → Part
part_by parts zero = Head
part_by parts (suc k) = if suc (suc k) == parts then Results else Premise (suc k)
