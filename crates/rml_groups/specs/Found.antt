-- What is found of a group, and when that is so in a program.
use Rattle.std.specs.Prelude.{◌≡◌, ℕ, ◌<◌, ◌≤◌, List, All, Option, Some, None, Vec}
use Rattle.std.specs.declared.alloc.Global.{Global}
use Rattle.std.specs.List.{Contains}
use Rattle.rml_base.specs.declared.limits.TheConstants.{TYPES}
use Rattle.rml_types.specs.declared.scheme.Scheme.{Scheme}
use Rattle.rml_types.specs.declared.tree.SchemeTree.{SchemeTree}
use Rattle.rml_types.specs.Finite.{nodes}
use Rattle.rml_types.specs.General.{IsGeneral, IsNumbered, IsWide}
use Rattle.rml_types.specs.Nodes.{Nodes}
use Rattle.rml_resolved.specs.declared.parts.Parts.{Parts}
use Rattle.rml_typed.specs.Units.{GroupTyped, GroupTypes, InGroup, IsGeneralType}
use Rattle.rml_typed.specs.Untyped.{UntypedGroup}
use Rattle.rml_groups.specs.declared.extent.Extent.TheVariants as extent
use Rattle.rml_groups.specs.declared.general.Inferred.{Inferred}
use Rattle.rml_groups.specs.declared.members.Member.{Member}
use Rattle.rml_groups.specs.declared.whole.Found.{Found}
use Rattle.rml_groups.specs.declared.whole.Found.TheVariants as found
use Rattle.rml_groups.specs.Spots.{CanBeTyped}

-- ---- what is read off a graph

-- the general type of a node, or None where that has too many nodes
abbrev pub IsTypeOf : Nodes → ℕ → Option Scheme → Type 0
IsTypeOf g node (Some s) = IsGeneral g node s.body × IsNumbered s.vars s.body × (nodes s.body ≤ TYPES)
IsTypeOf g node None = IsWide g node TYPES

abbrev pub IsReadOff : Nodes → Member → Inferred → Type 0
IsReadOff g m i = (i.rel ≡ m.number) × IsTypeOf g m.node i.scheme

-- ---- what is found

-- the general type of a relation of the group, its variables numbered as they come, or None where that has too many nodes
abbrev pub IsTypeOfRelation : Parts → ℕ → ℕ → Option Scheme → Type 0
IsTypeOfRelation p text r (Some s) = IsGeneralType p text r s.body × IsNumbered s.vars s.body × (nodes s.body ≤ TYPES)
IsTypeOfRelation p text r None = (body : SchemeTree) × IsGeneralType p text r body × (TYPES < nodes body)

-- the types of the relations of the group, each once or more
pub record AreInferred (p : Parts) (text : ℕ) (all : List Inferred) : Type 0 where
  pub each : All (λ (i : Inferred). InGroup p text i.rel × IsTypeOfRelation p text i.rel i.scheme) all
  pub every : (r : ℕ) → InGroup p text r → (i : Inferred) × Contains all i × (i.rel ≡ r)

-- the group is typed, and these are the types of its relations, or it is untyped
abbrev pub AreGeneral : Parts → ℕ → Option (Vec Inferred Global) → Type 0
AreGeneral p text None = CanBeTyped p text extent.All → ⊥
AreGeneral p text (Some all) = ((S : GroupTypes) × GroupTyped p text S) × AreInferred p text all.items

-- the group is typed, and these are the types of its relations; or it is untyped at this part at the least
abbrev pub IsFound : Parts → ℕ → Found → Type 0
IsFound p text (found.Typed all) = ((S : GroupTypes) × GroupTyped p text S) × AreInferred p text all.items
IsFound p text (found.Untyped place part) = UntypedGroup p text place part
