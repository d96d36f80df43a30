use Rattle.std.proofs.Common.{ℕ, length}
use Rattle.rml_resolved.specs.declared.parts.Parts.{Parts}
use Rattle.rml_groups.specs.declared.extent.Extent.TheVariants as extent
use Rattle.rml_groups.specs.Groups.{IsGroupOf}
use Rattle.rml_groups.specs.Spots.{CanBeTyped}
use Rattle.rml_groups.proofs.Searched.{Searching}
use Rattle.rml_groups.proofs.least.least_rule.Given as goal

abbrev pub invariant-loop-alloc : goal.invariant-loop-alloc
invariant-loop-alloc l = (p : Parts) (text : ℕ) → IsGroupOf p text l.unit → (CanBeTyped p text extent.All → ⊥) → Searching p text l.left.items l.found

abbrev pub decreases-loop-alloc : goal.decreases-loop-alloc
decreases-loop-alloc l = length l.left.items
