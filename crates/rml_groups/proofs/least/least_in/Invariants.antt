use Rattle.std.proofs.Common.{◌-◌, ◌<◌, ◌≤◌, ℕ, Some, max}
use Rattle.rml_resolved.specs.declared.parts.Parts.{Parts}
use Rattle.rml_groups.specs.Groups.{IsGroupOf}
use Rattle.rml_groups.specs.Spots.{IsRuleFound}
use Rattle.rml_groups.proofs.Halved.{IsBetween}
use Rattle.rml_groups.proofs.least.least_in.Given as goal

abbrev pub invariant-loop-typed : goal.invariant-loop-typed
invariant-loop-typed l = record {
  fits : l.typed < max l.untyped 1;
  within : l.untyped ≤ l.rule.parts;
  between : (p : Parts) (text : ℕ) → IsGroupOf p text l.unit → IsRuleFound p text (Some l.rule) → IsBetween p text l.rule l.typed l.untyped;
}

abbrev pub decreases-loop-typed : goal.decreases-loop-typed
decreases-loop-typed l = l.untyped - l.typed
