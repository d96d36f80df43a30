use Rattle.std.proofs.Common.{◌≡◌, drop}
use Rattle.std.specs.List.{list_all}
use Rattle.rml_resolved.specs.Binding.{uses_bound}
use Rattle.rml_checked.proofs.binding.is_relation_used_after.Given as goal

abbrev pub invariant-loop-rule : goal.invariant-loop-rule
invariant-loop-rule l = list_all uses_bound l.rel.rules ≡ list_all uses_bound (drop l.rule-index l.rel.rules)
