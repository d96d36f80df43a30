use Rattle.std.proofs.Common.{◌≡◌, drop}
use Rattle.std.specs.List.{list_all}
use Rattle.rml_resolved.specs.Binding.{binds_once}
use Rattle.rml_checked.proofs.binding.is_relation_bound_once.Given as goal

abbrev pub invariant-loop-rule : goal.invariant-loop-rule
invariant-loop-rule l = list_all binds_once l.rel.rules ≡ list_all binds_once (drop l.rule-index l.rel.rules)
