use Rattle.std.proofs.Common.{◌≡◌, drop}
use Rattle.std.specs.List.{flat_map}
use Rattle.rml_print.specs.Texts.{rule_lines}
use Rattle.rml_print.specs.Written.{with_lines}
use Rattle.rml_print.proofs.rules.print_rules.Given as goal

abbrev pub invariant-loop-rule : goal.invariant-loop-rule
invariant-loop-rule l = with_lines l.fn.page (flat_map rule_lines l.rules) ≡ with_lines l.page (flat_map rule_lines (drop l.rule-index l.rules))
