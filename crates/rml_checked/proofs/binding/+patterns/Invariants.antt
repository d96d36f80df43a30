use Rattle.std.proofs.Common.{◌≡◌, ◌++◌, drop}
use Rattle.rml_resolved.specs.Binding.{all_bind}
use Rattle.rml_checked.proofs.binding.+patterns.Given as goal

abbrev pub invariant-with_all_bound-loop-pattern : goal.invariant-with_all_bound-loop-pattern
invariant-with_all_bound-loop-pattern l = l.fn.all ++ all_bind l.patterns ≡ l.all ++ all_bind (drop l.pattern-index l.patterns)
