use Rattle.std.proofs.Common.{◌≡◌, ◌++◌, drop}
use Rattle.rml_resolved.specs.Binding.{all_use}
use Rattle.rml_checked.proofs.binding.+expressions.Given as goal

abbrev pub invariant-with_all_used-loop-exp : goal.invariant-with_all_used-loop-exp
invariant-with_all_used-loop-exp l = l.fn.all ++ all_use l.exps ≡ l.all ++ all_use (drop l.exp-index l.exps)
