use Rattle.std.proofs.Common.{◌≡◌, ◌++◌, drop}
use Rattle.rml_types.specs.Waiting.{argument_pairs}
use Rattle.rml_types.proofs.graph.unify.meet.Given as goal

abbrev pub invariant-loop-i : goal.invariant-loop-i
invariant-loop-i l = l.work.items ++ argument_pairs (drop l.i l.args) (drop l.i l.others) ≡ l.initial.work.items ++ argument_pairs l.args l.others
