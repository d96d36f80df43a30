use Rattle.std.proofs.Common.{length}
use Rattle.rml_parse.proofs.Clauses.{ClausesSoFar}
use Rattle.rml_parse.proofs.rules.more_rules.Given as goal

abbrev pub invariant-loop-next : goal.invariant-loop-next
invariant-loop-next l = ClausesSoFar l.levels l.most l.fn.spots l.items.items l.left l.rest

abbrev pub decreases-loop-next : goal.decreases-loop-next
decreases-loop-next l = length l.rest
