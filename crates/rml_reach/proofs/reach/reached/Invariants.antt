use Rattle.std.proofs.Common.{◌+◌, length}
use Rattle.rml_reach.specs.Left.{left}
use Rattle.rml_reach.specs.WorkList.{IsWorkList}
use Rattle.rml_reach.proofs.reach.reached.Given as goal

abbrev pub invariant-loop-node : goal.invariant-loop-node
invariant-loop-node l = IsWorkList l.edges l.from l.seen.items l.waiting.items

abbrev pub decreases-loop-node : goal.decreases-loop-node
decreases-loop-node l = left l.seen.items l.edges + length l.waiting.items
