use Rattle.std.proofs.Common.{◌≡◌}
use Rattle.std.specs.Prelude.{sum_by}
use Rattle.rml_conversion.specs.Hand.{hand, empty}
use Rattle.rml_convert.specs.Waiting.{stmts_in_front, all_made, work}
use Rattle.rml_convert.proofs.turns.block.Given as goal

abbrev pub invariant-loop-next : goal.invariant-loop-next
invariant-loop-next l = all_made l.waiting.items (hand l.made.items l.numbers) ≡ stmts_in_front l.fn.stmts l.fn.failure (empty l.fn.numbers)

abbrev pub decreases-loop-next : goal.decreases-loop-next
decreases-loop-next l = sum_by work l.waiting.items
