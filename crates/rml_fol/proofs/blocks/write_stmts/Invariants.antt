use Rattle.std.proofs.Common.{◌≡◌, ◌++◌}
use Rattle.std.specs.Prelude.{sum_by}
use Rattle.rml_fol.specs.Waiting.{stmts_lines, all_waiting_lines, work}
use Rattle.rml_fol.proofs.blocks.write_stmts.Given as goal

abbrev pub invariant-loop-next : goal.invariant-loop-next
invariant-loop-next l = l.out.items ++ all_waiting_lines l.parts l.waiting.items ≡ l.fn.out.items ++ stmts_lines l.parts l.fn.stmts l.fn.indent

abbrev pub decreases-loop-next : goal.decreases-loop-next
decreases-loop-next l = sum_by work l.waiting.items
