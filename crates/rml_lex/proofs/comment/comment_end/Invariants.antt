use Rattle.std.proofs.Common.{◌≤◌, ◌+◌}
use Rattle.rml_lex.specs.Comment.{comment_step, comment_stop}
use Rattle.rml_lex.specs.declared.comment.Half.TheVariants.{Neither}
use Rattle.rml_lex.proofs.Machines.{Leads}
use Rattle.rml_lex.proofs.comment.comment_end.Given as goal

abbrev pub invariant-loop-i : goal.invariant-loop-i
invariant-loop-i l = record {
  leads : Leads comment_stop comment_step (record { depth = 1; half = Neither }) l.bytes l.i l.state;
  shallow : l.state.depth ≤ l.i + 1;
}
