use Rattle.std.proofs.Common.{sym, arith}
use Rattle.rml_lex.specs.Comment.{comment_step, comment_stop}
use Rattle.rml_lex.proofs.Machines.{done, goes-on}
use Rattle.rml_lex.proofs.comment.comment_end.Goals as goal

pub returns-in-Done : goal.returns-in-Done
returns-in-Done c = done comment_stop comment_step _ _ _ _ c.loop-i.invariant.leads _ (omega arith) (sym c.in-Done.ensures.step)

pub loop-i-preserved : goal.loop-i-preserved
loop-i-preserved c = record {
  leads = goes-on comment_stop comment_step _ _ _ _ c.loop-i.invariant.leads _ (omega arith) (sym c.in-On.ensures.step);
  shallow = omega (arith, c.in-On.ensures.depth);
}
