use Rattle.std.proofs.Common.{sym, arith}
use Rattle.rml_lex.specs.Literal.{text_step, text_stop}
use Rattle.rml_lex.proofs.Machines.{done, dead, goes-on}
use Rattle.rml_lex.proofs.literal.text_end.Goals as goal

pub returns-in-Done : goal.returns-in-Done
returns-in-Done c = done text_stop text_step _ _ _ _ c.loop-i.invariant.leads _ (omega arith) (sym c.in-Done.ensures.step)

pub loop-i-preserved : goal.loop-i-preserved
loop-i-preserved c = record {
  leads = goes-on text_stop text_step _ _ _ _ c.loop-i.invariant.leads _ (omega arith) (sym c.in-On.ensures.step);
  place = omega (arith, c.in-On.ensures.within.0);
  count = omega (arith, c.in-On.ensures.within.1);
  digits = c.in-On.ensures.within.2;
}

pub returns-in-Dead : goal.returns-in-Dead
returns-in-Dead c = rw c.stopped_at.ensures (dead text_stop text_step _ _ _ _ c.loop-i.invariant.leads (omega arith) (sym c.in-Dead.ensures.step))
