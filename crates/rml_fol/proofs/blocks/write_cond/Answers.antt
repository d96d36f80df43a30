use Rattle.rml_fol.proofs.Waits.{three-are-written}
use Rattle.rml_fol.proofs.blocks.write_cond.Goals as goal

pub returns-clause-lines : goal.returns-clause-lines
returns-clause-lines c = λ p. three-are-written _ _ _ _ _ _ _ _ _ _ _ _ c.in_ok-write_line.ensures.text (c.in_ok-wait.ensures.lines p) (c.in_ok-wait-2.ensures.lines p) (c.in_ok-wait_deeper.ensures.lines p)
