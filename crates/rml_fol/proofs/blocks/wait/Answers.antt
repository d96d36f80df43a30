use Rattle.std.proofs.Common.{ap, ◌∙◌}
use Rattle.rml_fol.specs.Waiting.{all_waiting_lines}
use Rattle.rml_fol.proofs.Waits.{next-is-written}
use Rattle.rml_fol.proofs.blocks.wait.Goals as goal

pub returns-clause-lines : goal.returns-clause-lines
returns-clause-lines c = λ p. ap (all_waiting_lines p) c.in_ok-push.ensures.items ∙ next-is-written p c.args.waiting.now.items c.args.next
