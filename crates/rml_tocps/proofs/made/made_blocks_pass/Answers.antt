use Rattle.rml_tocps.proofs.Choices.{fail-passes, give-passes, goto-passes, or-passes, all-one, all-more}
use Rattle.rml_tocps.proofs.Switches.{switch-passes}
use Rattle.rml_tocps.proofs.Wholes.{cond-passes, body-passes}
use Rattle.rml_tocps.proofs.made.made_blocks_pass.Goals as goal

pub returns : goal.returns
returns c = record { fails = fail-passes; gives = give-passes; gotos = goto-passes; ors = or-passes; alternatives = all-one; others = all-more; conds = cond-passes; bodies = body-passes; switches = switch-passes }
