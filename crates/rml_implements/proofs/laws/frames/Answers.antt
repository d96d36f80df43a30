use Rattle.rml_implements.proofs.FrameRules.{save-rule}
use Rattle.rml_implements.proofs.GuardRules.{guard-rule}
use Rattle.rml_implements.proofs.laws.frames.Goals as goal

pub returns : goal.returns
returns c = record { saves = save-rule; guards = guard-rule }
