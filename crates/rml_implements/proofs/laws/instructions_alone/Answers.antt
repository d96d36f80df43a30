use Rattle.rml_implements.proofs.StateRules.{move-rule, load-rule, drop-rule, goto-rule, fewer-rule}
use Rattle.rml_implements.proofs.PackRules.{pack-rule}
use Rattle.rml_implements.proofs.laws.instructions_alone.Goals as goal

pub returns : goal.returns
returns c = record { moves = move-rule; loads = load-rule; packs = pack-rule; drops = drop-rule; goes = goto-rule; fewer = fewer-rule }
