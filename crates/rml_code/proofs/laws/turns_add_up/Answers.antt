use Rattle.rml_code.proofs.MoreTurns.{turns-more}
use Rattle.rml_code.proofs.laws.turns_add_up.Goals as goal

pub returns : goal.returns
returns c = turns-more
