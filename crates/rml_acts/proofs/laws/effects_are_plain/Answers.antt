use Rattle.rml_acts.proofs.Keeping.{plain}
use Rattle.rml_acts.proofs.laws.effects_are_plain.Goals as goal

pub returns : goal.returns
returns c = plain
