use Rattle.rml_code.proofs.Rising.{hops-enough}
use Rattle.rml_code.proofs.laws.turns_end.Goals as goal

pub returns : goal.returns
returns c = hops-enough
