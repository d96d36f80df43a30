use Rattle.rml_simulation.proofs.Learned.{learned}
use Rattle.rml_simulation.proofs.laws.what_is_learned.Goals as goal

pub returns : goal.returns
returns g c = learned
