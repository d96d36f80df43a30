use Rattle.rml_simulation.proofs.SimulatesMoves.{light}
use Rattle.rml_simulation.proofs.laws.simulates_is_light.Goals as goal

pub returns : goal.returns
returns g c = light _ _ c.requires.right c.requires.simulates
