use Rattle.rml_simulation.proofs.Tried.{once_for_twice}
use Rattle.rml_simulation.proofs.examples.once_is_enough.Goals as goal

pub returns : goal.returns
returns c = once_for_twice
