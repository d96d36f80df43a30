use Rattle.rml_simulation.proofs.Tried.{fading_local, fading_carries, fading_simulates}
use Rattle.rml_simulation.proofs.examples.from_direct_to_told.Goals as goal

pub returns-clause-local : goal.returns-clause-local
returns-clause-local c = fading_local

pub returns-clause-carries : goal.returns-clause-carries
returns-clause-carries c = fading_carries

pub returns-clause-simulates : goal.returns-clause-simulates
returns-clause-simulates c = fading_simulates
