use Rattle.rml_simulation.proofs.Tried.{slowly_local, told_carries, told_simulates}
use Rattle.rml_simulation.proofs.examples.telling_slowly.Goals as goal

pub returns-clause-local : goal.returns-clause-local
returns-clause-local c = slowly_local

pub returns-clause-carries : goal.returns-clause-carries
returns-clause-carries c = told_carries

pub returns-clause-simulates : goal.returns-clause-simulates
returns-clause-simulates c = told_simulates
