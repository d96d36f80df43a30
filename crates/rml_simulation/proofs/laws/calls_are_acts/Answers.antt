use Rattle.rml_simulation.proofs.Carried.{acted_to, acted_by_steps}
use Rattle.rml_simulation.proofs.laws.calls_are_acts.Goals as goal

pub returns-clause-to : goal.returns-clause-to
returns-clause-to g c = acted_to

pub returns-clause-by_steps : goal.returns-clause-by_steps
returns-clause-by_steps g c = acted_by_steps
