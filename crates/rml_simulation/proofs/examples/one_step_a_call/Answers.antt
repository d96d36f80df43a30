use Rattle.rml_simulation.proofs.Tried.{faster, counted_for_plodding}
use Rattle.rml_simulation.proofs.examples.one_step_a_call.Goals as goal

pub returns-clause-carries : goal.returns-clause-carries
returns-clause-carries c = faster

pub returns-clause-simulates : goal.returns-clause-simulates
returns-clause-simulates c = counted_for_plodding
