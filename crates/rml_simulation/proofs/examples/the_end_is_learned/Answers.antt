use Rattle.rml_simulation.proofs.Tried.{plodding_part, plodding_known}
use Rattle.rml_simulation.proofs.examples.the_end_is_learned.Goals as goal

pub returns-clause-part : goal.returns-clause-part
returns-clause-part c = plodding_part

pub returns-clause-known : goal.returns-clause-known
returns-clause-known c = plodding_known
