use Rattle.rml_base.proofs.Callers.{light_same, light_transitive}
use Rattle.rml_simulation.proofs.laws.runs_at_a_limit.Goals as goal

pub returns-clause-same : goal.returns-clause-same
returns-clause-same c = light_same

pub returns-clause-transitive : goal.returns-clause-transitive
returns-clause-transitive c = light_transitive
