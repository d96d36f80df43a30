use Rattle.rml_simulation.proofs.Tried.{told_local, told_is_fading}
use Rattle.rml_simulation.proofs.examples.failing_is_told.Goals as goal

pub returns-clause-local : goal.returns-clause-local
returns-clause-local c = told_local

pub returns-clause-corresponds : goal.returns-clause-corresponds
returns-clause-corresponds c = told_is_fading
