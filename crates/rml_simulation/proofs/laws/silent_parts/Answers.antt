use Rattle.rml_simulation.proofs.Silent.{silent_answer, silent_failure}
use Rattle.rml_simulation.proofs.laws.silent_parts.Goals as goal

pub returns-clause-answer : goal.returns-clause-answer
returns-clause-answer g c = silent_answer

pub returns-clause-failure : goal.returns-clause-failure
returns-clause-failure g c = silent_failure
