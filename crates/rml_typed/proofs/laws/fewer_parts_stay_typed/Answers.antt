use Rattle.rml_typed.proofs.Fewer.{declared-fewer, group-parts-fewer}
use Rattle.rml_typed.proofs.laws.fewer_parts_stay_typed.Goals as goal

pub returns-clause-rule : goal.returns-clause-rule
returns-clause-rule c = declared-fewer

pub returns-clause-group : goal.returns-clause-group
returns-clause-group c = group-parts-fewer
