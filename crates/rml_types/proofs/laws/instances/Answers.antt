use Rattle.rml_types.proofs.LabelNumbers.{body-instance}
use Rattle.rml_types.proofs.Substitutions.{instance-instance}
use Rattle.rml_types.proofs.laws.instances.Goals as goal

pub returns-clause-body : goal.returns-clause-body
returns-clause-body c = body-instance

pub returns-clause-instances : goal.returns-clause-instances
returns-clause-instances c = instance-instance
