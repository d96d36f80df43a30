use Rattle.rml_type_ops.proofs.Instances.{same-instances}
use Rattle.rml_type_ops.proofs.Mutual.{mutual-instances}
use Rattle.rml_type_ops.proofs.laws.instances_up_to_names.Goals as goal

pub returns-clause-instances : goal.returns-clause-instances
returns-clause-instances c = same-instances

pub returns-clause-mutual_instances : goal.returns-clause-mutual_instances
returns-clause-mutual_instances c = mutual-instances
