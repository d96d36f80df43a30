use Rattle.rml_equations.proofs.CodedTypes.{coded-Rel, coded-inst, decoded-Rel, decoded-coded, decoded-inst}
use Rattle.rml_equations.proofs.laws.codings_keep_instances.Goals as goal

pub returns-clause-undone : goal.returns-clause-undone
returns-clause-undone c = decoded-coded

pub returns-clause-instances_coded : goal.returns-clause-instances_coded
returns-clause-instances_coded c = coded-inst

pub returns-clause-instances_decoded : goal.returns-clause-instances_decoded
returns-clause-instances_decoded c = decoded-inst

pub returns-clause-relations_coded : goal.returns-clause-relations_coded
returns-clause-relations_coded c = coded-Rel

pub returns-clause-relations_decoded : goal.returns-clause-relations_decoded
returns-clause-relations_decoded c = decoded-Rel
