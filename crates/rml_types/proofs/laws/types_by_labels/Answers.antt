use Rattle.std.proofs.Common.{sym}
use Rattle.rml_types.proofs.LabelNumbers.{labels-nodes, labels-one, labels-ready, variables-labels}
use Rattle.rml_types.proofs.laws.types_by_labels.Goals as goal

pub returns-clause-one : goal.returns-clause-one
returns-clause-one c = labels-one

pub returns-clause-ready : goal.returns-clause-ready
returns-clause-ready c = labels-ready

pub returns-clause-nodes : goal.returns-clause-nodes
returns-clause-nodes c = labels-nodes

pub returns-clause-variables : goal.returns-clause-variables
returns-clause-variables c t = sym (variables-labels t)
