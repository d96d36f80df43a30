use Rattle.rml_prims.proofs.Bindings.{binds-added, binds-new, binds-set}
use Rattle.rml_prims.proofs.Premises.{binds-nothing}
use Rattle.rml_prims.proofs.laws.bindings_follow.Goals as goal

pub returns-clause-nothing : goal.returns-clause-nothing
returns-clause-nothing c = binds-nothing

pub returns-clause-added : goal.returns-clause-added
returns-clause-added c = binds-added

pub returns-clause-made : goal.returns-clause-made
returns-clause-made c = binds-new

pub returns-clause-set : goal.returns-clause-set
returns-clause-set c = binds-set
