use Rattle.rml_prims.proofs.Premises.{made-can, set-can, sum-can}
use Rattle.rml_prims.proofs.laws.premises_are_met.Goals as goal

pub returns-clause-sum : goal.returns-clause-sum
returns-clause-sum c = sum-can

pub returns-clause-made : goal.returns-clause-made
returns-clause-made c = made-can

pub returns-clause-set : goal.returns-clause-set
returns-clause-set c = set-can
