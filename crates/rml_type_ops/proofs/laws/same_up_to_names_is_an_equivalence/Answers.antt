use Rattle.rml_type_ops.proofs.Renamings.{reflexive, symmetric, transitive}
use Rattle.rml_type_ops.proofs.laws.same_up_to_names_is_an_equivalence.Goals as goal

pub returns : goal.returns
returns c = record { reflexive = reflexive; symmetric = symmetric; transitive = transitive }
