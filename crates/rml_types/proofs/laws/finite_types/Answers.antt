use Rattle.rml_types.proofs.FiniteTypes.{known-by-tree}
use Rattle.rml_types.proofs.laws.finite_types.Goals as goal

pub returns : goal.returns
returns c = record { trees = known-by-tree }
