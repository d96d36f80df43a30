use Rattle.rml_signatures.proofs.FewTypes.{few-types}
use Rattle.rml_signatures.proofs.laws.few_types_stand_for_others.Goals as goal

pub returns : goal.returns
returns c = few-types
