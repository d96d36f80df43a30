use Rattle.rml_typed.proofs.Owned.{own-same}
use Rattle.rml_typed.proofs.laws.types_without_definitions_stand.Goals as goal

pub returns : goal.returns
returns c = own-same
