use Rattle.rml_typed.proofs.Using.{group-alone}
use Rattle.rml_typed.proofs.laws.groups_are_typed_alone.Goals as goal

pub returns : goal.returns
returns c = group-alone
