use Rattle.rml_types.proofs.General.{narrowest}
use Rattle.rml_types.proofs.laws.general_types.Goals as goal

pub returns : goal.returns
returns c = record { narrowest = narrowest }
