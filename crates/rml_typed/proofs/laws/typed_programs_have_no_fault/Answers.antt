use Rattle.rml_typed.proofs.Faultless.{no-fault}
use Rattle.rml_typed.proofs.laws.typed_programs_have_no_fault.Goals as goal

pub returns : goal.returns
returns c = no-fault
