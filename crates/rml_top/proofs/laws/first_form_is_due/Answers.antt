use Rattle.rml_top.proofs.FirstDue.{first-due}
use Rattle.rml_top.proofs.laws.first_form_is_due.Goals as goal

pub returns : goal.returns
returns c = first-due
