use Rattle.rml_agreed.proofs.Counts.{has-meaning}
use Rattle.rml_agreed.proofs.laws.typed_programs_have_meaning.Goals as goal

pub returns : goal.returns
returns c = has-meaning
