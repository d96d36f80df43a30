use Rattle.rml_resolved.proofs.Words.{typed}
use Rattle.rml_resolved.proofs.laws.the_prelude_is_typed.Goals as goal

pub returns : goal.returns
returns c = typed
