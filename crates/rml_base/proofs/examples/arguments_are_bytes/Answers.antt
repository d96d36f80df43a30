use Rattle.rml_base.proofs.Narrowed.{narrowed_is_light, narrowed_is_not_same}
use Rattle.rml_base.proofs.examples.arguments_are_bytes.Goals as goal

pub returns-clause-bytes : goal.returns-clause-bytes
returns-clause-bytes c = narrowed_is_light

pub returns-clause-others : goal.returns-clause-others
returns-clause-others c = narrowed_is_not_same
