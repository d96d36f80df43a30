use Rattle.rml_search.proofs.Valued.{val_is_its_expression}
use Rattle.rml_search.proofs.value_laws.a_val_is_its_expression.Goals as goal

pub returns : goal.returns
returns c = val_is_its_expression
