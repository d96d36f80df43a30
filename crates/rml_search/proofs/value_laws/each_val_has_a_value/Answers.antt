use Rattle.rml_search.proofs.Valued.{each_val}
use Rattle.rml_search.proofs.value_laws.each_val_has_a_value.Goals as goal

pub returns : goal.returns
returns c = each_val
