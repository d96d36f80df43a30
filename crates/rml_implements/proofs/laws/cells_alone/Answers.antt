use Rattle.rml_implements.proofs.SetRules.{word-rule, const-rule, call-value-rule}
use Rattle.rml_implements.proofs.laws.cells_alone.Goals as goal

pub returns : goal.returns
returns c = record { words = word-rule; constants = const-rule; calls_of_values = call-value-rule }
