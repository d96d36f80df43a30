use Rattle.rml_resolved.proofs.Variables.{bound}
use Rattle.rml_resolved.proofs.laws.each_variable_is_bound.Goals as goal

pub returns : goal.returns
returns c = bound
