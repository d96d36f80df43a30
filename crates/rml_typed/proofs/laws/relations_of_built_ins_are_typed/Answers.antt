use Rattle.rml_typed.proofs.BuiltInRules.{built-in-declared}
use Rattle.rml_typed.proofs.laws.relations_of_built_ins_are_typed.Goals as goal

pub returns : goal.returns
returns c = built-in-declared
