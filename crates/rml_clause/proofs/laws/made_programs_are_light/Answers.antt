use Rattle.rml_clause.proofs.Programs.{made_light}
use Rattle.rml_clause.proofs.laws.made_programs_are_light.Goals as goal

pub returns : goal.returns
returns c = made_light
