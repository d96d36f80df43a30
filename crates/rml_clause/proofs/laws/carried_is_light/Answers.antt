use Rattle.rml_clause.proofs.Carried.{carried_light}
use Rattle.rml_clause.proofs.laws.carried_is_light.Goals as goal

pub returns : goal.returns
returns c = carried_light
