use Rattle.rml_clauses.proofs.Made.{tables-light}
use Rattle.rml_clauses.proofs.laws.tables_are_light.Goals as goal

pub returns : goal.returns
returns c = tables-light
