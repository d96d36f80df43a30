use Rattle.rml_clauses.proofs.Made.{tables-narrow}
use Rattle.rml_clauses.proofs.laws.tables_are_narrow.Goals as goal

pub returns : goal.returns
returns c = tables-narrow
