use Rattle.rml_clauses.proofs.Kept.{keeps}
use Rattle.rml_clauses.proofs.laws.tables_keep_facts.Goals as goal

pub returns : goal.returns
returns c = keeps
