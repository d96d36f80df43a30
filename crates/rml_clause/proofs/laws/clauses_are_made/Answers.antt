use Rattle.rml_clause.proofs.Passed.{made}
use Rattle.rml_clause.proofs.laws.clauses_are_made.Goals as goal

pub returns : goal.returns
returns c = made
