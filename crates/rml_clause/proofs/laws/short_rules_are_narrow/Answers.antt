use Rattle.rml_clause.proofs.Narrowness.{short_is_narrow}
use Rattle.rml_clause.proofs.laws.short_rules_are_narrow.Goals as goal

pub returns : goal.returns
returns c = short_is_narrow
