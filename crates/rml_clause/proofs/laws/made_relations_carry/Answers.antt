use Rattle.rml_clause.proofs.Rules.{made_keeps, made_earns}
use Rattle.rml_clause.proofs.laws.made_relations_carry.Goals as goal

pub returns : goal.returns
returns c = record { each = made_keeps; first = made_earns }
