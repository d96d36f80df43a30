use Rattle.rml_conversion_ends.proofs.MadeEnds.{relation-ends, relations-end}
use Rattle.rml_conversion_ends.proofs.laws.what_is_made_ends.Goals as goal

pub returns : goal.returns
returns c = record { relations = relation-ends; tables = λ p ended. relations-end p.rels ended }
