use Rattle.rml_grammar.proofs.Beginnings.{begun, goes-on}
use Rattle.rml_grammar.proofs.laws.begun.Goals as goal

pub returns-clause-before : goal.returns-clause-before
returns-clause-before c end n k before rest f some e left = begun end n k some before rest f e left

pub returns-clause-beyond : goal.returns-clause-beyond
returns-clause-beyond c end n k before rest f some e left limit = goes-on end n k some before rest f e left limit
