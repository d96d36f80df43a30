use Rattle.rml_value.proofs.ListItems.{items_of-list_of, list_of-items}
use Rattle.rml_value.proofs.laws.lists.Goals as goal

pub returns-clause-made : goal.returns-clause-made
returns-clause-made c = items_of-list_of

pub returns-clause-read : goal.returns-clause-read
returns-clause-read c = list_of-items
