use Rattle.rml_heap.proofs.Kept.{agrees-more, agrees-set, agrees-take, agrees-content, agrees-names}
use Rattle.rml_heap.proofs.laws.cells_agree.Goals as goal

pub returns-clause-added : goal.returns-clause-added
returns-clause-added c = agrees-more

pub returns-clause-written : goal.returns-clause-written
returns-clause-written c = agrees-set

pub returns-clause-taken_back : goal.returns-clause-taken_back
returns-clause-taken_back c = agrees-take

pub returns-clause-content : goal.returns-clause-content
returns-clause-content c = agrees-content

pub returns-clause-named : goal.returns-clause-named
returns-clause-named c = agrees-names
