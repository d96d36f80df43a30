use Rattle.rml_parse.proofs.Exact.{answer-of, fault-only, limits-of, tree-of}
use Rattle.rml_parse.proofs.answer.parse.Goals as goal

pub returns-clause-answer : goal.returns-clause-answer
returns-clause-answer c = answer-of c.args.end c.args.spots.now c.answer.result c.answer.ensures

pub returns-clause-tree : goal.returns-clause-tree
returns-clause-tree c = tree-of c.args.end c.args.spots.now c.answer.result (answer-of c.args.end c.args.spots.now c.answer.result c.answer.ensures)

pub returns-clause-fault : goal.returns-clause-fault
returns-clause-fault c = fault-only c.args.end c.args.spots.now c.answer.result (answer-of c.args.end c.args.spots.now c.answer.result c.answer.ensures)

pub returns-clause-limits : goal.returns-clause-limits
returns-clause-limits c = limits-of c.args.end c.args.spots.now c.answer.result (answer-of c.args.end c.args.spots.now c.answer.result c.answer.ensures)
