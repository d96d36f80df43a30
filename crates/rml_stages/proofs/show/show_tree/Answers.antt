use Rattle.std.proofs.Common.{Ok, rules}
use Rattle.rml_stages.proofs.Calls.{gives-tree, refuses-tree}
use Rattle.rml_stages.proofs.show.show_tree.Goals as goal

pub returns-in_err-text-clause-answer : goal.returns-in_err-text-clause-answer
returns-in_err-text-clause-answer c = search rules

pub returns-in_err-text-clause-shows : goal.returns-in_err-text-clause-shows
returns-in_err-text-clause-shows c = gives-tree c.args.bytes.now c.from_residual.result (returns-in_err-text-clause-answer c)

pub returns-in_err-text-clause-refuses : goal.returns-in_err-text-clause-refuses
returns-in_err-text-clause-refuses c = refuses-tree c.args.bytes.now c.from_residual.result (returns-in_err-text-clause-answer c)

pub returns-clause-answer : goal.returns-clause-answer
returns-clause-answer c = search rules

pub returns-clause-shows : goal.returns-clause-shows
returns-clause-shows c = gives-tree c.args.bytes.now (Ok c.in_ok-print_tree.field-0) (returns-clause-answer c)

pub returns-clause-refuses : goal.returns-clause-refuses
returns-clause-refuses c = refuses-tree c.args.bytes.now (Ok c.in_ok-print_tree.field-0) (returns-clause-answer c)
