use Rattle.rml_grammar.proofs.LimitsLaws.{large, one-tree}
use Rattle.rml_grammar.proofs.limits.one_tree.Goals as goal

pub returns-clause-large : goal.returns-clause-large
returns-clause-large c = large

pub returns-clause-one : goal.returns-clause-one
returns-clause-one c = one-tree
