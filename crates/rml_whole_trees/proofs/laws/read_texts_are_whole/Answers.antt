use Rattle.rml_whole_trees.proofs.Whole.{read-whole, tree-whole, trees-whole}
use Rattle.rml_whole_trees.proofs.laws.read_texts_are_whole.Goals as goal

pub returns-clause-read : goal.returns-clause-read
returns-clause-read c = read-whole

pub returns-clause-over : goal.returns-clause-over
returns-clause-over c = λ number texts names trees all short h. trees-whole names texts number trees all short h

pub returns-clause-one : goal.returns-clause-one
returns-clause-one c = tree-whole
