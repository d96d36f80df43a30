use Rattle.rml_grammar.proofs.DepthsTexts.{derived-deep}
use Rattle.rml_grammar.proofs.laws.shallow_trees.Goals as goal

pub returns : goal.returns
returns c = derived-deep
