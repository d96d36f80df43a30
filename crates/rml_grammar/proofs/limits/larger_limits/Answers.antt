use Rattle.rml_grammar.proofs.LimitsLargerTexts.{same-fault, later-fault}
use Rattle.rml_grammar.proofs.limits.larger_limits.Goals as goal

pub returns-clause-same : goal.returns-clause-same
returns-clause-same c = same-fault

pub returns-clause-later : goal.returns-clause-later
returns-clause-later c = later-fault
