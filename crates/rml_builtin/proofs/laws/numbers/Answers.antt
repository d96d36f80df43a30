use Rattle.rml_builtin.proofs.Rows.{at-number, number-at}
use Rattle.rml_builtin.proofs.laws.numbers.Goals as goal

pub returns-clause-stands : goal.returns-clause-stands
returns-clause-stands c = at-number

pub returns-clause-once : goal.returns-clause-once
returns-clause-once c = number-at
