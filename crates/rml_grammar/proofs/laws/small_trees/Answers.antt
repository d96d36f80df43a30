use Rattle.std.proofs.Common.{arith}
use Rattle.rml_grammar.proofs.SizesTexts.{text-size}
use Rattle.rml_grammar.proofs.laws.small_trees.Goals as goal

pub returns-clause-rules : goal.returns-clause-rules
returns-clause-rules c end us t d = (text-size d).rules

pub returns-clause-constructors : goal.returns-clause-constructors
returns-clause-constructors c end us t d = (text-size d).constructors

pub returns-clause-weighs : goal.returns-clause-weighs
returns-clause-weighs c end us t d = let s = (text-size d).weighs in omega arith
