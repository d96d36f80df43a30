use Rattle.std.proofs.Common.{arith}
use Rattle.std.proofs.lemmas.Bool.Decides.{nat_tests}
use Rattle.rml_fitting.proofs.Begins.{nothing_left}
use Rattle.rml_fitting.proofs.beginning.+begin_types.Goals as goal

pub returns-in-len1-up-empty : goal.returns-in-len1-up-empty
returns-in-len1-up-empty t c = nothing_left _ _ c.args.expected.now c.args.types.now (grind (arith, nat_tests)) (grind (arith, nat_tests))
