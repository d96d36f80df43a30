use Rattle.std.proofs.Common.{arith}
use Rattle.std.proofs.lemmas.Int.{to_z-of_z}
use Rattle.rml_builtin.proofs.Callers.{rem-by_quotient}
use Rattle.rml_prims.proofs.integers.rest.Goals as goal

pub returns : goal.returns
returns c = grind (arith, to_z-of_z, rem-by_quotient)
