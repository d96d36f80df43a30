use Rattle.std.proofs.Common.{arith}
use Rattle.rml_base.proofs.ByteStrings.{each_below}
use Rattle.rml_base.proofs.bytes.tell_bytes.Goals as goal

pub returns : goal.returns
returns c = each_below c.args.bytes.now (λ i. let fits = c.type_inv.bytes i in omega (arith, fits))
