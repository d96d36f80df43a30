use Rattle.std.proofs.Common.{arith}
use Rattle.rml_code.specs.Text.{constant_line}
use Rattle.rml_code.proofs.Written.{numbered-slice-written}
use Rattle.rml_code.proofs.text.write_constants.Goals as goal

pub loop-i-preserved : goal.loop-i-preserved
loop-i-preserved c =
    numbered-slice-written c.args.out.now.items constant_line c.args.listing.now.constants c.as_slice-constant-items.result.now c.loop-i.i c.constant-item.result _
    c.as_slice-constant-items.ensures c.loop-i.invariant (omega arith) c.constant-item.is c.in_ok-write_constant.ensures
