use Rattle.std.proofs.Common.{arith}
use Rattle.rml_fol.specs.Text.{val_line}
use Rattle.rml_fol.proofs.Separated.{numbered-slice-written}
use Rattle.rml_fol.proofs.text.write_vals.Goals as goal

pub loop-i-preserved : goal.loop-i-preserved
loop-i-preserved c =
    numbered-slice-written c.args.out.now.items (val_line c.args.parts.now) c.args.parts.now.vals c.as_slice-val-items.result.now c.loop-i.i c.val-item.result _
    c.as_slice-val-items.ensures c.loop-i.invariant (omega arith) c.val-item.is c.in_ok-write_val.ensures
