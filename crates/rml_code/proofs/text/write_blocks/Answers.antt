use Rattle.std.proofs.Common.{◌++◌, ap, ◌∙◌, arith}
use Rattle.rml_code.specs.Text.{block_lines}
use Rattle.rml_code.proofs.Written.{numbered-slice-written}
use Rattle.rml_code.proofs.text.write_blocks.Goals as goal

pub loop-b-preserved : goal.loop-b-preserved
loop-b-preserved c =
    numbered-slice-written c.args.out.now.items block_lines c.args.listing.now.blocks c.as_slice-block-items.result.now c.loop-b.b c.block-item.result _
    c.as_slice-block-items.ensures c.loop-b.invariant (omega arith) c.block-item.is
    (c.in_ok-write_block.ensures ∙ ap (λ z. c.loop-b.out.items ++ block_lines c.loop-b.b z) c.as_slice.ensures)
