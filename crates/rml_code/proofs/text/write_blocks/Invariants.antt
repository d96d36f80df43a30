use Rattle.std.proofs.Common.{◌≡◌, ◌++◌, take}
use Rattle.rml_code.specs.Text.{lines_from, block_lines}
use Rattle.rml_code.proofs.text.write_blocks.Given as goal

abbrev pub invariant-loop-b : goal.invariant-loop-b
invariant-loop-b l = l.out.items ≡ l.fn.out.items ++ lines_from block_lines 0 (take l.b l.listing.blocks)
