use Rattle.std.proofs.Common.{◌≡◌, ◌++◌, take}
use Rattle.rml_code.specs.Text.{registers_text}
use Rattle.rml_code.proofs.words.write_registers.Given as goal

abbrev pub invariant-loop-r : goal.invariant-loop-r
invariant-loop-r l = l.out.items ≡ l.fn.out.items ++ registers_text (take l.r-index l.rs)
