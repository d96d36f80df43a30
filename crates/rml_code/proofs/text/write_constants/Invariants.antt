use Rattle.std.proofs.Common.{◌≡◌, ◌++◌, take}
use Rattle.rml_code.specs.Text.{lines_from, constant_line}
use Rattle.rml_code.proofs.text.write_constants.Given as goal

abbrev pub invariant-loop-i : goal.invariant-loop-i
invariant-loop-i l = l.out.items ≡ l.fn.out.items ++ lines_from constant_line 0 (take l.i l.listing.constants)
