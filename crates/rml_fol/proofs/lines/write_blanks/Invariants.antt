use Rattle.std.proofs.Common.{◌≡◌, ◌++◌, replicate}
use Rattle.rml_fol.proofs.lines.write_blanks.Given as goal

abbrev pub invariant-loop-done : goal.invariant-loop-done
invariant-loop-done l = l.out.items ≡ l.fn.out.items ++ replicate l._done 32
