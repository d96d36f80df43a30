use Rattle.std.proofs.Common.{◌≡◌, ◌++◌, replicate}
use Rattle.rml_escapes.proofs.write_repeated.Given as goal

abbrev pub invariant-loop-done : goal.invariant-loop-done
invariant-loop-done l = l.out.items ≡ l.fn.out.items ++ replicate l._done l.byte
