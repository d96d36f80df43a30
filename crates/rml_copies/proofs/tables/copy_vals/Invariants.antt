use Rattle.std.proofs.Common.{◌≡◌, take}
use Rattle.rml_copies.proofs.tables.copy_vals.Given as goal

abbrev pub invariant-loop-val : goal.invariant-loop-val
invariant-loop-val l = l.all ≡ take l.val-index l.vals
