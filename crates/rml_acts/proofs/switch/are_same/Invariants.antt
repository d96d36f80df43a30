use Rattle.std.proofs.Common.{◌≡◌, ℕ, ◌+◌, ◌<◌}
use Rattle.rml_heap.specs.Reading.{cell_at}
use Rattle.rml_acts.proofs.switch.are_same.Given as goal

abbrev pub invariant-loop-k : goal.invariant-loop-k
invariant-loop-k l = (j : ℕ) → j < l.k → cell_at l.heap.values (l.right + j) ≡ cell_at l.heap.values (l.left + j)
