use Rattle.std.proofs.Common.{◌≡◌, ℕ, ◌+◌, ◌<◌}
use Rattle.rml_heap.specs.Reading.{cell_at}
use Rattle.rml_heap.proofs.equality.same_cells.Given as goal

abbrev pub invariant-loop-i : goal.invariant-loop-i
invariant-loop-i l = (k : ℕ) → k < l.i → cell_at l.cells (l.task.left + k) ≡ cell_at l.cells (l.task.right + k)
