use Rattle.std.proofs.Common.{◌≡◌, ◌≤◌, length}
use Rattle.rml_trail.specs.TrailState.{Fits}
use Rattle.rml_cell_bench.proofs.calls.run_row.Given as goal

abbrev pub invariant-loop-k : goal.invariant-loop-k
invariant-loop-k l = (l.heap ≡ l.fn.heap) × Fits l.trail l.heap × (length l.outputs ≡ 1) × (l.done ≤ l._k)
