use Rattle.std.proofs.Common.{◌≡◌, ◌≤◌, length}
use Rattle.rml_trail.specs.TrailState.{Fits}
use Rattle.rml_cell_bench.specs.Held.{HasStore}
use Rattle.rml_cell_bench.proofs.calls.run_ints.Given as goal

abbrev pub invariant-loop-k : goal.invariant-loop-k
invariant-loop-k l = HasStore l.heap.values × Fits l.trail l.heap × (length l.outputs ≡ 1) × (l.done ≤ l.k)
