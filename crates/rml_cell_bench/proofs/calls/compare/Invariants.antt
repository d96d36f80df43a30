use Rattle.std.proofs.Common.{◌≡◌, ◌≤◌}
use Rattle.rml_cell_bench.proofs.calls.compare.Given as goal

abbrev pub invariant-loop-k : goal.invariant-loop-k
invariant-loop-k l = (l.heap ≡ l.fn.heap) × (l.same ≤ l._k)
