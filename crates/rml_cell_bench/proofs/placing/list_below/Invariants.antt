use Rattle.rml_cell_bench.proofs.PlacedValues.{Listed}
use Rattle.rml_cell_bench.proofs.placing.list_below.Given as goal

abbrev pub invariant-loop-i : goal.invariant-loop-i
invariant-loop-i l = Listed l.fn.heap l.heap l.i l.list
