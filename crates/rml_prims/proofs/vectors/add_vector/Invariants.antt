use Rattle.std.proofs.Common.{◌≡◌, List, length}
use Rattle.rml_heap.specs.declared.cell.Cell.{Cell}
use Rattle.rml_prims.specs.Shapes.{IsList}
use Rattle.rml_prims.proofs.MadeVectors.{Copied}
use Rattle.rml_prims.proofs.vectors.add_vector.Given as goal

abbrev pub invariant-loop-i : goal.invariant-loop-i
invariant-loop-i l = (items : List Cell) → IsList l.fn.heap.values (length l.fn.heap.values) l.fn.list items → length items ≡ l.size → Copied l.fn.heap items l.size l._i l.heap l.rest
