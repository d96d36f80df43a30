use Rattle.std.proofs.Common.{List, length}
use Rattle.rml_heap.specs.declared.cell.Cell.{Cell}
use Rattle.rml_prims.specs.Shapes.{IsList}
use Rattle.rml_prims.proofs.ListCells.{Walk, left_of}
use Rattle.rml_prims.proofs.lists.list_size.Given as goal

abbrev pub invariant-items : goal.invariant-items
invariant-items l = (items : List Cell) → IsList l.heap.values (length l.heap.values) l.fn.list items → Walk l.heap.values items l.size l.rest

abbrev pub decreases-items : goal.decreases-items
decreases-items l = left_of l.rest
