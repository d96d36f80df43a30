use Rattle.std.proofs.Common.{ℕ, List}
use Rattle.rml_heap.specs.declared.cell.Cell.{Cell}
use Rattle.rml_prims.specs.Shapes.{IsText}
use Rattle.rml_prims.proofs.SpelledLists.{Spelling}
use Rattle.rml_prims.proofs.lists.add_characters.Given as goal

abbrev pub invariant-loop-i : goal.invariant-loop-i
invariant-loop-i l = (c : Cell) (bytes : List ℕ) → IsText l.fn.heap.values c l.text.at l.text.size bytes → Spelling l.fn.heap l.text.size l.i bytes l.heap l.list
