use Rattle.rml_prims.proofs.MadeLists.{Listing}
use Rattle.rml_prims.proofs.lists.add_items.Given as goal

abbrev pub invariant-loop-i : goal.invariant-loop-i
invariant-loop-i l = Listing l.fn.heap l.vector.at l.vector.size l.i l.heap l.list
