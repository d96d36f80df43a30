use Rattle.std.proofs.Common.{◌≡◌, ℕ, ◌+◌, ◌*◌, ◌/◌, List, drop}
use Rattle.std.specs.Int.{w64, from_le_bytes}
use Rattle.rml_prims.specs.Shapes.{AreJoined}
use Rattle.rml_prims.proofs.Joining.{WordsTo}
use Rattle.rml_prims.proofs.packing.add_shifted.Given as goal

abbrev pub invariant-loop-k : goal.invariant-loop-k
invariant-loop-k l = (bytes : List ℕ) (h : AreJoined l.fn.heap.values l.first.at l.first.size l.second.at l.second.size bytes) → WordsTo l.fn.heap (drop (8 * (l.first.size / 8)) bytes) (l.k + 1) l.heap × (l.before ≡ from_le_bytes w64 (drop (8 * l.k) h.right))
