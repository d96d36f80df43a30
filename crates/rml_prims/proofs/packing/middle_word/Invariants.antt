use Rattle.std.proofs.Common.{◌≡◌, ℕ, ◌+◌, ◌*◌, ◌<◌, List, length, get_or}
use Rattle.rml_prims.specs.Shapes.{AreJoined}
use Rattle.rml_prims.proofs.packing.middle_word.Given as goal

abbrev pub invariant-loop-i : goal.invariant-loop-i
invariant-loop-i l = record {
  size : length l.word ≡ 8;
  done : (bytes : List ℕ) → AreJoined l.heap.values l.first.at l.first.size l.second.at l.second.size bytes → (j : ℕ) → j < l.i → get_or l.word j 0 ≡ get_or bytes (8 * l.k + j) 0;
}
