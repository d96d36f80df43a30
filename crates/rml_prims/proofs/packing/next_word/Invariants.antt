use Rattle.std.proofs.Common.{◌≡◌, ℕ, ◌<◌, List, drop, length, get_or}
use Rattle.rml_prims.specs.Shapes.{AreChars}
use Rattle.rml_prims.proofs.packing.next_word.Given as goal

abbrev pub invariant-loop-i : goal.invariant-loop-i
invariant-loop-i l = record {
  size : length l.word ≡ 8;
  done : (bytes : List ℕ) → AreChars l.heap.values l.fn.list bytes → (j : ℕ) → j < l.i → get_or l.word j 0 ≡ get_or bytes j 0;
  left : (bytes : List ℕ) → AreChars l.heap.values l.fn.list bytes → AreChars l.heap.values l.rest (drop l.i bytes);
}
