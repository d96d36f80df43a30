use Rattle.std.proofs.Common.{◌≡◌, ℕ, ◌*◌, List, drop, length}
use Rattle.rml_prims.specs.Shapes.{AreChars}
use Rattle.rml_prims.proofs.PackedTexts.{PackedTo}
use Rattle.rml_prims.proofs.packing.add_chars.Given as goal

abbrev pub invariant-loop-k : goal.invariant-loop-k
invariant-loop-k l = (bytes : List ℕ) → AreChars l.fn.heap.values l.fn.list bytes → length bytes ≡ l.size → PackedTo l.fn.heap bytes l._k l.heap × AreChars l.heap.values l.rest (drop (8 * l._k) bytes)
