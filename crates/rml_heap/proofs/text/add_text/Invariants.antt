use Rattle.std.proofs.Common.{◌≡◌, ◌++◌, ◌∷◌, length, map}
use Rattle.std.specs.Prelude.{pos}
use Rattle.rml_heap.specs.Text.{packed, word_cell}
use Rattle.rml_heap.proofs.text.add_text.Given as goal

abbrev pub invariant-loop-i : goal.invariant-loop-i
invariant-loop-i l = l.heap ≡ record l.fn.heap { values = l.fn.heap.values ++ (record { kind = 5; number = pos (length l.bytes) } ∷ map word_cell (packed l.i l.bytes)) }
