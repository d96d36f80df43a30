use Rattle.std.proofs.Common.{◌≡◌, ℕ, ◌<◌, length, get_or}
use Rattle.rml_heap.proofs.text.word_of.Given as goal

abbrev pub invariant-loop-i : goal.invariant-loop-i
invariant-loop-i l = record {
  size : length l.word ≡ 8;
  done : (k : ℕ) → k < l.i → get_or l.word k 0 ≡ get_or l.bytes k 0;
}
