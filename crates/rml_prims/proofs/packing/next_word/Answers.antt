use Rattle.std.proofs.Common.{◌≡◌, ◌≢◌, ℕ, ◌<◌, drop, length, get_or, set, ap, ◌∙◌, arith, rules, below_more, get_or-set_same, get_or-set_other, length-set}
use Rattle.std.specs.Int.{w64, cast_signed}
use Rattle.std.proofs.lemmas.Int.{to_z-of_z}
use Rattle.std.proofs.lemmas.List.{get_or-drop}
use Rattle.rml_heap.specs.Text.{word_of_bytes}
use Rattle.rml_heap.proofs.Callers.{word-same}
use Rattle.rml_prims.proofs.PackedTexts.{chars-next}
use Rattle.rml_prims.proofs.packing.next_word.Goals as goal

pub next_char-c-requires : goal.next_char-c-requires
next_char-c-requires c = (drop c.loop-i.i c.requires.0, c.loop-i.invariant.left c.requires.0 c.requires.1)

pub loop-i-preserved : goal.loop-i-preserved
loop-i-preserved c =
    let i : ℕ = c.loop-i.i in
    let inside : i < length c.loop-i.word = omega (arith, c.loop-i.invariant.size, c.loop-i-test.true) in
    record {
      size = length-set c.loop-i.word i c.next_char-c.result.0 ∙ c.loop-i.invariant.size;
      done = λ bytes h.
          let here : c.next_char-c.result.0 ≡ get_or bytes i 0 = c.next_char-c.ensures.char (drop i bytes) (c.loop-i.invariant.left bytes h) ∙ get_or-drop i bytes 0 0 ∙ ap (λ n. get_or bytes n 0) (omega arith) in
          below_more (λ (k : ℕ). get_or (set c.loop-i.word i c.next_char-c.result.0) k 0 ≡ get_or bytes k 0) i
          (λ k below.
          let other : k ≢ i = λ e. omega (arith, e, below) in
          get_or-set_other c.loop-i.word i k c.next_char-c.result.0 0 other ∙ c.loop-i.invariant.done bytes h k below)
          (get_or-set_same c.loop-i.word i c.next_char-c.result.0 0 inside ∙ here);
      left = λ bytes h. chars-next c.args.heap.now.values c.next_char-c.result.1 bytes i (c.next_char-c.ensures.left (drop i bytes) (c.loop-i.invariant.left bytes h));
    }

pub returns-clause-word : goal.returns-clause-word
unfolding word_of_bytes
returns-clause-word c = λ bytes h.
    let all : (j : ℕ) → j < 8 → get_or c.loop-i.word j 0 ≡ get_or bytes j 0 = λ j below. c.loop-i.invariant.done bytes h j (omega (arith, below, c.loop-i-test.false)) in
    to_z-of_z w64 c.from_le_bytes.result (search rules) ∙ c.from_le_bytes.ensures ∙ ap (cast_signed w64) (word-same c.loop-i.word bytes all)
