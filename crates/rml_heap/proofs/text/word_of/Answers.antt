use Rattle.std.proofs.Common.{◌≡◌, ◌≢◌, ℕ, ◌<◌, length, get_or, set, ap, ◌∙◌, arith, rules, below_more, get_or-set_same, get_or-set_other, length-set}
use Rattle.std.specs.Int.{w64, cast_signed}
use Rattle.std.proofs.lemmas.Int.{to_z-of_z}
use Rattle.rml_heap.specs.Text.{word_of_bytes}
use Rattle.rml_heap.proofs.Packing.{word-same}
use Rattle.rml_heap.proofs.text.word_of.Goals as goal

pub returns : goal.returns
unfolding word_of_bytes
returns c =
    to_z-of_z w64 c.from_le_bytes.result (search rules) ∙ c.from_le_bytes.ensures
    ∙ ap (cast_signed w64) (word-same c.loop-i.word c.args.bytes.now (λ i below. c.loop-i.invariant.done i (omega (arith, below, c.loop-i-test.false))))

pub loop-i-preserved : goal.loop-i-preserved
loop-i-preserved c =
    let inside : c.loop-i.i < length c.loop-i.word = omega (arith, c.loop-i.invariant.size) in
    record {
      size = length-set c.loop-i.word c.loop-i.i c.byte_at.result ∙ c.loop-i.invariant.size;
      done = below_more (λ (k : ℕ). get_or (set c.loop-i.word c.loop-i.i c.byte_at.result) k 0 ≡ get_or c.args.bytes.now k 0) c.loop-i.i
          (λ k below.
          let other : k ≢ c.loop-i.i = λ e. omega (arith, e, below) in
          get_or-set_other c.loop-i.word c.loop-i.i k c.byte_at.result 0 other ∙ c.loop-i.invariant.done k below)
          (get_or-set_same c.loop-i.word c.loop-i.i c.byte_at.result 0 inside ∙ c.byte_at.ensures);
    }
