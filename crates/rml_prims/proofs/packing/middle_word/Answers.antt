use Rattle.std.proofs.Common.{◌≡◌, ℕ, ◌*◌, ◌<◌, drop, get_or, sym, ap, ◌∙◌, arith, rules}
use Rattle.std.specs.Int.{w64, cast_signed}
use Rattle.std.proofs.lemmas.Int.{to_z-of_z}
use Rattle.std.proofs.lemmas.List.{get_or-drop}
use Rattle.rml_heap.specs.Text.{word_of_bytes}
use Rattle.rml_heap.proofs.Callers.{word-same}
use Rattle.rml_prims.proofs.packing.middle_word.Goals as goal

pub returns : goal.returns
unfolding word_of_bytes
returns c = λ bytes h.
    let all : (j : ℕ) → j < 8 → get_or c.loop-i.word j 0 ≡ get_or (drop (8 * c.args.k) bytes) j 0 =
    λ j below. c.loop-i.invariant.done bytes h j (omega (arith, below, c.loop-i-test.false)) ∙ sym (get_or-drop (8 * c.args.k) bytes j 0)
    in
    to_z-of_z w64 c.from_le_bytes.result (search rules) ∙ c.from_le_bytes.ensures ∙ ap (cast_signed w64) (word-same c.loop-i.word (drop (8 * c.args.k) bytes) all)
