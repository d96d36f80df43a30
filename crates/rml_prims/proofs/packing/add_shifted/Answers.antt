use Rattle.std.proofs.Common.{◌≡◌, ℕ, ◌+◌, ◌-◌, ◌*◌, ◌/◌, ◌%◌, ◌<◌, List, drop, refl, sym, ap, subst, ◌∙◌, arith, rules}
use Rattle.std.specs.Int.{w64, cast_signed, from_le_bytes}
use Rattle.std.proofs.lemmas.Int.{to_z-of_z}
use Rattle.std.proofs.lemmas.List.{drop-drop}
use Rattle.rml_heap.specs.HeapState.{HeapState}
use Rattle.rml_heap.specs.Text.{word_cell, word_of_bytes, words_for}
use Rattle.rml_heap.proofs.Callers.{each-drop}
use Rattle.rml_prims.proofs.Joining.{WordsTo, shifted-word, words-none, words-room, words-step, words-text}
use Rattle.rml_prims.proofs.packing.add_shifted.Goals as goal

pub bits_at-before-requires-clause-text : goal.bits_at-before-requires-clause-text
bits_at-before-requires-clause-text c =
    let old : HeapState = c.args.heap.now in
    let h = c.requires.texts.1 in
    let bs : List ℕ = drop (8 * (c.args.first.size / 8)) c.requires.texts.0 in
    let word = to_z-of_z w64 c.middle_word-word.result (search rules) ∙ c.middle_word-word.ensures c.requires.texts.0 h in
    let one : WordsTo old bs 1 c.add.new.self = words-step old old c.add.new.self bs 0 c.int.result (words-none old bs) (c.int.ensures ∙ ap word_cell word) c.add.ensures in
    (h.d, h.right, words-text old c.add.new.self h.d c.args.second.at c.args.second.size 1 bs h.right h.second one)

pub loop-k-init : goal.loop-k-init
loop-k-init c = λ bytes h.
    let old : HeapState = c.args.heap.now in
    let bs : List ℕ = drop (8 * (c.args.first.size / 8)) bytes in
    let word = to_z-of_z w64 c.middle_word-word.result (search rules) ∙ c.middle_word-word.ensures bytes h in
    let one : WordsTo old bs 1 c.add.new.self = words-step old old c.add.new.self bs 0 c.int.result (words-none old bs) (c.int.ensures ∙ ap word_cell word) c.add.ensures in
    (one, c.bits_at-before.ensures h.d h.right (words-text old c.add.new.self h.d c.args.second.at c.args.second.size 1 bs h.right h.second one))

pub bits_at-next-requires-clause-text : goal.bits_at-next-requires-clause-text
bits_at-next-requires-clause-text c =
    let old : HeapState = c.args.heap.now in
    let h = c.requires.texts.1 in
    let bs : List ℕ = drop (8 * (c.args.first.size / 8)) c.requires.texts.0 in
    let words = (c.loop-k.invariant c.requires.texts.0 h).0 in
    (h.d, h.right, words-text old c.loop-k.heap h.d c.args.second.at c.args.second.size (c.loop-k.k + 1) bs h.right h.second words)

pub add-requires-in-loop-k : goal.add-requires-in-loop-k
add-requires-in-loop-k c =
    let bs : List ℕ = drop (8 * (c.args.first.size / 8)) c.requires.texts.0 in
    let inside : c.loop-k.k + 1 < words_for (c.args.first.size + c.args.second.size) - c.args.first.size / 8 = omega (arith, c.loop-k-test.true, c.words_for.ensures) in
    words-room c.args.heap.now c.loop-k.heap bs (c.loop-k.k + 1) (words_for (c.args.first.size + c.args.second.size) - c.args.first.size / 8) c.requires.room inside (c.loop-k.invariant c.requires.texts.0 c.requires.texts.1).0

pub loop-k-preserved : goal.loop-k-preserved
unfolding word_of_bytes
loop-k-preserved c = λ bytes h.
    let old : HeapState = c.args.heap.now in
    let k : ℕ = c.loop-k.k in
    let r : ℕ = 8 - c.args.first.size % 8 in
    let bs : List ℕ = drop (8 * (c.args.first.size / 8)) bytes in
    let done = c.loop-k.invariant bytes h in
    let text = words-text old c.loop-k.heap h.d c.args.second.at c.args.second.size (k + 1) bs h.right h.second done.0 in
    let next : c.bits_at-next.result ≡ from_le_bytes w64 (drop (8 * (k + 1)) h.right) = c.bits_at-next.ensures h.d h.right text in
    let place : 8 * (k + 1) ≡ 8 * k + 8 = omega arith in
    let second : c.bits_at-next.result ≡ from_le_bytes w64 (drop 8 (drop (8 * k) h.right)) = next ∙ ap (λ n. from_le_bytes w64 (drop n h.right)) place ∙ ap (from_le_bytes w64) (sym (drop-drop 8 (8 * k) h.right)) in
    let joined : c.across.result ≡ from_le_bytes w64 (drop r (drop (8 * k) h.right)) = c.across.ensures (drop (8 * k) h.right) (each-drop (8 * k) h.right h.second.each) done.1 second in
    let word = to_z-of_z w64 c.cast_signed.result (search rules) ∙ c.cast_signed.ensures ∙ ap (cast_signed w64) joined
    ∙ shifted-word old.values c.args.first.at c.args.first.size c.args.second.at c.args.second.size bytes k r h c.requires.midst refl
    in
    (words-step old c.loop-k.heap c.add-in-loop-k.new.self bs (k + 1) c.int-in-loop-k.result done.0 (c.int-in-loop-k.ensures ∙ ap word_cell word) c.add-in-loop-k.ensures, next)

pub returns : goal.returns
returns c = λ bytes h.
    let bs : List ℕ = drop (8 * (c.args.first.size / 8)) bytes in
    let count : c.loop-k.k + 1 ≡ words_for (c.args.first.size + c.args.second.size) - c.args.first.size / 8 = omega (arith, c.loop-k-test.false, c.loop-k.auto.k-end, c.words_for.ensures, c.requires.midst) in
    let L : ℕ → Type 0 = λ n. WordsTo c.args.heap.now bs n c.loop-k.heap in
    subst L count (c.loop-k.invariant bytes h).0
