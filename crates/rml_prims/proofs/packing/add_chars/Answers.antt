use Rattle.std.proofs.Common.{◌≡◌, ℕ, ◌+◌, ◌*◌, ◌<◌, List, [], ◌∷◌, ◌++◌, drop, length, subst, sym, ap, ◌∙◌, arith, rules}
use Rattle.std.specs.Int.{w64}
use Rattle.std.proofs.lemmas.Int.{to_z-of_z}
use Rattle.rml_heap.specs.declared.cell.Cell.{Cell}
use Rattle.rml_heap.specs.HeapState.{HeapState, HasRoom}
use Rattle.rml_heap.specs.Text.{word_cell, words_for}
use Rattle.rml_prims.specs.Shapes.{AreChars, text_head}
use Rattle.rml_prims.proofs.PackedTexts.{chars-more, chars-word, packed-room, packed-start, packed-step}
use Rattle.rml_prims.proofs.packing.add_chars.Goals as goal

pub loop-k-init : goal.loop-k-init
loop-k-init c = λ bytes h long.
    let head : c.text_head.result ≡ text_head (length bytes) = c.text_head.ensures ∙ ap text_head (sym long) in
    let values : c.add.new.self.values ≡ c.args.heap.now.values ++ c.text_head.result ∷ [] = ap (λ (s : HeapState). s.values) c.add.ensures in
    let P : List Cell → Type 0 = λ ws. AreChars ws c.args.list bytes in
    (packed-start c.args.heap.now c.add.new.self bytes c.text_head.result head c.add.ensures, subst P (sym values) (chars-more c.args.heap.now.values (c.text_head.result ∷ []) c.args.list bytes h))

pub add-requires-in-loop-k : goal.add-requires-in-loop-k
add-requires-in-loop-k c =
    let t = c.requires.list in
    let R : ℕ → Type 0 = λ n. HasRoom c.args.heap.now (1 + words_for n) in
    let long : length t.0 ≡ c.args.size = t.2 in
    let inside : c.loop-k._k < words_for (length t.0) = omega (arith, long, c.loop-k-test.true, c.words_for-k-end.ensures, c.loop-k.auto._k-end) in
    packed-room c.args.heap.now c.loop-k.heap t.0 c.loop-k._k (subst R (sym long) c.requires.room) inside (c.loop-k.invariant t.0 t.1 t.2).0

pub loop-k-preserved : goal.loop-k-preserved
loop-k-preserved c = λ bytes h long.
    let was = c.loop-k.invariant bytes h long in
    let word = to_z-of_z w64 c.next_word-word.result.0 (search rules) ∙ c.next_word-word.ensures.word (drop (8 * c.loop-k._k) bytes) was.1 in
    let left : AreChars c.loop-k.heap.values c.next_word-word.result.1 (drop (8 * (c.loop-k._k + 1)) bytes) =
    chars-word c.loop-k.heap.values c.next_word-word.result.1 bytes c.loop-k._k (c.next_word-word.ensures.left (drop (8 * c.loop-k._k) bytes) was.1)
    in
    let values : c.add-in-loop-k.new.self.values ≡ c.loop-k.heap.values ++ c.int.result ∷ [] = ap (λ (s : HeapState). s.values) c.add-in-loop-k.ensures in
    let P : List Cell → Type 0 = λ ws. AreChars ws c.next_word-word.result.1 (drop (8 * (c.loop-k._k + 1)) bytes) in (
      packed-step c.args.heap.now c.loop-k.heap c.add-in-loop-k.new.self bytes c.loop-k._k c.int.result was.0 (c.int.ensures ∙ ap word_cell word) c.add-in-loop-k.ensures,
      subst P (sym values) (chars-more c.loop-k.heap.values (c.int.result ∷ []) c.next_word-word.result.1 (drop (8 * (c.loop-k._k + 1)) bytes) left),
    )
