use Rattle.std.proofs.Common.{◌≡◌, ℕ, ◌+◌, length, map, refl, ap, subst, sym, ◌∙◌}
use Rattle.std.proofs.lemmas.List.{length-map}
use Rattle.rml_heap.specs.HeapState.{HasRoom}
use Rattle.rml_heap.specs.Text.{words_for}
use Rattle.rml_prims.specs.Shapes.{block_cell, char_cell}
use Rattle.rml_prims.specs.Found.{DoNotFit}
use Rattle.rml_prims.proofs.PackedTexts.{chars-list}
use Rattle.rml_prims.proofs.packing.text_of_list.Goals as goal

pub list_size-size-requires : goal.list_size-size-requires
list_size-size-requires c = (map char_cell c.requires.0, chars-list c.args.heap.now.values c.args.list c.requires.0 c.requires.1)

pub add_chars-requires-clause-list : goal.add_chars-requires-clause-list
add_chars-requires-clause-list c =
    let bytes = c.requires.0 in
    (bytes, c.requires.1, sym (c.list_size-size.ensures.size (map char_cell bytes) (chars-list c.args.heap.now.values c.args.list bytes c.requires.1) ∙ length-map bytes char_cell))

pub returns-in-Ok : goal.returns-in-Ok
returns-in-Ok c = λ bytes h.
    let size : c.list_size-size.result ≡ length bytes = c.list_size-size.ensures.size (map char_cell bytes) (chars-list c.args.heap.now.values c.args.list bytes h) ∙ length-map bytes char_cell in
    let words : c.words_for.result ≡ words_for (length bytes) = c.words_for.ensures ∙ ap words_for size in
    let R : ℕ → Type 0 = λ n. HasRoom c.args.heap.now (1 + n) in
    (subst R words c.in-Ok.ensures.room, c.add_chars.ensures bytes h (sym size), c.block.ensures ∙ ap block_cell c.in-Ok.ensures.at)

pub returns-in-Err : goal.returns-in-Err
returns-in-Err c = λ bytes h.
    let size : c.list_size-size.result ≡ length bytes = c.list_size-size.ensures.size (map char_cell bytes) (chars-list c.args.heap.now.values c.args.list bytes h) ∙ length-map bytes char_cell in
    let words : c.words_for.result ≡ words_for (length bytes) = c.words_for.ensures ∙ ap words_for size in
    let D : ℕ → Type 0 = λ n. DoNotFit c.args.heap.now (1 + n) c.in-Err.full in
    (subst D words c.in-Err.ensures.full, refl)
