use Rattle.std.proofs.Common.{◌≡◌, suc, ◌+◌, ◌*◌, ◌/◌, ◌<◌, ◌≤◌, ◌^◌, List, length, drop, ap, ◌∙◌, arith, rules, inl}
use Rattle.std.specs.Int.{w64}
use Rattle.std.proofs.lemmas.Int.{to_z-of_z}
use Rattle.rml_heap.specs.declared.cell.Cell.{Cell}
use Rattle.rml_heap.specs.Text.{words_for, word_of_bytes, word_cell}
use Rattle.rml_heap.specs.Reading.{cell_at}
use Rattle.rml_prims.proofs.TextCells.{word-there}
use Rattle.rml_prims.proofs.texts.word_at.Goals as goal

pub overflow_add-text : goal.overflow_add-text
overflow_add-text c =
    let cells : List Cell = c.args.heap.now.values in
    let small : length cells < 2 ^ 27 = omega (arith, c.used-used.ensures.used, c.used-used.ensures.within, c.used-used.ensures.limit) in
    let fits : suc (c.args.text.at + words_for c.args.text.size) ≤ length cells = c.requires.text.2.fits in
    let before : c.args.i / 8 < words_for c.args.text.size = let i = c.requires.inside in omega (arith, i) in
    omega (arith, fits, before, small)

pub overflow_add-text-2 : goal.overflow_add-text-2
overflow_add-text-2 c =
    let cells : List Cell = c.args.heap.now.values in
    let small : length cells < 2 ^ 27 = omega (arith, c.used-used.ensures.used, c.used-used.ensures.within, c.used-used.ensures.limit) in
    let fits : suc (c.args.text.at + words_for c.args.text.size) ≤ length cells = c.requires.text.2.fits in
    let before : c.args.i / 8 < words_for c.args.text.size = let i = c.requires.inside in omega (arith, i) in
    omega (arith, fits, before, small)

pub get-requires : goal.get-requires
get-requires c =
    let cells : List Cell = c.args.heap.now.values in
    let small : length cells < 2 ^ 27 = omega (arith, c.used-used.ensures.used, c.used-used.ensures.within, c.used-used.ensures.limit) in
    let fits : suc (c.args.text.at + words_for c.args.text.size) ≤ length cells = c.requires.text.2.fits in
    let before : c.args.i / 8 < words_for c.args.text.size = let i = c.requires.inside in omega (arith, i) in
    let low : c.args.text.at + 1 + c.args.i / 8 < length cells = omega (arith, fits, before) in
    inl low

pub returns : goal.returns
returns c = λ d bytes is.
    let cells : List Cell = c.args.heap.now.values in
    let small : length cells < 2 ^ 27 = omega (arith, c.used-used.ensures.used, c.used-used.ensures.within, c.used-used.ensures.limit) in
    let fits : suc (c.args.text.at + words_for c.args.text.size) ≤ length cells = c.requires.text.2.fits in
    let before : c.args.i / 8 < words_for c.args.text.size = let i = c.requires.inside in omega (arith, i) in
    let low : c.args.text.at + 1 + c.args.i / 8 < length cells = omega (arith, fits, before) in
    let place : c.args.text.at + 1 + c.args.i / 8 ≡ suc (c.args.text.at + c.args.i / 8) = omega arith in
    let cell : c.get.result ≡ word_cell (word_of_bytes (drop (8 * (c.args.i / 8)) bytes)) = c.get.ensures.value low ∙ ap (cell_at cells) place ∙ word-there cells d c.args.text.at c.args.text.size bytes (c.args.i / 8) before is in
    to_z-of_z w64 c.get.result.number (search rules) ∙ ap (λ (e : Cell). e.number) cell
