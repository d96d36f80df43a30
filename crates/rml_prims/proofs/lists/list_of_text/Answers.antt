use Rattle.std.proofs.Common.{suc, ◌+◌, ◌≤◌, List, [], length, refl, ap, sym, arith}
use Rattle.std.proofs.lemmas.List.{append-nil}
use Rattle.rml_heap.specs.declared.cell.Cell.{Cell}
use Rattle.rml_heap.specs.Text.{words_for}
use Rattle.rml_prims.proofs.SpelledLists.{spelled-full}
use Rattle.rml_prims.proofs.lists.list_of_text.Goals as goal

pub overflow_mul-text : goal.overflow_mul-text
overflow_mul-text c =
    let fits : suc (c.args.text.at + words_for c.args.text.size) ≤ length c.args.heap.now.values = c.requires.2.fits in
    let small : length c.args.heap.now.values ≤ 67_108_864 = omega (arith, c.used-used.ensures.used, c.used-used.ensures.within, c.used-used.ensures.limit) in
    omega (arith, fits, small)

pub returns-in-Err-clause-makes : goal.returns-in-Err-clause-makes
returns-in-Err-clause-makes c = λ d bytes text. spelled-full c.args.heap.now _ d c.in-Err.full c.args.text.at c.args.text.size bytes c.in-Err.ensures.full refl text

pub returns-in-Err-clause-grows : goal.returns-in-Err-clause-grows
returns-in-Err-clause-grows c = record { cells = []; is = ap (λ (vs : List Cell). record c.args.heap.now { values = vs }) (sym (append-nil c.args.heap.now.values)) }
