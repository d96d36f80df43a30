use Rattle.std.proofs.Common.{◌≡◌, ℕ, suc, ◌<◌, ◌^◌, [], ◌∷◌, ◌++◌, length, ap, subst, ◌∙◌, arith}
use Rattle.rml_heap.specs.declared.cell.Cell.{Cell}
use Rattle.rml_heap.specs.HeapState.{HeapState}
use Rattle.rml_heap.specs.Form.{address}
use Rattle.rml_heap.specs.Reading.{cell_at}
use Rattle.rml_prims.specs.Shapes.{block_cell, vector_head}
use Rattle.rml_prims.proofs.ListCells.{Further, cons-place}
use Rattle.rml_prims.proofs.MadeVectors.{Copied, copied-all, copied-at, copied-room, copied-some, copied-start, copied-step, vector-makes}
use Rattle.rml_prims.proofs.vectors.add_vector.Goals as goal

pub loop-i-init : goal.loop-i-init
loop-i-init c = λ items is long.
    copied-start c.args.heap.now c.add.new.self items c.args.size c.args.list is (c.add.ensures ∙ ap (λ (d : Cell). record c.args.heap.now { values = c.args.heap.now.values ++ d ∷ [] }) c.vector_head.ensures)

pub item_of-item-requires : goal.item_of-item-requires
item_of-item-requires c =
    let old : HeapState = c.args.heap.now in
    let inside : c.loop-i._i < c.args.size = omega (arith, c.loop-i-test.true) in
    let h : Copied old c.requires.list.0 c.args.size c.loop-i._i c.loop-i.heap c.loop-i.rest = c.loop-i.invariant c.requires.list.0 c.requires.list.1 c.requires.list.2 in
    let f : Further old.values h.top c.loop-i.rest h.left = copied-some old c.loop-i.heap c.requires.list.0 c.args.size c.loop-i._i c.loop-i.rest c.requires.list.2 inside h in
    copied-at old c.loop-i.heap c.requires.list.0 c.args.size c.loop-i._i c.loop-i.rest h f

pub tail_of-rest-requires : goal.tail_of-rest-requires
tail_of-rest-requires c =
    let old : HeapState = c.args.heap.now in
    let inside : c.loop-i._i < c.args.size = omega (arith, c.loop-i-test.true) in
    let h : Copied old c.requires.list.0 c.args.size c.loop-i._i c.loop-i.heap c.loop-i.rest = c.loop-i.invariant c.requires.list.0 c.requires.list.1 c.requires.list.2 in
    let f : Further old.values h.top c.loop-i.rest h.left = copied-some old c.loop-i.heap c.requires.list.0 c.args.size c.loop-i._i c.loop-i.rest c.requires.list.2 inside h in
    copied-at old c.loop-i.heap c.requires.list.0 c.args.size c.loop-i._i c.loop-i.rest h f

pub add-requires-in-loop-i : goal.add-requires-in-loop-i
add-requires-in-loop-i c =
    let old : HeapState = c.args.heap.now in
    let inside : c.loop-i._i < c.args.size = omega (arith, c.loop-i-test.true) in
    let h : Copied old c.requires.list.0 c.args.size c.loop-i._i c.loop-i.heap c.loop-i.rest = c.loop-i.invariant c.requires.list.0 c.requires.list.1 c.requires.list.2 in
    let f : Further old.values h.top c.loop-i.rest h.left = copied-some old c.loop-i.heap c.requires.list.0 c.args.size c.loop-i._i c.loop-i.rest c.requires.list.2 inside h in
    copied-room old c.loop-i.heap c.requires.list.0 c.args.size c.loop-i._i c.loop-i.rest c.requires.room inside h

pub loop-i-preserved : goal.loop-i-preserved
loop-i-preserved c = λ items is long.
    let old : HeapState = c.args.heap.now in
    let inside : c.loop-i._i < c.args.size = omega (arith, c.loop-i-test.true) in
    let h : Copied old items c.args.size c.loop-i._i c.loop-i.heap c.loop-i.rest = c.loop-i.invariant items is long in
    let f : Further old.values h.top c.loop-i.rest h.left = copied-some old c.loop-i.heap items c.args.size c.loop-i._i c.loop-i.rest long inside h in
    let small : length old.values < 2 ^ 32 = omega (arith, c.used-used.ensures.used, c.used-used.ensures.within, c.used-used.ensures.limit) in
    let within = h.within in
    let top : h.top < 2 ^ 32 = omega (arith, within, small) in
    let place : address c.loop-i.rest.number ≡ f.at = cons-place old.values h.top c.loop-i.rest f.at f.item top f.cons in
    copied-step old c.loop-i.heap c.add-in-loop-i.new.self items c.args.size c.loop-i._i c.loop-i.rest c.item_of-item.result c.tail_of-rest.result h f
    (c.item_of-item.ensures ∙ ap (λ n. cell_at c.loop-i.heap.values (suc n)) place) (c.tail_of-rest.ensures ∙ ap (λ n. cell_at c.loop-i.heap.values (suc (suc n))) place) c.add-in-loop-i.ensures

pub returns-clause-makes : goal.returns-clause-makes
returns-clause-makes c = λ items is long.
    let old : HeapState = c.args.heap.now in
    let end : c.loop-i._i ≡ c.args.size = omega (arith, c.loop-i-test.false, c.loop-i.auto._i-end) in
    let L : ℕ → Type 0 = λ i. Copied old items c.args.size i c.loop-i.heap c.loop-i.rest in
    vector-makes old c.loop-i.heap c.args.list c.block.result items c.args.size c.requires.room long is
    (copied-all old c.loop-i.heap items c.args.size c.loop-i.rest long (subst L end (c.loop-i.invariant items is long))) (c.block.ensures ∙ ap block_cell c.top-at.ensures)

pub returns-clause-grows : goal.returns-clause-grows
returns-clause-grows c =
    let h = c.loop-i.invariant c.requires.list.0 c.requires.list.1 c.requires.list.2 in
    record { cells = vector_head c.args.size ∷ h.made; is = h.heap }
