use Rattle.std.proofs.Common.{◌≡◌, ℕ, ◌-◌, ◌<◌, get_or, ap, subst, ◌∙◌, arith}
use Rattle.rml_prims.specs.Shapes.{IsText, char_cell}
use Rattle.rml_prims.proofs.SpelledLists.{Spelling, spelling-start, spelling-step, spelling-room, spelling-text, spelled-makes}
use Rattle.rml_prims.proofs.lists.add_characters.Goals as goal

pub loop-i-init : goal.loop-i-init
loop-i-init c = λ d bytes text. spelling-start c.args.heap.now c.args.text.size bytes c.con-list.result text.long c.con-list.ensures

pub byte_at-requires-clause-text : goal.byte_at-requires-clause-text
byte_at-requires-clause-text c =
    let t = c.requires.text in
    (t.0, t.1, spelling-text c.args.heap.now c.loop-i.heap c.args.text.at c.args.text.size c.loop-i.i t.1 c.loop-i.list t.0 t.2 (c.loop-i.invariant t.0 t.1 t.2))

pub add_cons-list-requires : goal.add_cons-list-requires
add_cons-list-requires c =
    let t = c.requires.text in
    let inside : c.loop-i.i < c.args.text.size = omega (arith, c.loop-i-test.true) in
    spelling-room c.args.heap.now c.loop-i.heap c.args.text.size c.loop-i.i t.1 c.loop-i.list c.requires.room inside (c.loop-i.invariant t.0 t.1 t.2)

pub loop-i-preserved : goal.loop-i-preserved
loop-i-preserved c = λ d bytes text.
    let inside : c.loop-i.i < c.args.text.size = omega (arith, c.loop-i-test.true) in
    let h = c.loop-i.invariant d bytes text in
    let now : IsText c.loop-i.heap.values d c.args.text.at c.args.text.size bytes = spelling-text c.args.heap.now c.loop-i.heap c.args.text.at c.args.text.size c.loop-i.i bytes c.loop-i.list d text h in
    let byte = c.byte_at.ensures d bytes now in
    let item : c.char-item.result ≡ char_cell (get_or bytes (c.args.text.size - 1 - c.loop-i.i) 0) = c.char-item.ensures ∙ ap char_cell byte in
    spelling-step c.args.heap.now c.args.text.size c.loop-i.i bytes c.loop-i.heap c.add_cons-list.new.heap c.loop-i.list c.char-item.result c.add_cons-list.result
    text.long text.each inside h item c.add_cons-list.ensures.made c.add_cons-list.ensures.cell

pub returns-clause-makes : goal.returns-clause-makes
returns-clause-makes c =
    let end : c.loop-i.i ≡ c.args.text.size = omega (arith, c.loop-i-test.false, c.loop-i.auto.i-end) in
    λ d bytes text.
    let L : ℕ → Type 0 = λ i. Spelling c.args.heap.now c.args.text.size i bytes c.loop-i.heap c.loop-i.list in
    spelled-makes c.args.heap.now c.loop-i.heap d c.loop-i.list c.args.text.at c.args.text.size bytes c.requires.room text (subst L end (c.loop-i.invariant d bytes text))

pub returns-clause-grows : goal.returns-clause-grows
returns-clause-grows c =
    let t = c.requires.text in
    let h = c.loop-i.invariant t.0 t.1 t.2 in
    record { cells = h.cells; is = h.heap }
