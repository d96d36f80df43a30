use Rattle.std.proofs.Common.{◌≡◌, ℕ, ◌<◌, subst, arith}
use Rattle.rml_prims.proofs.MadeLists.{Listing, listing-start, listing-step, listing-room, listing-vector, list-makes}
use Rattle.rml_prims.proofs.lists.add_items.Goals as goal

pub loop-i-init : goal.loop-i-init
loop-i-init c = listing-start c.args.heap.now c.args.vector.at c.args.vector.size c.con-list.result c.con-list.ensures

pub item_at-item-requires-clause-vector : goal.item_at-item-requires-clause-vector
item_at-item-requires-clause-vector c =
    (c.requires.vector.0, listing-vector c.args.heap.now c.loop-i.heap c.args.vector.at c.args.vector.size c.loop-i.i c.loop-i.list c.requires.vector.0 c.requires.vector.1 c.loop-i.invariant)

pub add_cons-list-requires : goal.add_cons-list-requires
add_cons-list-requires c =
    let inside : c.loop-i.i < c.args.vector.size = omega (arith, c.loop-i-test.true) in
    listing-room c.args.heap.now c.loop-i.heap c.args.vector.at c.args.vector.size c.loop-i.i c.loop-i.list c.requires.room inside c.loop-i.invariant

pub loop-i-preserved : goal.loop-i-preserved
loop-i-preserved c =
    let inside : c.loop-i.i < c.args.vector.size = omega (arith, c.loop-i-test.true) in
    listing-step c.args.heap.now c.args.vector.at c.args.vector.size c.loop-i.i c.loop-i.heap c.add_cons-list.new.heap c.loop-i.list c.item_at-item.result c.add_cons-list.result
    c.requires.vector.1.fits c.requires.vector.1.shown inside c.loop-i.invariant c.item_at-item.ensures c.add_cons-list.ensures.made c.add_cons-list.ensures.cell

pub returns-clause-makes : goal.returns-clause-makes
returns-clause-makes c =
    let end : c.loop-i.i ≡ c.args.vector.size = omega (arith, c.loop-i-test.false, c.loop-i.auto.i-end) in
    let L : ℕ → Type 0 = λ i. Listing c.args.heap.now c.args.vector.at c.args.vector.size i c.loop-i.heap c.loop-i.list in
    λ k vector. list-makes c.args.heap.now c.loop-i.heap k c.loop-i.list c.args.vector.at c.args.vector.size c.requires.room vector (subst L end c.loop-i.invariant)

pub returns-clause-grows : goal.returns-clause-grows
returns-clause-grows c = record { cells = c.loop-i.invariant.cells; is = c.loop-i.invariant.heap }
