use Rattle.std.proofs.Common.{arith}
use Rattle.rml_heap.proofs.Callers.{EachByte}
use Rattle.rml_cell_bench.proofs.PlacedValues.{texts-hold}
use Rattle.rml_cell_bench.proofs.placing.two_texts.Goals as goal

pub returns-clause-texts : goal.returns-clause-texts
returns-clause-texts c =
    let low : EachByte c.args.left.now = λ i. let h = c.type_inv.left i in omega (arith, h) in
    let high : EachByte c.args.right.now = λ i. let h = c.type_inv.right i in omega (arith, h) in
    texts-hold c.args.heap.now c.place_text.new.heap c.place_text-2.new.heap c.args.left.now c.args.right.now c.in_ok-first.first c.in_ok-second.second c.requires.empty low high c.in_ok-first.ensures.made c.in_ok-second.ensures.made c.in_ok-first.ensures.cell c.in_ok-second.ensures.cell
