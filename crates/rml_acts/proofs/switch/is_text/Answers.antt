use Rattle.std.proofs.Common.{◌+◌, sym, arith, inl}
use Rattle.std.specs.Prelude.{◌/◌}
use Rattle.rml_acts.proofs.Texts.{text-inside, text-set, other-kind, counted, tested-text}
use Rattle.rml_acts.proofs.switch.is_text.Goals as goal

pub get-requires : goal.get-requires
get-requires c = inl (let inside = text-inside c.args.heap.now.values c.args.at c.requires.text.0 c.requires.text.1 in omega (arith, inside))

pub overflow_cast-words : goal.overflow_cast-words
overflow_cast-words c =
    let text = c.requires.text in
    let inside = text-inside c.args.heap.now.values c.args.at text.0 text.1 in
    let words = counted c.args.heap.now.values c.args.at text.0 c.get.result c.count_of.result text.1 (c.get.ensures.value (omega (arith, inside))) c.count_of.ensures in
    omega (arith, inside, words, c.used-used.ensures.used, c.used-used.ensures.within, c.used-used.ensures.limit)

pub overflow_add-words-2 : goal.overflow_add-words-2
overflow_add-words-2 c =
    let text = c.requires.text in
    let inside = text-inside c.args.heap.now.values c.args.at text.0 text.1 in
    let words = counted c.args.heap.now.values c.args.at text.0 c.get.result c.count_of.result text.1 (c.get.ensures.value (omega (arith, inside))) c.count_of.ensures in
    omega (arith, inside, words, c.used-used.ensures.used, c.used-used.ensures.within, c.used-used.ensures.limit)

pub are_same-requires-clause-inside : goal.are_same-requires-clause-inside
are_same-requires-clause-inside c =
    let text = c.requires.text in
    let inside = text-inside c.args.heap.now.values c.args.at text.0 text.1 in
    let words = counted c.args.heap.now.values c.args.at text.0 c.get.result c.count_of.result text.1 (c.get.ensures.value (omega (arith, inside))) c.count_of.ensures in
    omega (arith, inside, words)

pub are_same-requires-clause-set : goal.are_same-requires-clause-set
are_same-requires-clause-set c =
    let text = c.requires.text in
    let inside = text-inside c.args.heap.now.values c.args.at text.0 text.1 in
    let words = counted c.args.heap.now.values c.args.at text.0 c.get.result c.count_of.result text.1 (c.get.ensures.value (omega (arith, inside))) c.count_of.ensures in
    λ k below. text-set c.args.heap.now.values c.args.at text.0 k text.1 (omega (arith, below, words))

pub returns-then-cell-ne-BLOCK : goal.returns-then-cell-ne-BLOCK
returns-then-cell-ne-BLOCK c = λ bytes h. sym (other-kind c.args.heap.now.values c.args.cell bytes c.if-cell-ne-BLOCK.true)

pub returns : goal.returns
returns c = λ bytes h.
    let inside = text-inside c.args.heap.now.values c.args.at bytes h in
    let words = counted c.args.heap.now.values c.args.at bytes c.get.result c.count_of.result h (c.get.ensures.value (omega (arith, inside))) c.count_of.ensures in
    tested-text c.args.heap.now.values c.args.at c.address_of.result ((c.count_of.result + 7) / 8) c.args.cell bytes c.are_same.result (omega (arith, c.used-used.ensures.used, c.used-used.ensures.within, c.used-used.ensures.limit)) c.if-cell-ne-BLOCK.false h c.address_of.ensures (omega (arith, words)) c.are_same.ensures
