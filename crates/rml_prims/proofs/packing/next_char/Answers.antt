use Rattle.std.proofs.Common.{◌≡◌, ℕ, ◌<◌, ◌^◌, List, [], drop, length, get_or, subst, sym, ap, ◌∙◌, arith}
use Rattle.rml_heap.specs.declared.cell.Cell.{Cell}
use Rattle.rml_heap.specs.Form.{or_zero}
use Rattle.rml_prims.specs.Shapes.{AreChars}
use Rattle.rml_prims.proofs.PackedTexts.{CharPlace, SomeChar, char-at, char-place, chars-left, no-char, some-char}
use Rattle.rml_prims.proofs.packing.next_char.Goals as goal

pub item_of-requires : goal.item_of-requires
item_of-requires c = char-at c.args.heap.now.values c.args.list c.requires.0 c.requires.1 (some-char c.args.heap.now.values c.args.list c.requires.0 c.if-list-eq-BLOCK.true c.requires.1)

pub tail_of-requires : goal.tail_of-requires
tail_of-requires c = char-at c.args.heap.now.values c.args.list c.requires.0 c.requires.1 (some-char c.args.heap.now.values c.args.list c.requires.0 c.if-list-eq-BLOCK.true c.requires.1)

pub overflow_cast-result : goal.overflow_cast-result
overflow_cast-result c =
    let cells : List Cell = c.args.heap.now.values in
    let small : length cells < 2 ^ 32 = omega (arith, c.used-used.ensures.used, c.used-used.ensures.within, c.used-used.ensures.limit) in
    let some : SomeChar cells c.requires.1.top c.args.list c.requires.0 = some-char cells c.args.list c.requires.0 c.if-list-eq-BLOCK.true c.requires.1 in
    let place : CharPlace cells c.args.list c.requires.0 c.item_of.result = char-place cells c.args.list c.item_of.result c.requires.0 small c.requires.1 some c.item_of.ensures in
    let is : c.count_of.result ≡ get_or c.requires.0 0 0 = c.count_of.ensures ∙ ap (λ (d : Cell). or_zero d.number) place.item in
    let low = place.low in
    omega (arith, is, low)

pub returns-then-list-eq-BLOCK-clause-char : goal.returns-then-list-eq-BLOCK-clause-char
returns-then-list-eq-BLOCK-clause-char c = λ bytes h.
    let cells : List Cell = c.args.heap.now.values in
    let small : length cells < 2 ^ 32 = omega (arith, c.used-used.ensures.used, c.used-used.ensures.within, c.used-used.ensures.limit) in
    let some : SomeChar cells h.top c.args.list bytes = some-char cells c.args.list bytes c.if-list-eq-BLOCK.true h in
    let place : CharPlace cells c.args.list bytes c.item_of.result = char-place cells c.args.list c.item_of.result bytes small h some c.item_of.ensures in
    c.count_of.ensures ∙ ap (λ (d : Cell). or_zero d.number) place.item

pub returns-then-list-eq-BLOCK-clause-left : goal.returns-then-list-eq-BLOCK-clause-left
returns-then-list-eq-BLOCK-clause-left c = λ bytes h.
    let cells : List Cell = c.args.heap.now.values in
    let small : length cells < 2 ^ 32 = omega (arith, c.used-used.ensures.used, c.used-used.ensures.within, c.used-used.ensures.limit) in
    let some : SomeChar cells h.top c.args.list bytes = some-char cells c.args.list bytes c.if-list-eq-BLOCK.true h in
    chars-left cells c.args.list c.tail_of.result bytes small h some c.tail_of.ensures

pub returns-else-list-eq-BLOCK-clause-char : goal.returns-else-list-eq-BLOCK-clause-char
returns-else-list-eq-BLOCK-clause-char c = λ bytes h.
    sym (ap (λ bs. get_or bs 0 0) (no-char c.args.heap.now.values c.args.list bytes c.if-list-eq-BLOCK.false h))

pub returns-else-list-eq-BLOCK-clause-left : goal.returns-else-list-eq-BLOCK-clause-left
returns-else-list-eq-BLOCK-clause-left c = λ bytes h.
    let none : bytes ≡ [] = no-char c.args.heap.now.values c.args.list bytes c.if-list-eq-BLOCK.false h in
    let C : List ℕ → Type 0 = λ bs. AreChars c.args.heap.now.values c.args.list bs in
    subst C (none ∙ sym (ap (drop 1) none)) h
