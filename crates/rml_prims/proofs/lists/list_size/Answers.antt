use Rattle.std.proofs.Common.{◌≡◌, suc, ◌<◌, ◌≤◌, ◌^◌, List, length, ap, ◌∙◌, arith}
use Rattle.rml_heap.specs.declared.cell.Cell.{Cell}
use Rattle.rml_heap.specs.Form.{address}
use Rattle.rml_heap.specs.Reading.{cell_at}
use Rattle.rml_prims.proofs.ListCells.{Further, Walk, cons-place, ended, further, walk-falls, walk-start, walk-step}
use Rattle.rml_prims.proofs.lists.list_size.Goals as goal

pub items-init : goal.items-init
items-init c = λ items is. walk-start c.args.heap.now.values c.args.list items is

pub tail_of-rest-requires : goal.tail_of-rest-requires
tail_of-rest-requires c =
    let cells : List Cell = c.args.heap.now.values in
    let small : length cells < 2 ^ 32 = omega (arith, c.used-used.ensures.used, c.used-used.ensures.within, c.used-used.ensures.limit) in
    let w : Walk cells c.requires.0 c.items.size c.items.rest = c.items.invariant c.requires.0 c.requires.1 in
    let room = w.room in
    let top : w.top < 2 ^ 32 = omega (arith, room, small) in
    let f : Further cells w.top c.items.rest w.left = further cells w.top c.items.rest w.left c.items-test.true w.list in
    let place : address c.items.rest.number ≡ f.at = cons-place cells w.top c.items.rest f.at f.item top f.cons in
    let within : w.top ≤ length cells = omega (arith, room) in
    record { top = w.top; at = f.at; item = f.item; within = within; cons = f.cons }

pub items-preserved : goal.items-preserved
items-preserved c = λ items is.
    let cells : List Cell = c.args.heap.now.values in
    let small : length cells < 2 ^ 32 = omega (arith, c.used-used.ensures.used, c.used-used.ensures.within, c.used-used.ensures.limit) in
    let w : Walk cells items c.items.size c.items.rest = c.items.invariant items is in
    let room = w.room in
    let top : w.top < 2 ^ 32 = omega (arith, room, small) in
    let f : Further cells w.top c.items.rest w.left = further cells w.top c.items.rest w.left c.items-test.true w.list in
    let place : address c.items.rest.number ≡ f.at = cons-place cells w.top c.items.rest f.at f.item top f.cons in
    walk-step cells items c.items.size c.items.rest c.tail_of-rest.result w f (c.tail_of-rest.ensures ∙ ap (λ n. cell_at cells (suc (suc n))) place)

pub items-smaller : goal.items-smaller
items-smaller c =
    let cells : List Cell = c.args.heap.now.values in
    let small : length cells < 2 ^ 32 = omega (arith, c.used-used.ensures.used, c.used-used.ensures.within, c.used-used.ensures.limit) in
    let w : Walk cells c.requires.0 c.items.size c.items.rest = c.items.invariant c.requires.0 c.requires.1 in
    let room = w.room in
    let top : w.top < 2 ^ 32 = omega (arith, room, small) in
    let f : Further cells w.top c.items.rest w.left = further cells w.top c.items.rest w.left c.items-test.true w.list in
    let place : address c.items.rest.number ≡ f.at = cons-place cells w.top c.items.rest f.at f.item top f.cons in
    walk-falls cells w.top c.items.rest w.left c.tail_of-rest.result top c.items-test.true f (c.tail_of-rest.ensures ∙ ap (λ n. cell_at cells (suc (suc n))) place)

pub returns-clause-size : goal.returns-clause-size
returns-clause-size c = λ items is.
    let cells : List Cell = c.args.heap.now.values in
    let w : Walk cells items c.items.size c.items.rest = c.items.invariant items is in
    let none : length w.left ≡ 0 = ap length (ended cells w.top c.items.rest w.left c.items-test.false w.list) in
    let count = w.count in
    omega (arith, count, none)

pub returns-clause-small : goal.returns-clause-small
returns-clause-small c =
    let cells : List Cell = c.args.heap.now.values in
    let w : Walk cells c.requires.0 c.items.size c.items.rest = c.items.invariant c.requires.0 c.requires.1 in
    let room = w.room in
    omega (arith, room)
