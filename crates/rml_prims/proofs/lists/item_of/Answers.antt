use Rattle.std.proofs.Common.{◌≡◌, suc, ◌+◌, ◌<◌, ◌^◌, List, length, ap, ◌∙◌, arith, inl}
use Rattle.rml_heap.specs.declared.cell.Cell.{Cell}
use Rattle.rml_heap.specs.Form.{address}
use Rattle.rml_heap.specs.Reading.{cell_at}
use Rattle.rml_prims.proofs.ListCells.{cons-place}
use Rattle.rml_prims.proofs.lists.item_of.Goals as goal

pub overflow_add-address_of : goal.overflow_add-address_of
overflow_add-address_of c =
    let cells : List Cell = c.args.heap.now.values in
    let small : length cells < 2 ^ 32 = omega (arith, c.used-used.ensures.used, c.used-used.ensures.within, c.used-used.ensures.limit) in
    let within = c.requires.within in
    let top : c.requires.top < 2 ^ 32 = omega (arith, within, small) in
    let place : address c.args.list.number ≡ c.requires.at = cons-place cells c.requires.top c.args.list c.requires.at c.requires.item top c.requires.cons in
    let inside = c.requires.cons.inside in
    let here = c.address_of.ensures in
    omega (arith, here, place, inside, top)

pub get-requires : goal.get-requires
get-requires c =
    let cells : List Cell = c.args.heap.now.values in
    let small : length cells < 2 ^ 32 = omega (arith, c.used-used.ensures.used, c.used-used.ensures.within, c.used-used.ensures.limit) in
    let within = c.requires.within in
    let top : c.requires.top < 2 ^ 32 = omega (arith, within, small) in
    let place : address c.args.list.number ≡ c.requires.at = cons-place cells c.requires.top c.args.list c.requires.at c.requires.item top c.requires.cons in
    let inside = c.requires.cons.inside in
    let here = c.address_of.ensures in
    let low : c.address_of.result + 1 < length cells = omega (arith, here, place, inside, within) in
    inl low

pub returns : goal.returns
returns c =
    let cells : List Cell = c.args.heap.now.values in
    let small : length cells < 2 ^ 32 = omega (arith, c.used-used.ensures.used, c.used-used.ensures.within, c.used-used.ensures.limit) in
    let within = c.requires.within in
    let top : c.requires.top < 2 ^ 32 = omega (arith, within, small) in
    let place : address c.args.list.number ≡ c.requires.at = cons-place cells c.requires.top c.args.list c.requires.at c.requires.item top c.requires.cons in
    let inside = c.requires.cons.inside in
    let here = c.address_of.ensures in
    let low : c.address_of.result + 1 < length cells = omega (arith, here, place, inside, within) in
    let next : c.address_of.result + 1 ≡ suc (address c.args.list.number) = omega (arith, here) in
    c.get.ensures.value low ∙ ap (cell_at cells) next
