use Rattle.std.proofs.Common.{◌≡◌, suc, ◌+◌, ◌-◌, ◌<◌, ◌^◌, List, length, refl, ap, ◌∙◌, arith}
use Rattle.rml_heap.specs.declared.cell.Cell.{Cell}
use Rattle.rml_heap.specs.HeapState.{unset_cell}
use Rattle.rml_heap.specs.Form.{address, form_of}
use Rattle.rml_heap.specs.Reading.{cell_at}
use Rattle.rml_prims.specs.Shapes.{IsVariable}
use Rattle.rml_prims.proofs.Bindings.{head-there, lvar-form}
use Rattle.rml_prims.proofs.VariableRows.{content-unset, variable-place}
use Rattle.rml_prims.proofs.lvars.set.Goals as goal

pub set-requires-clause-content : goal.set-requires-clause-content
set-requires-clause-content c =
    let small : length c.args.heap.now.values < 2 ^ 32 = omega (arith, c.used-used.ensures.used, c.used-used.ensures.within, c.used-used.ensures.limit) in
    let cells : List Cell = c.args.heap.now.values in
    let t : IsVariable cells c.args.lvar = c.requires.lvar in
    let place : address c.args.lvar.number ≡ t.at = variable-place cells c.args.lvar small t in
    let next : c.address_of-at.result + 1 ≡ suc (address c.args.lvar.number) = let e = c.address_of-at.ensures in omega (arith, e) in
    let within : c.address_of-at.result + 1 < length cells = let i = t.lvar.inside in omega (arith, i, next, place) in
    let content : c.get.result ≡ cell_at cells (suc (address c.args.lvar.number)) = c.get.ensures.value within ∙ ap (cell_at cells) next in
    let before : c.address_of-at.result + 1 - 1 ≡ t.at = omega (arith, next, place) in
    let positive : 0 < c.address_of-at.result + 1 = omega arith in
    record { positive = positive; head = ap (λ n. form_of (cell_at cells n)) before ∙ ap form_of (head-there cells t.at t.lvar.head) ∙ lvar-form }

pub set-requires-clause-unset : goal.set-requires-clause-unset
set-requires-clause-unset c =
    let small : length c.args.heap.now.values < 2 ^ 32 = omega (arith, c.used-used.ensures.used, c.used-used.ensures.within, c.used-used.ensures.limit) in
    let cells : List Cell = c.args.heap.now.values in
    let t : IsVariable cells c.args.lvar = c.requires.lvar in
    let place : address c.args.lvar.number ≡ t.at = variable-place cells c.args.lvar small t in
    let next : c.address_of-at.result + 1 ≡ suc (address c.args.lvar.number) = let e = c.address_of-at.ensures in omega (arith, e) in
    let within : c.address_of-at.result + 1 < length cells = let i = t.lvar.inside in omega (arith, i, next, place) in
    let content : c.get.result ≡ cell_at cells (suc (address c.args.lvar.number)) = c.get.ensures.value within ∙ ap (cell_at cells) next in
    ap (cell_at cells) next ∙ content-unset cells c.args.lvar c.get.result t place content c.if-get-ne-UNSET.false

pub returns-clause-unset : goal.returns-clause-unset
returns-clause-unset c =
    let small : length c.args.heap.now.values < 2 ^ 32 = omega (arith, c.used-used.ensures.used, c.used-used.ensures.within, c.used-used.ensures.limit) in
    let cells : List Cell = c.args.heap.now.values in
    let t : IsVariable cells c.args.lvar = c.requires.lvar in
    let place : address c.args.lvar.number ≡ t.at = variable-place cells c.args.lvar small t in
    let next : c.address_of-at.result + 1 ≡ suc (address c.args.lvar.number) = let e = c.address_of-at.ensures in omega (arith, e) in
    let within : c.address_of-at.result + 1 < length cells = let i = t.lvar.inside in omega (arith, i, next, place) in
    let content : c.get.result ≡ cell_at cells (suc (address c.args.lvar.number)) = c.get.ensures.value within ∙ ap (cell_at cells) next in
    let unset : cell_at cells (suc (address c.args.lvar.number)) ≡ unset_cell = content-unset cells c.args.lvar c.get.result t place content c.if-get-ne-UNSET.false in
    (λ yes. unset, λ e. refl)
