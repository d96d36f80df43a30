use Rattle.std.proofs.Common.{◌≡◌, suc, ◌+◌, ◌<◌, ◌^◌, List, length, refl, ap, ◌∙◌, arith, inl}
use Rattle.rml_heap.specs.declared.cell.Cell.{Cell}
use Rattle.rml_heap.specs.Form.{address}
use Rattle.rml_heap.specs.Reading.{cell_at}
use Rattle.rml_prims.specs.Shapes.{IsVariable}
use Rattle.rml_prims.proofs.VariableRows.{content-unset, variable-place}
use Rattle.rml_prims.proofs.lvars.get.Goals as goal

pub returns-then-content-eq-UNSET : goal.returns-then-content-eq-UNSET
returns-then-content-eq-UNSET c =
    let small : length c.args.heap.now.values < 2 ^ 32 = omega (arith, c.used-used.ensures.used, c.used-used.ensures.within, c.used-used.ensures.limit) in
    let cells : List Cell = c.args.heap.now.values in
    let t : IsVariable cells c.args.lvar = c.requires in
    let place : address c.args.lvar.number ≡ t.at = variable-place cells c.args.lvar small t in
    let next : c.address_of.result + 1 ≡ suc (address c.args.lvar.number) = let e = c.address_of.ensures in omega (arith, e) in
    let within : c.address_of.result + 1 < length cells = let i = t.lvar.inside in omega (arith, i, next, place) in
    let content : c.get-content.result ≡ cell_at cells (suc (address c.args.lvar.number)) = c.get-content.ensures.value within ∙ ap (cell_at cells) next in
    inl (content-unset cells c.args.lvar c.get-content.result t place content c.if-content-eq-UNSET.true, c.con.ensures, refl)
