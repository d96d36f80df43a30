use Rattle.std.proofs.Common.{◌≡◌, ◌<◌, ◌≤◌, ◌^◌, length, get_or, ap, arith}
use Rattle.std.specs.Prelude.{pos}
use Rattle.rml_heap.specs.declared.cell.Cell.{Cell}
use Rattle.rml_heap.specs.HeapState.{cells_used}
use Rattle.rml_prims.proofs.VariableRows.{get-read, option-ends, option-grows}
use Rattle.rml_prims.proofs.making.held.Goals as goal

pub bounds-inputs-0 : goal.bounds-inputs-0
bounds-inputs-0 c =
    let d : Cell = record { kind = 0; number = pos 0 } in
    let told = get-read c.args.heap.now.values c.args.inputs.now d c.requires in
    let size : length c.args.inputs.now ≡ 1 = ap length told.1 in
    omega (arith, size)

pub get-requires : goal.get-requires
get-requires c = (get-read c.args.heap.now.values c.args.inputs.now (record { kind = 0; number = pos 0 }) c.requires).0

pub returns-clause-makes : goal.returns-clause-makes
returns-clause-makes c =
    let small : length c.args.heap.now.values < 2 ^ 32 = omega (arith, c.used-used.ensures.used, c.used-used.ensures.within, c.used-used.ensures.limit) in
    let within : cells_used c.args.heap.now ≤ c.args.heap.now.limit = omega (arith, c.used-used.ensures.used, c.used-used.ensures.within) in
    let d : Cell = record { kind = 0; number = pos 0 } in
    let told = get-read c.args.heap.now.values c.args.inputs.now d c.requires in
    option-ends c.args.heap.now _ c.args.inputs.now (get_or c.args.inputs.now 0 d) _ within small told.0 told.1 c.get.ensures

pub returns-clause-grows : goal.returns-clause-grows
returns-clause-grows c = option-grows c.args.heap.now _ _ _ c.get.ensures
