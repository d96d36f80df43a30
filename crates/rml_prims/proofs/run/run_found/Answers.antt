use Rattle.std.proofs.Common.{◌≡◌, ◌≤◌, length, ◌∙◌, arith}
use Rattle.rml_heap.specs.HeapState.{cells_used}
use Rattle.rml_prims.proofs.Running.{finding-one, found-runs, none-runs, state}
use Rattle.rml_prims.proofs.run.run_found.Goals as goal

pub bounds-outputs-0 : goal.bounds-outputs-0
bounds-outputs-0 c =
    let places : length c.args.outputs.now ≡ 1 = c.requires.runs.results ∙ finding-one c.args.row c.requires.row in
    omega (arith, places)

pub returns-in-Some : goal.returns-in-Some
returns-in-Some c =
    let places : length c.args.outputs.now ≡ 1 = c.requires.runs.results ∙ finding-one c.args.row c.requires.row in
    let within : cells_used c.args.heap.now ≤ c.args.heap.now.limit = omega (arith, c.used-used.ensures.used, c.used-used.ensures.within) in
    λ trail. found-runs c.args.row c.args.inputs.now c.args.heap.now trail c.args.outputs.now c.in-Some.cell c.requires.row within places c.in-Some.ensures

pub returns-in-None : goal.returns-in-None
returns-in-None c = λ trail. none-runs c.args.row c.args.inputs.now (state c.args.heap.now trail c.args.outputs.now) c.in-None.ensures
