use Rattle.std.proofs.Common.{◌≡◌, length, subst, sym, ◌∙◌, arith}
use Rattle.rml_heap.specs.HeapState.{HeapState}
use Rattle.rml_trail.specs.TrailState.{Fits}
use Rattle.rml_trail.proofs.Callers.{fits-added}
use Rattle.rml_prims.proofs.Running.{making-one, made-runs, full-runs}
use Rattle.rml_prims.proofs.run.run_made.Goals as goal

pub bounds-outputs-0 : goal.bounds-outputs-0
bounds-outputs-0 c =
    let places : length c.args.outputs.now ≡ 1 = c.requires.runs.results ∙ making-one c.args.row c.requires.row in
    omega (arith, places)

pub returns-in-Ok-clause-fits : goal.returns-in-Ok-clause-fits
returns-in-Ok-clause-fits c = λ trail fits.
    let P : HeapState → Type 0 = Fits trail in
    subst P (sym c.in-Ok.ensures.grows.is) (fits-added trail c.args.heap.now c.in-Ok.ensures.grows.cells fits)

pub returns-in-Err-clause-fits : goal.returns-in-Err-clause-fits
returns-in-Err-clause-fits c = λ trail fits.
    let P : HeapState → Type 0 = Fits trail in
    subst P (sym c.in-Err.ensures.grows.is) (fits-added trail c.args.heap.now c.in-Err.ensures.grows.cells fits)

pub returns-in-Ok-clause-runs : goal.returns-in-Ok-clause-runs
returns-in-Ok-clause-runs c =
    let places : length c.args.outputs.now ≡ 1 = c.requires.runs.results ∙ making-one c.args.row c.requires.row in
    λ trail. made-runs c.args.row c.args.inputs.now c.args.heap.now _ trail c.args.outputs.now c.in-Ok.cell c.requires.row places c.in-Ok.ensures.makes

pub returns-in-Err-clause-runs : goal.returns-in-Err-clause-runs
returns-in-Err-clause-runs c = λ trail. full-runs c.args.row c.args.inputs.now c.args.heap.now _ trail c.args.outputs.now c.in-Err.full c.in-Err.ensures.makes
