use Rattle.std.proofs.Common.{[], ◌∷◌, subst, sym}
use Rattle.rml_heap.specs.HeapState.{HeapState, unset_cell, lvar_head}
use Rattle.rml_trail.specs.TrailState.{Fits}
use Rattle.rml_trail.proofs.Callers.{fits-added}
use Rattle.rml_prims.proofs.VariableRows.{new-ends, new-refused}
use Rattle.rml_prims.proofs.run.run_new.Goals as goal

pub returns-in-Ok-clause-fits : goal.returns-in-Ok-clause-fits
returns-in-Ok-clause-fits c = λ trail fits.
    let P : HeapState → Type 0 = Fits trail in
    subst P (sym c.in-Ok.ensures.made) (fits-added trail c.args.heap.now (lvar_head ∷ unset_cell ∷ []) fits)

pub returns-in-Ok-clause-runs : goal.returns-in-Ok-clause-runs
returns-in-Ok-clause-runs c = λ trail. new-ends c.args.heap.now _ trail c.args.inputs.now c.args.outputs.now c.in-Ok.cell c.requires.applies c.requires.results c.in-Ok.ensures.room c.in-Ok.ensures.made c.in-Ok.ensures.cell

pub returns-in-Err-clause-runs : goal.returns-in-Err-clause-runs
returns-in-Err-clause-runs c = λ trail. new-refused c.args.heap.now _ trail c.args.inputs.now c.args.outputs.now c.in-Err.full c.requires.applies c.in-Err.ensures.full c.in-Err.ensures.err
