use Rattle.std.proofs.Common.{◌≤◌, ◌+◌, [], ◌∷◌, ◌∙◌, arith}
use Rattle.std.specs.Prelude.{pos, slice_get}
use Rattle.std.specs.Int.{w64}
use mir.Val.{to_z, of_z}
use Rattle.rml_builtin.specs.declared.row.TheConstants.{ROWS}
use Rattle.rml_prims.specs.Exact.{State}
use Rattle.rml_cell_bench.proofs.Repeating.{any-ints-can, any-store}
use Rattle.rml_cell_bench.proofs.calls.run_ints.Goals as goal
use Rattle.rml_cell_bench.proofs.calls.run_ints.Goals.{then-eq, else-eq}

pub prim-requires-clause-fits : goal.prim-requires-clause-fits
prim-requires-clause-fits c = c.loop-k.invariant.1

pub prim-requires-clause-row : goal.prim-requires-clause-row
prim-requires-clause-row c =
    any-ints-can (slice_get ROWS c.args.number) c.loop-k.heap.values c.loop-k.outputs c.int-in-loop-k.result c.int-in-loop-k-2.result (to_z w64 (of_z w64 c.from.result)) (pos 1) c.int-in-loop-k.ensures c.int-in-loop-k-2.ensures c.requires.row c.loop-k.invariant.0 c.loop-k.invariant.2

pub loop-k-preserved : goal.loop-k-preserved
loop-k-preserved c =
    let before : State = record { heap = c.loop-k.heap; trail = c.loop-k.trail; outputs = c.loop-k.outputs } in
    let after : State = record { heap = c.prim.new.heap; trail = c.prim.new.trail; outputs = c.prim.new.outputs } in
    let can = any-ints-can (slice_get ROWS c.args.number) c.loop-k.heap.values c.loop-k.outputs c.int-in-loop-k.result c.int-in-loop-k-2.result (to_z w64 (of_z w64 c.from.result)) (pos 1) c.int-in-loop-k.ensures c.int-in-loop-k-2.ensures c.requires.row c.loop-k.invariant.0 c.loop-k.invariant.2 in
    let was = c.loop-k.invariant.3 in
    let done : c.if-eq.done ≤ c.loop-k.k + 1 = elim c.if-eq.branch [ then-eq w ↦ let e = w.done-is in omega (arith, e, was) | else-eq w ↦ let e = w.done-is in omega (arith, e, was) ] in
    (any-store (slice_get ROWS c.args.number) before after (c.int-in-loop-k.result ∷ c.int-in-loop-k-2.result ∷ []) c.prim.result can c.prim.ensures.exact, c.prim.ensures.fits, c.prim.auto.outputs ∙ c.loop-k.invariant.2, done)
