use Rattle.std.proofs.Common.{◌≡◌, ◌≤◌, ◌+◌, ℕ, length, take, ap, ◌∙◌, sym, subst, arith}
use Rattle.std.specs.Prelude.{IsSomeAnd, slice_get}
use Rattle.rml_builtin.specs.declared.row.TheConstants.{ROWS}
use Rattle.rml_heap.specs.HeapState.{HeapState}
use Rattle.rml_trail.specs.TrailState.{TrailState, Fits}
use Rattle.rml_prims.specs.Exact.{State}
use Rattle.rml_cell_bench.specs.Held.{CanRepeat}
use Rattle.rml_cell_bench.proofs.Repeating.{IsBack, any-back, any-can}
use Rattle.rml_cell_bench.proofs.calls.run_row.Goals as goal
use Rattle.rml_cell_bench.proofs.calls.run_row.Goals.{then-eq, else-eq}

pub prim-requires-clause-fits : goal.prim-requires-clause-fits
prim-requires-clause-fits c = c.loop-k.invariant.1

pub prim-requires-clause-row : goal.prim-requires-clause-row
prim-requires-clause-row c =
    let P : HeapState → Type 0 = λ h. IsSomeAnd (slice_get ROWS c.args.number) (λ row. CanRepeat row h.values c.args.inputs.now) in
    any-can (slice_get ROWS c.args.number) c.loop-k.heap.values c.args.inputs.now c.loop-k.outputs (subst P (sym c.loop-k.invariant.0) c.requires.row) c.loop-k.invariant.2

pub reset-requires : goal.reset-requires
reset-requires c =
    let before : State = record { heap = c.loop-k.heap; trail = c.loop-k.trail; outputs = c.loop-k.outputs } in
    let after : State = record { heap = c.prim.new.heap; trail = c.prim.new.trail; outputs = c.prim.new.outputs } in
    let P : HeapState → Type 0 = λ h. IsSomeAnd (slice_get ROWS c.args.number) (λ row. CanRepeat row h.values c.args.inputs.now) in
    let back : IsBack before after = any-back (slice_get ROWS c.args.number) before after c.args.inputs.now c.prim.result (subst P (sym c.loop-k.invariant.0) c.requires.row) c.loop-k.invariant.2 c.prim.ensures.exact in
    let same : length c.loop-k.heap.values ≡ length c.args.heap.now.values = ap (λ (h : HeapState). length h.values) c.loop-k.invariant.0 in
    let top = c.top-top.ensures in
    let within = back.within in
    omega (arith, same, top, within)

pub loop-k-preserved : goal.loop-k-preserved
loop-k-preserved c =
    let before : State = record { heap = c.loop-k.heap; trail = c.loop-k.trail; outputs = c.loop-k.outputs } in
    let after : State = record { heap = c.prim.new.heap; trail = c.prim.new.trail; outputs = c.prim.new.outputs } in
    let P : HeapState → Type 0 = λ h. IsSomeAnd (slice_get ROWS c.args.number) (λ row. CanRepeat row h.values c.args.inputs.now) in
    let back : IsBack before after = any-back (slice_get ROWS c.args.number) before after c.args.inputs.now c.prim.result (subst P (sym c.loop-k.invariant.0) c.requires.row) c.loop-k.invariant.2 c.prim.ensures.exact in
    let top : c.top-top.result ≡ length c.loop-k.heap.values = c.top-top.ensures ∙ ap (λ (h : HeapState). length h.values) (sym c.loop-k.invariant.0) in
    let same : c.reset.new.self ≡ c.args.heap.now =
    c.reset.ensures ∙ ap (λ (n : ℕ). record c.prim.new.heap { values = take n c.prim.new.heap.values }) top ∙ back.heap ∙ c.loop-k.invariant.0
    in
    let F : TrailState → Type 0 = λ t. Fits t c.reset.new.self in
    let G : HeapState → Type 0 = λ h. Fits c.loop-k.trail h in
    let was = c.loop-k.invariant.3 in
    let done : c.if-eq.done ≤ c.loop-k._k + 1 = elim c.if-eq.branch [ then-eq w ↦ let e = w.done-is in omega (arith, e, was) | else-eq w ↦ let e = w.done-is in omega (arith, e, was) ] in
    (same, subst F (sym back.trail) (subst G (c.loop-k.invariant.0 ∙ sym same) c.loop-k.invariant.1), c.prim.auto.outputs ∙ c.loop-k.invariant.2, done)
