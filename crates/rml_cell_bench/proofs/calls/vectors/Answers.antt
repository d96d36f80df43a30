use Rattle.std.proofs.Common.{◌≤◌, sym, ap, subst, arith}
use Rattle.rml_heap.specs.HeapState.{HeapState}
use Rattle.rml_trail.specs.TrailState.{TrailState, Fits}
use Rattle.rml_trail.proofs.Callers.{fits-nothing}
use Rattle.rml_cell_bench.specs.Held.{below}
use Rattle.rml_cell_bench.proofs.PlacedValues.{no-lvars}
use Rattle.rml_cell_bench.proofs.Repeating.{list-repeat}
use Rattle.rml_cell_bench.proofs.calls.vectors.Goals as goal

pub list_below-requires : goal.list_below-requires
list_below-requires c = no-lvars c.in_ok-heap.heap.values (ap (λ (h : HeapState). h.values) c.in_ok-heap.ensures)

pub run_row-requires-clause-row : goal.run_row-requires-clause-row
run_row-requires-clause-row c = list-repeat c.list_below.new.heap.values c.in-Ok.list (below c.args.items) c.in-Ok.ensures.binds c.in-Ok.ensures.list

pub run_row-requires-clause-fits : goal.run_row-requires-clause-fits
run_row-requires-clause-fits c =
    let wide : c.list_below.new.heap.limit ≤ 16_777_216 = let e = ap (λ (h : HeapState). h.limit) c.in_ok-heap.ensures in let f = ap (λ (h : HeapState). h.limit) c.in-Ok.ensures.grows.is in omega (arith, e, f) in
    let P : TrailState → Type 0 = λ t. Fits t c.list_below.new.heap in
    subst P (sym c.in_ok-trail-in-Ok.ensures) (fits-nothing c.list_below.new.heap 16_777_216 wide)
