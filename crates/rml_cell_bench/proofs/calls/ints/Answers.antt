use Rattle.std.proofs.Common.{◌≤◌, [], sym, ap, subst, arith}
use Rattle.rml_heap.specs.HeapState.{HeapState}
use Rattle.rml_trail.specs.TrailState.{TrailState, Fits}
use Rattle.rml_trail.proofs.Callers.{fits-nothing}
use Rattle.rml_cell_bench.proofs.PlacedValues.{no-lvars}
use Rattle.rml_cell_bench.proofs.calls.ints.Goals as goal

pub run_ints-requires-clause-store : goal.run_ints-requires-clause-store
run_ints-requires-clause-store c = record { names = []; store = []; binds = no-lvars c.in_ok-heap.heap.values (ap (λ (h : HeapState). h.values) c.in_ok-heap.ensures) }

pub run_ints-requires-clause-fits : goal.run_ints-requires-clause-fits
run_ints-requires-clause-fits c =
    let wide : c.in_ok-heap.heap.limit ≤ 16_777_216 = let e = ap (λ (h : HeapState). h.limit) c.in_ok-heap.ensures in omega (arith, e) in
    let P : TrailState → Type 0 = λ t. Fits t c.in_ok-heap.heap in
    subst P (sym c.in_ok-trail.ensures) (fits-nothing c.in_ok-heap.heap 16_777_216 wide)
