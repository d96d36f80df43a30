use Rattle.std.proofs.Common.{◌≤◌, [], ◌∷◌, sym, ap, subst, arith}
use Rattle.rml_heap.specs.HeapState.{HeapState}
use Rattle.rml_trail.specs.TrailState.{TrailState, Fits}
use Rattle.rml_trail.proofs.Callers.{fits-nothing}
use Rattle.rml_cell_bench.proofs.Repeating.{texts-repeat}
use Rattle.rml_cell_bench.proofs.calls.texts_joined.Goals as goal

pub run_row-requires-clause-row : goal.run_row-requires-clause-row
run_row-requires-clause-row c = texts-repeat c.two_texts.new.heap.values (c.in-Ok.texts.0 ∷ c.in-Ok.texts.1 ∷ []) _ _ c.in-Ok.ensures.texts

pub run_row-requires-clause-fits : goal.run_row-requires-clause-fits
run_row-requires-clause-fits c =
    let wide : c.two_texts.new.heap.limit ≤ 16_777_216 = let e = ap (λ (h : HeapState). h.limit) c.in_ok-heap.ensures in let f = c.in-Ok.ensures.limit in omega (arith, e, f) in
    let P : TrailState → Type 0 = λ t. Fits t c.two_texts.new.heap in
    subst P (sym c.in_ok-trail-in-Ok.ensures) (fits-nothing c.two_texts.new.heap 16_777_216 wide)
