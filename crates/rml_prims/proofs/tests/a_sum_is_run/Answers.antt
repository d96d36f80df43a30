use Rattle.std.proofs.Common.{◌≡◌, ◌≤◌, List, [], ◌∷◌, sym, ap, subst, arith}
use Rattle.std.specs.Prelude.{pos}
use Rattle.rml_builtin.specs.declared.row.Row.TheVariants.{IntAdd}
use Rattle.rml_heap.specs.declared.cell.Cell.{Cell}
use Rattle.rml_heap.specs.HeapState.{HeapState}
use Rattle.rml_prims.specs.Shapes.{int_cell}
use Rattle.rml_prims.specs.Exact.{CanRun}
use Rattle.rml_trail.specs.TrailState.{TrailState, Fits}
use Rattle.rml_trail.proofs.Callers.{fits-nothing}
use Rattle.rml_prims.proofs.Premises.{sum-can}
use Rattle.rml_prims.proofs.tests.a_sum_is_run.Goals as goal

pub prim-end-requires-clause-fits : goal.prim-end-requires-clause-fits
prim-end-requires-clause-fits g c =
    let wide : c.in_ok-heap.heap.limit ≤ 4 = let e = ap (λ (h : HeapState). h.limit) c.in_ok-heap.ensures in omega (arith, e) in
    let P : TrailState → Type 0 = λ t. Fits t c.in_ok-heap.heap in
    subst P (sym c.in_ok-trail.ensures) (fits-nothing c.in_ok-heap.heap 4 wide)

pub prim-end-requires-clause-row : goal.prim-end-requires-clause-row
prim-end-requires-clause-row g c =
    let values : c.in_ok-heap.heap.values ≡ [] = ap (λ (h : HeapState). h.values) c.in_ok-heap.ensures in
    let V : List Cell → Type 0 = λ ws. CanRun IntAdd ws (c.int-2.result ∷ c.int-3.result ∷ []) (c.int.result ∷ []) in
    let A : Cell → Type 0 = λ x. CanRun IntAdd [] (x ∷ c.int-3.result ∷ []) (c.int.result ∷ []) in
    let B : Cell → Type 0 = λ x. CanRun IntAdd [] (int_cell (pos 2) ∷ x ∷ []) (c.int.result ∷ []) in
    subst V (sym values) (subst A (sym c.int-2.ensures) (subst B (sym c.int-3.ensures) (sum-can (pos 2) (pos 3) c.int.result)))
