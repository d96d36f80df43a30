use Rattle.std.proofs.Common.{sym, subst}
use Rattle.rml_heap.specs.HeapState.{HeapState}
use Rattle.rml_heap.specs.Compared.{AreValues}
use Rattle.rml_cell_bench.proofs.calls.compare.Goals as goal

pub equal-requires : goal.equal-requires
equal-requires c =
    let P : HeapState → Type 0 = λ h. AreValues h.values c.args.a c.args.b in
    subst P (sym c.loop-k.invariant.0) c.requires
