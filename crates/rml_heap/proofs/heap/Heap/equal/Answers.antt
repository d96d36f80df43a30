use Rattle.std.proofs.Common.{◌≡◌, ℕ, ◌↔◌, List, subst}
use Rattle.std.specs.Prelude.{IsTrue}
use Rattle.rml_value.specs.declared.value.Value.{Value}
use Rattle.rml_heap.specs.declared.cell.Cell.{Cell}
use Rattle.rml_heap.specs.HeapState.{HeapState}
use Rattle.rml_heap.specs.Reading.{Stands}
use Rattle.rml_heap.proofs.heap.Heap.equal.Goals as goal

pub returns-clause-equal : goal.returns-clause-equal
returns-clause-equal c =
    let Says : List Cell → Type 0 = λ cells. (names : List ℕ) (top below : ℕ) (v w : Value) → Stands cells names top c.args.a v → Stands cells names below c.args.b w → IsTrue c.are_equal.result ↔ (v ≡ w) in
    let P : HeapState → Type 0 = λ s. Says s.values in
    subst P c.self.view_is (subst Says c.deref.ensures.value c.are_equal.ensures.equal)
