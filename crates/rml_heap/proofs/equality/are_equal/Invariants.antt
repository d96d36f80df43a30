use Rattle.std.proofs.Common.{◌≡◌, ℕ, ◌/◌, ◌≤◌, ◌↔◌, List, length, vec_capacity}
use Rattle.rml_value.specs.declared.value.Value.{Value}
use Rattle.rml_heap.specs.Reading.{Stands}
use Rattle.rml_heap.specs.Compared.{AreNested, AreReadable, AreSame, total}
use Rattle.rml_heap.proofs.equality.are_equal.Given as goal

abbrev pub invariant-tasks : goal.invariant-tasks
invariant-tasks l = record {
  nested : AreNested (length l.cells) l.tasks.items;
  room : length l.cells / 2 ≤ vec_capacity l.tasks;
  grown : vec_capacity l.fn.tasks ≤ vec_capacity l.tasks;
  waits : (names : List ℕ) (top below : ℕ) (v w : Value) → Stands l.cells names top l.fn.a v → Stands l.cells names below l.fn.b w → AreReadable l.cells names l.tasks.items × ((v ≡ w) ↔ AreSame l.cells names l.tasks.items);
}

abbrev pub decreases-tasks : goal.decreases-tasks
decreases-tasks l = total l.tasks.items
