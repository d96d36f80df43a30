use Rattle.std.proofs.Common.{◌≡◌, ◌+◌, ◌*◌, ◌≤◌, ℕ, length}
use Rattle.std.specs.Prelude.{vec_capacity}
use Rattle.rml_types.specs.Kept.{known_by}
use Rattle.rml_types.specs.Nodes.{root_in}
use Rattle.rml_types.specs.Walks.{Walks, mark_of, new_marks}
use Rattle.rml_types.specs.declared.graph.Mark.TheVariants as mark
use Rattle.rml_types.proofs.graph.acyclic.visit.Given as goal

abbrev pub invariant-loop-at : goal.invariant-loop-at
invariant-loop-at l = record {
  same : l.classes ≡ l.initial.classes;
  count : length l.marks ≡ length l.forms;
  room : length l.marks ≤ vec_capacity l.path;
  grown : vec_capacity l.fn.path ≤ vec_capacity l.path;
  walks : Walks (root_in l.initial.classes) (known_by l.forms l.shapes) l.marks l.path.items;
  stays : (c : ℕ) → mark_of l.fn.marks c ≡ mark.Done → mark_of l.marks c ≡ mark.Done;
  old : mark_of l.marks l.class ≡ mark.New → ⊥;
}

abbrev pub decreases-loop-at : goal.decreases-loop-at
decreases-loop-at l = 2 * new_marks l.marks + length l.path.items
