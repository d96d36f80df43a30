use Rattle.std.proofs.Common.{◌≡◌, ◌<◌, ◌≤◌, ℕ, length, []}
use Rattle.std.specs.Prelude.{vec_capacity}
use Rattle.rml_types.specs.Kept.{known_by}
use Rattle.rml_types.specs.Nodes.{root_in}
use Rattle.rml_types.specs.Walks.{Walks, mark_of}
use Rattle.rml_types.specs.declared.graph.Mark.TheVariants as mark
use Rattle.rml_types.proofs.graph.acyclic.end_all.Given as goal

abbrev pub invariant-loop-node : goal.invariant-loop-node
invariant-loop-node l = record {
  same : l.classes ≡ l.fn.classes;
  marked : length l.marks ≡ length l.forms;
  room : length l.marks ≤ vec_capacity l.path;
  grown : vec_capacity l.fn.path ≤ vec_capacity l.path;
  empty : l.path.items ≡ [];
  walks : Walks (root_in l.fn.classes) (known_by l.forms l.shapes) l.marks [];
  done : (n : ℕ) → n < l.node → mark_of l.marks (root_in l.fn.classes n) ≡ mark.Done;
}
