use Rattle.std.proofs.Common.{◌≡◌, ◌≤◌, ◌-◌, length, reverse}
use Rattle.rml_types.specs.Kept.{known_by}
use Rattle.rml_types.specs.Nodes.{root_in}
use Rattle.rml_types.specs.Spelled.{Spelling}
use Rattle.rml_types.proofs.graph.general.spelled.Given as goal

abbrev pub invariant-loop-node : goal.invariant-loop-node
invariant-loop-node l = record {
  same : l.classes ≡ l.fn.classes;
  narrow : length l.spelled.items ≤ l.limit;
  spelling : Spelling (root_in l.fn.classes) (known_by l.forms l.shapes) (length l.forms) l.fn.node l.waiting.items (reverse l.spelled.items);
}

abbrev pub decreases-loop-node : goal.decreases-loop-node
decreases-loop-node l = l.limit - length l.spelled.items
