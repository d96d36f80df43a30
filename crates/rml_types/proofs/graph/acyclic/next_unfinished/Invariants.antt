use Rattle.std.proofs.Common.{◌≡◌}
use Rattle.rml_types.specs.Nodes.{root_in}
use Rattle.rml_types.specs.Walks.{DoneFrom}
use Rattle.rml_types.proofs.graph.acyclic.next_unfinished.Given as goal

abbrev pub invariant-loop-i : goal.invariant-loop-i
invariant-loop-i l = record {
  same : l.classes ≡ l.initial.classes;
  done : DoneFrom (root_in l.initial.classes) l.marks l.args l.from l.i;
}
