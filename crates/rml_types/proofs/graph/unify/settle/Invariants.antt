use Rattle.rml_types.specs.Kept.{IsOpen}
use Rattle.rml_types.specs.Nodes.{root_in}
use Rattle.rml_types.specs.Turns.{OnTheWay, weight}
use Rattle.rml_types.specs.Waiting.{PairsBelow}
use Rattle.std.proofs.Common.{length}
use Rattle.rml_types.proofs.graph.unify.settle.Given as goal

abbrev pub invariant-loop-m : goal.invariant-loop-m
invariant-loop-m l = record {
  graph : IsOpen l.forms l.classes l.shapes;
  going : OnTheWay l.forms (root_in l.initial.classes) l.a l.b l.classes l.shapes l.work.items;
  below : PairsBelow (length l.forms) l.work.items;
}

abbrev pub decreases-loop-m : goal.decreases-loop-m
decreases-loop-m l = weight l.forms l.classes l.work.items
