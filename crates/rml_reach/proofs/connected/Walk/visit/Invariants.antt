use Rattle.std.proofs.Common.{◌≢◌, None}
use Rattle.rml_reach.specs.Components.{IsOlder, IsWay, mark_of, work}
use Rattle.rml_reach.specs.Walk.{way_of}
use Rattle.rml_reach.specs.declared.connected.Mark.TheVariants as mark
use Rattle.rml_reach.proofs.connected.Walk.visit.Given as goal

abbrev pub invariant-loop-self : goal.invariant-loop-self
invariant-loop-self l = record {
  way : IsWay l.edges (way_of l.self) None;
  older : IsOlder l.fn.self.marks.items l.self.marks.items;
  met : mark_of l.self.marks.items l.node ≢ mark.New;
}

abbrev pub decreases-loop-self : goal.decreases-loop-self
decreases-loop-self l = work l.edges (way_of l.self)
