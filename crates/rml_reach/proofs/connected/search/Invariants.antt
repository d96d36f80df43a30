use Rattle.std.proofs.Common.{◌≡◌, ◌≢◌, ◌<◌, ℕ, length, None}
use Rattle.rml_reach.specs.Components.{IsWay, mark_of}
use Rattle.rml_reach.specs.Walk.{way_of}
use Rattle.rml_reach.specs.declared.connected.Mark.TheVariants as mark
use Rattle.rml_reach.proofs.connected.search.Given as goal

abbrev pub invariant-loop-node : goal.invariant-loop-node
invariant-loop-node l = record {
  way : IsWay l.edges (way_of l.walk) None;
  empty : length l.walk.parts.items ≡ 0;
  met : (n : ℕ) → n < l.node → mark_of l.walk.marks.items n ≢ mark.New;
}
