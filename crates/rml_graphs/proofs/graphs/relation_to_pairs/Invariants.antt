use Rattle.std.proofs.Common.{◌≡◌, ◌<◌, length}
use Rattle.rml_types.specs.Nodes.{HasNoFixed}
use Rattle.rml_graphs.proofs.graphs.relation_to_pairs.Given as goal

abbrev pub invariant-loop : goal.invariant-loop
invariant-loop l = record {
  failed : l.graph.failed ≡ l.fn.graph.failed;
  unfixed : HasNoFixed l.fn.graph → HasNoFixed l.graph;
  within : l.pair < length l.graph.forms;
}
