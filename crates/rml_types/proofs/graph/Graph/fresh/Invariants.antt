use Rattle.std.proofs.Common.{◌≡◌}
use Rattle.std.specs.Prelude.{vec_len}
use Rattle.rml_types.specs.Runs.{Fresh, Grows}
use Rattle.rml_types.proofs.graph.Graph.fresh.Given as goal

abbrev pub invariant-loop : goal.invariant-loop
invariant-loop l = record {
  grows : Grows l.fn.self l.self;
  count : vec_len l.nodes ≡ l.counter;
  fresh : Fresh l.fn.self l.self l.nodes.items;
}
