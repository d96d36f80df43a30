use Rattle.std.proofs.Common.{◌≡◌, length}
use Rattle.rml_types.specs.Runs.{Fresh, Grows}
use Rattle.rml_alone.proofs.nodes.fresh.Given as goal

abbrev pub invariant-loop : goal.invariant-loop
invariant-loop l = record {
  grows : Grows l.fn.graph l.graph;
  count : length l.nodes.items ≡ l.counter;
  fresh : Fresh l.fn.graph l.graph l.nodes.items;
}
