use Rattle.std.proofs.Common.{◌<◌, drop, length}
use Rattle.std.specs.Prelude.{All}
use Rattle.rml_types.specs.Runs.{Grows, Placing, over}
use Rattle.rml_types.proofs.graph.Graph.place.Given as goal

abbrev pub invariant-loop-label : goal.invariant-loop-label
invariant-loop-label l = record {
  grows : Grows l.fn.self l.self;
  vars_within : All (λ n. n < length l.self.forms) l.vars;
  placing : Placing (over l.vars) (length l.vars) l.self l.labels (drop l.label-index l.labels) l.made.items;
}
