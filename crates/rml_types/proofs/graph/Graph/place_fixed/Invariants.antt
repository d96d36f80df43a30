use Rattle.std.proofs.Common.{ℕ, drop}
use Rattle.rml_types.specs.Runs.{Keeps, Placing, as_it_stands}
use Rattle.rml_types.proofs.graph.Graph.place_fixed.Given as goal

abbrev pub invariant-loop-label : goal.invariant-loop-label
invariant-loop-label l = record {
  keeps : Keeps l.fn.self l.self;
  placing : (vars : ℕ) × Placing as_it_stands vars l.self l.labels (drop l.label-index l.labels) l.made.items;
}
