use Rattle.std.proofs.Common.{map}
use Rattle.rml_resolved.specs.Circles.{type_needs, val_needs}
use Rattle.rml_resolved.proofs.Rounds.{acyclic}
use Rattle.rml_resolved.proofs.laws.programs_have_no_circle.Goals as goal

pub returns : goal.returns
returns c = record {
  types = λ p. acyclic (map type_needs p.types) p.types_end;
  vals = λ p. acyclic (map val_needs p.vals) p.vals_end;
}
