use Rattle.rml_sound.proofs.Declaring.{declared-typed, ungrouped}
use Rattle.rml_sound.proofs.laws.inferred_types_can_be_declared.Goals as goal

pub returns : goal.returns
returns c = record {
  typed = λ p rels typed declares. declared-typed p rels declares typed;
  ungrouped = λ p rels text r declares. ungrouped p rels declares text r;
}
