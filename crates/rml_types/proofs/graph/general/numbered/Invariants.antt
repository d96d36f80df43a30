use Rattle.std.proofs.Common.{◌≤◌, length, take}
use Rattle.rml_types.specs.General.{InOrder}
use Rattle.rml_types.specs.Kept.{known_by}
use Rattle.rml_types.specs.Spelled.{Names, numbers_in}
use Rattle.rml_types.proofs.graph.general.numbered.Given as goal

abbrev pub invariant-loop-class : goal.invariant-loop-class
invariant-loop-class l = record {
  few : length l.vars.keys ≤ l.class-index;
  names : Names (known_by l.forms l.shapes) l.vars.keys (take l.class-index l.classes) l.labels.items;
  order : InOrder 0 (numbers_in l.labels.items) (length l.vars.keys);
}
