use Rattle.std.proofs.Common.{◌≡◌, ◌++◌, drop}
use Rattle.rml_type_facts.specs.Circles.{own_among}
use Rattle.rml_type_facts.proofs.circles.own_among.Given as goal

abbrev pub invariant-loop-label : goal.invariant-loop-label
invariant-loop-label l = own_among l.definitions l.count l.labels ≡ l.own ++ own_among l.definitions l.count (drop l.label-index l.labels)
