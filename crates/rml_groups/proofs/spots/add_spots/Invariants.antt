use Rattle.std.proofs.Common.{◌≡◌, ◌++◌, map, take}
use Rattle.rml_groups.specs.Spots.{spot_of}
use Rattle.rml_groups.proofs.spots.add_spots.Given as goal

abbrev pub invariant-loop-rule : goal.invariant-loop-rule
invariant-loop-rule l = l.spots.items ≡ l.fn.spots.items ++ map spot_of (take l.rule-index l.rules)
