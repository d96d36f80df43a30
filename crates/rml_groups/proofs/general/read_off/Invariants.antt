use Rattle.std.proofs.Common.{◌≡◌, take}
use Rattle.std.specs.List.{AllZip}
use Rattle.rml_groups.specs.Found.{IsReadOff}
use Rattle.rml_groups.proofs.general.read_off.Given as goal

abbrev pub invariant-loop-member : goal.invariant-loop-member
invariant-loop-member l = record {
  same : l.graph ≡ l.fn.graph;
  read : AllZip (IsReadOff l.fn.graph) (take l.member-index l.members) l.all.items;
}
