use Rattle.std.proofs.Common.{◌≡◌, [], drop}
use Rattle.rml_outlines.specs.Outlines.{with_leading}
use Rattle.rml_reading.proofs.links.leading.Given as goal

abbrev pub invariant-loop-other : goal.invariant-loop-other
invariant-loop-other l = with_leading l.links l.own [] l.others ≡ with_leading l.links l.own l.texts (drop l.other-index l.others)
