use Rattle.std.proofs.Common.{◌≡◌, ◌++◌, drop}
use Rattle.rml_outlines.specs.Outlines.{links_of}
use Rattle.rml_reading.proofs.links.links.Given as goal

abbrev pub invariant-loop-text : goal.invariant-loop-text
invariant-loop-text l = links_of l.targets l.texts ≡ l.links ++ links_of l.targets (drop l.text-index l.texts)
