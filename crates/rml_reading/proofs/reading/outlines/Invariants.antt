use Rattle.std.proofs.Common.{◌≡◌, ◌++◌, drop}
use Rattle.rml_outlines.specs.Outlines.{outlines_from}
use Rattle.rml_reading.proofs.reading.outlines.Given as goal

abbrev pub invariant-loop-own : goal.invariant-loop-own
invariant-loop-own l = outlines_from l.links l.targets 0 l.texts ≡ l.outlines ++ outlines_from l.links l.targets l.own (drop l.own l.texts)
