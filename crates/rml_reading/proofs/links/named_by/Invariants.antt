use Rattle.std.proofs.Common.{◌≡◌, ◌++◌, drop}
use Rattle.rml_outlines.specs.Outlines.{named_by}
use Rattle.rml_reading.proofs.links.named_by.Given as goal

abbrev pub invariant-loop-item : goal.invariant-loop-item
invariant-loop-item l = named_by l.targets l.trees ≡ l.texts ++ named_by l.targets (drop l.item-index l.trees)
