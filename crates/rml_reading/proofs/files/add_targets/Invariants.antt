use Rattle.std.proofs.Common.{◌≡◌, drop}
use Rattle.rml_outlines.specs.Files.{with_targets}
use Rattle.rml_reading.proofs.files.add_targets.Given as goal

abbrev pub invariant-loop-item : goal.invariant-loop-item
invariant-loop-item l = with_targets l.names l.parts l.fn.targets l.trees ≡ with_targets l.names l.parts l.targets (drop l.item-index l.trees)
