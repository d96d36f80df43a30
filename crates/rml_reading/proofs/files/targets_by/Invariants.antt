use Rattle.std.proofs.Common.{◌≡◌, [], drop}
use Rattle.rml_outlines.specs.Files.{with_targets_of}
use Rattle.rml_reading.proofs.files.targets_by.Given as goal

abbrev pub invariant-loop-text : goal.invariant-loop-text
invariant-loop-text l = with_targets_of l.names l.parts [] l.texts ≡ with_targets_of l.names l.parts l.targets (drop l.text-index l.texts)
