use Rattle.std.proofs.Common.{◌≡◌, [], drop}
use Rattle.rml_outlines.specs.Outlines.{with_modules}
use Rattle.rml_reading.proofs.reading.modules.Given as goal

abbrev pub invariant-loop-number : goal.invariant-loop-number
invariant-loop-number l = with_modules l.prelude [] 0 l.texts ≡ with_modules l.prelude l.modules l.number (drop l.number l.texts)
