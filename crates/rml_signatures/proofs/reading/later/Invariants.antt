use Rattle.std.proofs.Common.{◌≡◌, drop}
use Rattle.rml_signatures.specs.Reading.{context_of, later}
use Rattle.rml_signatures.proofs.reading.later.Given as goal

abbrev pub invariant-loop-long : goal.invariant-loop-long
invariant-loop-long l = later (context_of l.view) l.fn.tree l.names ≡ later (context_of l.view) l.tree (drop l.long-index l.names)
