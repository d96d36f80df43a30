use Rattle.std.proofs.Common.{◌≡◌, drop}
use Rattle.std.specs.Prelude.{None}
use Rattle.rml_scopes.specs.Faults.{lesser_of}
use Rattle.rml_scopes.specs.Module.{texts_faults}
use Rattle.rml_walks.proofs.faults.in_texts.Given as goal

abbrev pub invariant-loop-number : goal.invariant-loop-number
invariant-loop-number l = lesser_of None (texts_faults l.world 0 l.texts) ≡ lesser_of l.least (texts_faults l.world l.number (drop l.number l.texts))
