use Rattle.std.proofs.Common.{◌≤◌, length}
use Rattle.std.specs.Prelude.{All}
use Rattle.rml_base.specs.declared.limits.TheConstants.{BYTES}
use Rattle.rml_stages.proofs.tests.sources.Given as goal

abbrev pub invariant-loop-text : goal.invariant-loop-text
invariant-loop-text l = All (λ s. length s.bytes ≤ BYTES) l.sources.items
