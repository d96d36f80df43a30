use Rattle.std.proofs.Common.{◌≡◌, drop}
use Rattle.rml_scopes.specs.Steps.{later_names}
use Rattle.rml_scopes.specs.Walks.{run}
use Rattle.rml_walks.proofs.types.other_names.Given as goal

abbrev pub invariant-loop-long : goal.invariant-loop-long
invariant-loop-long l = run l.world l.fn.walk (later_names l.names) ≡ run l.world l.walk (later_names (drop l.long-index l.names))
