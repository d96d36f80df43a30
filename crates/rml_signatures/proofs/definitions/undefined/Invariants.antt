use Rattle.std.proofs.Common.{◌≡◌, ◌++◌, map, drop}
use Rattle.rml_signatures.specs.Definitions.{nothing}
use Rattle.rml_signatures.proofs.definitions.undefined.Given as goal

abbrev pub invariant-loop-name : goal.invariant-loop-name
invariant-loop-name l = map nothing l.names ≡ l.all.items ++ map nothing (drop l._name-index l.names)
