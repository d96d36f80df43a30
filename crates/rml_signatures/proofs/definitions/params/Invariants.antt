use Rattle.std.proofs.Common.{◌≡◌, ◌++◌, map, drop}
use Rattle.rml_signatures.specs.Definitions.{params_of}
use Rattle.rml_signatures.proofs.definitions.params.Given as goal

abbrev pub invariant-loop-definition : goal.invariant-loop-definition
invariant-loop-definition l = map (params_of l.texts) l.definitions ≡ l.params.items ++ map (params_of l.texts) (drop l.definition-index l.definitions)
