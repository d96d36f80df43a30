use Rattle.std.proofs.Common.{◌≡◌, ◌++◌, drop}
use Rattle.rml_signatures.specs.Definitions.{definitions_from}
use Rattle.rml_signatures.proofs.definitions.add_run.Given as goal

abbrev pub invariant-loop-number : goal.invariant-loop-number
invariant-loop-number l =
    l.fn.all.items ++ definitions_from l.known l.numbers l.plain 0 l.texts ≡ l.all.items ++ definitions_from l.known l.numbers l.plain l.number (drop l.number l.texts)
