use Rattle.std.proofs.Common.{◌≡◌, ◌++◌, drop}
use Rattle.rml_signatures.specs.Numbers.{numbered_from}
use Rattle.rml_signatures.proofs.numbers.numbered_from.Given as goal

abbrev pub invariant-loop-outline : goal.invariant-loop-outline
invariant-loop-outline l = numbered_from l.kept l.plain l.outlines ≡ l.texts ++ numbered_from l.next_kept l.next_plain (drop l.outline-index l.outlines)
