use Rattle.std.proofs.Common.{◌≡◌, drop}
use Rattle.rml_signatures.specs.Numbers.{count_from}
use Rattle.rml_signatures.proofs.numbers.count_from.Given as goal

abbrev pub invariant-loop-outline : goal.invariant-loop-outline
invariant-loop-outline l = count_from l.plain l.first l.outlines ≡ count_from l.plain l.count (drop l.outline-index l.outlines)
