use Rattle.std.proofs.Common.{length}
use Rattle.rml_top.specs.FirstForm.{spelled}
use Rattle.rml_top.proofs.Pieces.{ReadTo}
use Rattle.rml_top.proofs.text.tokens.Given as goal

abbrev pub invariant-loop-rest : goal.invariant-loop-rest
invariant-loop-rest l = ReadTo l.bytes l.rest (spelled l.tokens.items)

abbrev pub decreases-loop-rest : goal.decreases-loop-rest
decreases-loop-rest l = length l.rest
