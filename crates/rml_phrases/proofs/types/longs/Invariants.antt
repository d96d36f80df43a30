use Rattle.std.proofs.Common.{length}
use Rattle.rml_grammar.specs.Reading.{long_at}
use Rattle.rml_grammar.specs.Types.{name_next}
use Rattle.rml_phrases.proofs.Loops.{SoFar}
use Rattle.rml_phrases.proofs.types.longs.Given as goal

abbrev pub invariant-loop-next : goal.invariant-loop-next
invariant-loop-next l = SoFar name_next long_at l.fn.spots l.items.items l.rest

abbrev pub decreases-loop-next : goal.decreases-loop-next
decreases-loop-next l = length l.rest
