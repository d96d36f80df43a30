use Rattle.std.proofs.Common.{length}
use Rattle.rml_grammar.specs.Texts.{uses_next, uses_at}
use Rattle.rml_phrases.proofs.Callers.{SoFar}
use Rattle.rml_parse.proofs.texts.uses.Given as goal

abbrev pub invariant-loop-next : goal.invariant-loop-next
invariant-loop-next l = SoFar uses_next uses_at l.fn.spots l.items l.rest

abbrev pub decreases-loop-next : goal.decreases-loop-next
decreases-loop-next l = length l.rest
