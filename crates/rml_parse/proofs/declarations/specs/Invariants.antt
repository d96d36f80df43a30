use Rattle.std.proofs.Common.{length}
use Rattle.rml_grammar.specs.Texts.{spec_next, spec_at}
use Rattle.rml_phrases.proofs.Callers.{SoFar}
use Rattle.rml_parse.proofs.declarations.specs.Given as goal

abbrev pub invariant-loop-next : goal.invariant-loop-next
invariant-loop-next l = SoFar spec_next (spec_at l.levels) l.fn.spots l.items l.rest

abbrev pub decreases-loop-next : goal.decreases-loop-next
decreases-loop-next l = length l.rest
