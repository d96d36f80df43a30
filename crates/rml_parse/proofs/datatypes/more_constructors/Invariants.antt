use Rattle.std.proofs.Common.{length}
use Rattle.rml_syntax.specs.declared.token.Mark.TheVariants as mark
use Rattle.rml_grammar.specs.Tokens.{after}
use Rattle.rml_grammar.specs.Texts.{con_at}
use Rattle.rml_phrases.proofs.Callers.{SoFar}
use Rattle.rml_parse.proofs.datatypes.more_constructors.Given as goal

abbrev pub invariant-loop-next : goal.invariant-loop-next
invariant-loop-next l = SoFar (after mark.Bar) (con_at l.levels) l.fn.spots l.items.items l.rest

abbrev pub decreases-loop-next : goal.decreases-loop-next
decreases-loop-next l = length l.rest
