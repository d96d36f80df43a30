use Rattle.std.proofs.Common.{length}
use Rattle.rml_grammar.specs.Texts.{decl_next, decl_at}
use Rattle.rml_phrases.proofs.Callers.{SoFar}
use Rattle.rml_parse.proofs.declarations.decls.Given as goal

abbrev pub invariant-loop-next : goal.invariant-loop-next
invariant-loop-next l = SoFar decl_next (decl_at l.levels l.further) l.fn.spots l.items l.rest

abbrev pub decreases-loop-next : goal.decreases-loop-next
decreases-loop-next l = length l.rest
