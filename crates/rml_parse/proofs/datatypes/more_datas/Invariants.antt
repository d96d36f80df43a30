use Rattle.std.proofs.Common.{length}
use Rattle.rml_syntax.specs.declared.token.Key.TheVariants as key
use Rattle.rml_grammar.specs.Tokens.{after_word}
use Rattle.rml_grammar.specs.Texts.{data_at}
use Rattle.rml_phrases.proofs.Callers.{SoFar}
use Rattle.rml_parse.proofs.datatypes.more_datas.Given as goal

abbrev pub invariant-loop-next : goal.invariant-loop-next
invariant-loop-next l = SoFar (after_word key.KAnd) (data_at l.levels) l.fn.spots l.items.items l.rest

abbrev pub decreases-loop-next : goal.decreases-loop-next
decreases-loop-next l = length l.rest
