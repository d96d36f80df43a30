use Rattle.std.proofs.Common.{◌*◌, ◌+◌, length}
use Rattle.rml_syntax.specs.declared.token.Mark.TheVariants as mark
use Rattle.rml_grammar.specs.Tokens.{after}
use Rattle.rml_grammar.specs.Expressions.{exp_at, eapp_at}
use Rattle.rml_phrases.proofs.Loops.{SoFar}
use Rattle.rml_phrases.proofs.expressions.+expressions.Given as goal

abbrev pub decreases-atom : goal.decreases-atom
decreases-atom l = 8 * l.levels

abbrev pub decreases-argument : goal.decreases-argument
decreases-argument l = 8 * l.levels + 1

abbrev pub decreases-application : goal.decreases-application
decreases-application l = 8 * l.levels + 2

abbrev pub decreases-tails : goal.decreases-tails
decreases-tails l = 8 * l.levels + 3

abbrev pub decreases-exp : goal.decreases-exp
decreases-exp l = 8 * l.levels + 4

abbrev pub decreases-more_exps : goal.decreases-more_exps
decreases-more_exps l = 8 * l.levels + 5

abbrev pub decreases-exps : goal.decreases-exps
decreases-exps l = 8 * l.levels + 6

abbrev pub decreases-exps_or_none : goal.decreases-exps_or_none
decreases-exps_or_none l = 8 * l.levels + 7

abbrev pub invariant-tails-loop-next : goal.invariant-tails-loop-next
invariant-tails-loop-next l = SoFar (after mark.TwoColons) (eapp_at l.levels) l.fn.spots l.items.items l.rest

abbrev pub decreases-tails-loop-next : goal.decreases-tails-loop-next
decreases-tails-loop-next l = length l.rest

abbrev pub invariant-more_exps-loop-next : goal.invariant-more_exps-loop-next
invariant-more_exps-loop-next l = SoFar (after mark.Comma) (exp_at l.levels) l.fn.spots l.items.items l.rest

abbrev pub decreases-more_exps-loop-next : goal.decreases-more_exps-loop-next
decreases-more_exps-loop-next l = length l.rest
