use Rattle.std.proofs.Common.{◌*◌, ◌+◌, length}
use Rattle.rml_syntax.specs.declared.token.Mark.TheVariants as mark
use Rattle.rml_grammar.specs.Tokens.{after}
use Rattle.rml_grammar.specs.Patterns.{pat_at, papp_at}
use Rattle.rml_phrases.proofs.Loops.{SoFar}
use Rattle.rml_phrases.proofs.patterns.+patterns.Given as goal

abbrev pub decreases-atom : goal.decreases-atom
decreases-atom l = 9 * l.levels

abbrev pub decreases-argument : goal.decreases-argument
decreases-argument l = 9 * l.levels + 1

abbrev pub decreases-application : goal.decreases-application
decreases-application l = 9 * l.levels + 2

abbrev pub decreases-tails : goal.decreases-tails
decreases-tails l = 9 * l.levels + 3

abbrev pub decreases-chain : goal.decreases-chain
decreases-chain l = 9 * l.levels + 4

abbrev pub decreases-pattern : goal.decreases-pattern
decreases-pattern l = 9 * l.levels + 5

abbrev pub decreases-more_pats : goal.decreases-more_pats
decreases-more_pats l = 9 * l.levels + 6

abbrev pub decreases-pats : goal.decreases-pats
decreases-pats l = 9 * l.levels + 7

abbrev pub decreases-pats_or_none : goal.decreases-pats_or_none
decreases-pats_or_none l = 9 * l.levels + 8

abbrev pub invariant-tails-loop-next : goal.invariant-tails-loop-next
invariant-tails-loop-next l = SoFar (after mark.TwoColons) (papp_at l.levels) l.fn.spots l.items.items l.rest

abbrev pub decreases-tails-loop-next : goal.decreases-tails-loop-next
decreases-tails-loop-next l = length l.rest

abbrev pub invariant-more_pats-loop-next : goal.invariant-more_pats-loop-next
invariant-more_pats-loop-next l = SoFar (after mark.Comma) (pat_at l.levels) l.fn.spots l.items.items l.rest

abbrev pub decreases-more_pats-loop-next : goal.decreases-more_pats-loop-next
decreases-more_pats-loop-next l = length l.rest
