use Rattle.std.proofs.Common.{◌*◌, ◌+◌, length}
use Rattle.rml_syntax.specs.declared.token.Mark.TheVariants as mark
use Rattle.rml_grammar.specs.Tokens.{after}
use Rattle.rml_grammar.specs.Goals.{goal_at}
use Rattle.rml_phrases.proofs.Callers.{SoFar}
use Rattle.rml_parse.proofs.goals.+goals.Given as goal

abbrev pub decreases-atom : goal.decreases-atom
decreases-atom l = 4 * l.levels

abbrev pub decreases-goal : goal.decreases-goal
decreases-goal l = 4 * l.levels + 1

abbrev pub decreases-more_goals : goal.decreases-more_goals
decreases-more_goals l = 4 * l.levels + 2

abbrev pub decreases-goals : goal.decreases-goals
decreases-goals l = 4 * l.levels + 3

abbrev pub invariant-more_goals-loop-next : goal.invariant-more_goals-loop-next
invariant-more_goals-loop-next l = SoFar (after mark.Amp) (goal_at l.levels) l.fn.spots l.items.items l.rest

abbrev pub decreases-more_goals-loop-next : goal.decreases-more_goals-loop-next
decreases-more_goals-loop-next l = length l.rest
