use Rattle.std.proofs.Common.{◌*◌, ◌+◌, length}
use Rattle.rml_syntax.specs.declared.token.Mark.TheVariants as mark
use Rattle.rml_grammar.specs.Tokens.{after}
use Rattle.rml_grammar.specs.Types.{type_at, tatom_at}
use Rattle.rml_phrases.proofs.Loops.{SoFar}
use Rattle.rml_phrases.proofs.types.+types.Given as goal

abbrev pub decreases-factor : goal.decreases-factor
decreases-factor l = 9 * l.levels

abbrev pub decreases-more_factors : goal.decreases-more_factors
decreases-more_factors l = 9 * l.levels + 1

abbrev pub decreases-type_exp : goal.decreases-type_exp
decreases-type_exp l = 9 * l.levels + 2

abbrev pub decreases-one_from : goal.decreases-one_from
decreases-one_from l = 9 * l.levels + 2

abbrev pub decreases-more_types : goal.decreases-more_types
decreases-more_types l = 9 * l.levels + 3

abbrev pub decreases-types_from : goal.decreases-types_from
decreases-types_from l = 9 * l.levels + 4

abbrev pub decreases-types : goal.decreases-types
decreases-types l = 9 * l.levels + 5

abbrev pub decreases-bracket_from : goal.decreases-bracket_from
decreases-bracket_from l = 9 * l.levels + 4

abbrev pub decreases-bracket : goal.decreases-bracket
decreases-bracket l = 9 * l.levels + 7

abbrev pub invariant-more_types-loop-next : goal.invariant-more_types-loop-next
invariant-more_types-loop-next l = SoFar (after mark.Comma) (type_at l.levels) l.fn.spots l.items.items l.rest

abbrev pub decreases-more_types-loop-next : goal.decreases-more_types-loop-next
decreases-more_types-loop-next l = length l.rest

abbrev pub invariant-more_factors-loop-next : goal.invariant-more_factors-loop-next
invariant-more_factors-loop-next l = SoFar (after mark.Star) (tatom_at l.levels) l.fn.spots l.items.items l.rest

abbrev pub decreases-more_factors-loop-next : goal.decreases-more_factors-loop-next
decreases-more_factors-loop-next l = length l.rest
