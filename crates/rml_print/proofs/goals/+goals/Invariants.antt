use Rattle.std.proofs.Common.{map, drop}
use Rattle.rml_syntax.specs.declared.token.Token.TheVariants as token
use Rattle.rml_syntax.specs.declared.token.Mark.TheVariants as mark
use Rattle.rml_print.specs.Goals.{goal_tokens, goals_tokens}
use Rattle.rml_print.proofs.Separated.{Goes, remaining}
use Rattle.rml_print.proofs.goals.+goals.Given as goal

abbrev pub invariant-print_goals-loop-i : goal.invariant-print_goals-loop-i
invariant-print_goals-loop-i l = Goes l.fn.page (goals_tokens l.goals) l.page (remaining (token.Sign mark.Amp) l.i (map goal_tokens (drop l.i l.goals)))
