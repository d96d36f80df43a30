use Rattle.std.proofs.Common.{arith, map}
use Rattle.rml_syntax.specs.declared.token.Token.TheVariants as token
use Rattle.rml_syntax.specs.declared.token.Mark.TheVariants as mark
use Rattle.rml_print.specs.Goals.{goal_tokens}
use Rattle.rml_print.proofs.Separated.{loop-begin, loop-turn, loop-end}
use Rattle.rml_print.proofs.goals.+goals.Goals as goal

pub print_goals-loop-i-init : goal.print_goals-loop-i-init
print_goals-loop-i-init t c = loop-begin (token.Sign mark.Amp) (map goal_tokens c.args.goals.now) c.args.page.now

pub print_goals-loop-i-preserved : goal.print_goals-loop-i-preserved
print_goals-loop-i-preserved t c =
    loop-turn (token.Sign mark.Amp) goal_tokens c.args.goals.now c.loop-i.i c.index-goals-i.result _
    c.loop-i.invariant (omega arith) c.index-goals-i.is c.in_ok-separate.ensures c.in_ok-print_goal.ensures

pub print_goals-returns : goal.print_goals-returns
print_goals-returns t c = loop-end (token.Sign mark.Amp) goal_tokens c.args.goals.now c.loop-i.i c.loop-i.invariant (omega arith)
