use Rattle.std.proofs.Common.{arith}
use Rattle.rml_syntax.specs.declared.token.Token.TheVariants as token
use Rattle.rml_print.specs.Expressions.{exp_tokens}
use Rattle.rml_print.proofs.Separated.{loop-start, loop-turn, loop-end}
use Rattle.rml_print.proofs.expressions.+expressions.Goals as goal

pub print_exps-loop-i-init : goal.print_exps-loop-i-init
print_exps-loop-i-init t c = loop-start c.args.separator exp_tokens c.args.seat c.args.exps.now c.args.page.now

pub print_exps-loop-i-preserved : goal.print_exps-loop-i-preserved
print_exps-loop-i-preserved t c =
    loop-turn (token.Sign c.args.separator) (λ x. exp_tokens x c.args.seat) c.args.exps.now c.loop-i.i c.index-exps-i.result _
    c.loop-i.invariant (omega arith) c.index-exps-i.is c.in_ok-separate.ensures c.in_ok-print_exp.ensures

pub print_exps-returns : goal.print_exps-returns
print_exps-returns t c = loop-end (token.Sign c.args.separator) (λ x. exp_tokens x c.args.seat) c.args.exps.now c.loop-i.i c.loop-i.invariant (omega arith)
