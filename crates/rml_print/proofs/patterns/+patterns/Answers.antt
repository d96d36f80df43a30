use Rattle.std.proofs.Common.{arith}
use Rattle.rml_syntax.specs.declared.token.Token.TheVariants as token
use Rattle.rml_print.specs.Patterns.{pattern_tokens}
use Rattle.rml_print.proofs.Separated.{loop-start, loop-turn, loop-end}
use Rattle.rml_print.proofs.patterns.+patterns.Goals as goal

pub print_patterns-loop-i-init : goal.print_patterns-loop-i-init
print_patterns-loop-i-init t c = loop-start c.args.separator pattern_tokens c.args.seat c.args.patterns.now c.args.page.now

pub print_patterns-loop-i-preserved : goal.print_patterns-loop-i-preserved
print_patterns-loop-i-preserved t c =
    loop-turn (token.Sign c.args.separator) (λ x. pattern_tokens x c.args.seat) c.args.patterns.now c.loop-i.i c.index-patterns-i.result _
    c.loop-i.invariant (omega arith) c.index-patterns-i.is c.in_ok-separate.ensures c.in_ok-print_pattern.ensures

pub print_patterns-returns : goal.print_patterns-returns
print_patterns-returns t c = loop-end (token.Sign c.args.separator) (λ x. pattern_tokens x c.args.seat) c.args.patterns.now c.loop-i.i c.loop-i.invariant (omega arith)
