use Rattle.std.proofs.Common.{arith}
use Rattle.rml_syntax.specs.declared.token.Token.TheVariants as token
use Rattle.rml_print.specs.Types.{type_tokens}
use Rattle.rml_print.proofs.Separated.{loop-start, loop-turn, loop-end}
use Rattle.rml_print.proofs.types.+types.Goals as goal

pub print_types-loop-i-init : goal.print_types-loop-i-init
print_types-loop-i-init t c = loop-start c.args.separator type_tokens c.args.seat c.args.types.now c.args.page.now

pub print_types-loop-i-preserved : goal.print_types-loop-i-preserved
print_types-loop-i-preserved t c =
    loop-turn (token.Sign c.args.separator) (λ x. type_tokens x c.args.seat) c.args.types.now c.loop-i.i c.index-types-i.result _
    c.loop-i.invariant (omega arith) c.index-types-i.is c.in_ok-separate.ensures c.in_ok-print_type.ensures

pub print_types-returns : goal.print_types-returns
print_types-returns t c = loop-end (token.Sign c.args.separator) (λ x. type_tokens x c.args.seat) c.args.types.now c.loop-i.i c.loop-i.invariant (omega arith)
