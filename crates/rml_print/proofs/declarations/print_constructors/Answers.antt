use Rattle.std.proofs.Common.{arith, map}
use Rattle.rml_syntax.specs.declared.token.Token.TheVariants as token
use Rattle.rml_syntax.specs.declared.token.Mark.TheVariants as mark
use Rattle.rml_print.specs.Texts.{constructor_tokens}
use Rattle.rml_print.proofs.Separated.{loop-begin, loop-turn, loop-end}
use Rattle.rml_print.proofs.declarations.print_constructors.Goals as goal

pub loop-i-init : goal.loop-i-init
loop-i-init c = loop-begin (token.Sign mark.Bar) (map constructor_tokens c.args.constructors.now) c.args.page.now

pub loop-i-preserved : goal.loop-i-preserved
loop-i-preserved c =
    loop-turn (token.Sign mark.Bar) constructor_tokens c.args.constructors.now c.loop-i.i c.index-constructors-i.result _
    c.loop-i.invariant (omega arith) c.index-constructors-i.is c.in_ok-separate.ensures c.in_ok-print_constructor.ensures

pub returns : goal.returns
returns c = loop-end (token.Sign mark.Bar) constructor_tokens c.args.constructors.now c.loop-i.i c.loop-i.invariant (omega arith)
