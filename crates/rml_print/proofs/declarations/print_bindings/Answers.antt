use Rattle.std.proofs.Common.{arith, map}
use Rattle.rml_syntax.specs.declared.token.Token.TheVariants as token
use Rattle.rml_syntax.specs.declared.token.Key.TheVariants as key
use Rattle.rml_print.specs.Texts.{binding_tokens}
use Rattle.rml_print.proofs.Separated.{loop-begin, loop-turn, loop-end}
use Rattle.rml_print.proofs.declarations.print_bindings.Goals as goal

pub loop-i-init : goal.loop-i-init
loop-i-init c = loop-begin (token.Word key.KAnd) (map binding_tokens c.args.bindings.now) c.args.page.now

pub loop-i-preserved : goal.loop-i-preserved
loop-i-preserved c =
    loop-turn (token.Word key.KAnd) binding_tokens c.args.bindings.now c.loop-i.i c.index-bindings-i.result _
    c.loop-i.invariant (omega arith) c.index-bindings-i.is c.in_ok-separate.ensures c.in_ok-print_binding.ensures

pub returns : goal.returns
returns c = loop-end (token.Word key.KAnd) binding_tokens c.args.bindings.now c.loop-i.i c.loop-i.invariant (omega arith)
