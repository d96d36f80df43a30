use Rattle.std.proofs.Common.{◌++◌, ap, sym, ◌∙◌, arith}
use Rattle.rml_fol.specs.TermText.{separated, seated, expression_written}
use Rattle.rml_fol.proofs.Separated.{mapped-twice, item-written, items-written}
use Rattle.rml_fol.proofs.expressions.+expressions.Goals as goal

pub write_expressions-loop-i-preserved : goal.write_expressions-loop-i-preserved
write_expressions-loop-i-preserved t c =
    item-written c.args.out.now.items c.args.between.now (λ x. seated c.args.in_chain (expression_written c.args.parts.now x)) c.args.expressions.now c.loop-i.i c.index-expressions-i.result _
    c.loop-i.invariant (omega arith) c.index-expressions-i.is c.in_ok-separate.ensures c.in_ok-write_seated.ensures

pub write_expressions-returns : goal.write_expressions-returns
write_expressions-returns t c =
    items-written c.args.out.now.items c.args.between.now (λ x. seated c.args.in_chain (expression_written c.args.parts.now x)) c.args.expressions.now c.loop-i.i c.loop-i.invariant (omega arith)
    ∙ ap (λ ts. c.args.out.now.items ++ separated c.args.between.now ts) (sym (mapped-twice (seated c.args.in_chain) (expression_written c.args.parts.now) c.args.expressions.now))
