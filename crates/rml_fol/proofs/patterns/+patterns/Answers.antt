use Rattle.std.proofs.Common.{◌++◌, ap, sym, ◌∙◌, arith}
use Rattle.rml_fol.specs.TermText.{separated, seated, pattern_written}
use Rattle.rml_fol.proofs.Separated.{mapped-twice, item-written, items-written}
use Rattle.rml_fol.proofs.patterns.+patterns.Goals as goal

pub write_patterns-loop-i-preserved : goal.write_patterns-loop-i-preserved
write_patterns-loop-i-preserved t c =
    item-written c.args.out.now.items c.args.between.now (λ x. seated c.args.in_chain (pattern_written c.args.parts.now x)) c.args.patterns.now c.loop-i.i c.index-patterns-i.result _
    c.loop-i.invariant (omega arith) c.index-patterns-i.is c.in_ok-separate.ensures c.in_ok-write_seated.ensures

pub write_patterns-returns : goal.write_patterns-returns
write_patterns-returns t c =
    items-written c.args.out.now.items c.args.between.now (λ x. seated c.args.in_chain (pattern_written c.args.parts.now x)) c.args.patterns.now c.loop-i.i c.loop-i.invariant (omega arith)
    ∙ ap (λ ts. c.args.out.now.items ++ separated c.args.between.now ts) (sym (mapped-twice (seated c.args.in_chain) (pattern_written c.args.parts.now) c.args.patterns.now))
