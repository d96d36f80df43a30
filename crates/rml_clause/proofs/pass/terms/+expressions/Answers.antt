use denote.Param.Weighed.{at_most}
use Rattle.std.proofs.Common.{◌-◌, ap, arith}
use Rattle.std.proofs.lemmas.Grind.{common_steps}
use Rattle.rml_resolved.specs.declared.trees.RExp.{RExp, size-RExp}
use Rattle.rml_clause.specs.Plain.{expression_of}
use Rattle.rml_clause.specs.Within.{expression_within}
use Rattle.rml_clause.proofs.Rows.{every-at, made-more}
use Rattle.rml_clause.proofs.pass.terms.+expressions.Goals as goal

pub expressions-expression-requires : goal.expressions-expression-requires
expressions-expression-requires t c =
    let deepest = at_most (λ (x : RExp). size-RExp x) c.args.exps.now c.loop-exp.exp-index c.exp-item.result c.loop-exp-test.true in
    let same = ap (λ (x : RExp). size-RExp x) c.exp-item.is in (
      first_of (omega (arith, deepest, same, c.decreases), grind (arith, common_steps, deepest, same, c.decreases)),
      every-at (expression_within (4294967296 - c.args.params)) c.args.exps.now c.loop-exp.exp-index c.exp-item.result c.exp-item.result c.loop-exp-test.true c.exp-item.is c.requires,
    )

pub expressions-loop-exp-preserved : goal.expressions-loop-exp-preserved
expressions-loop-exp-preserved t c =
    made-more (expression_of c.args.names.now c.args.params) c.args.exps.now c.loop-exp.exp-index c.exp-item.result c.exp-item.result c.in_ok-made.made c.loop-exp.all c.push.new.self
    c.loop-exp-test.true c.exp-item.is c.in_ok-made.ensures c.loop-exp.invariant c.in_ok-push.ensures.ok
