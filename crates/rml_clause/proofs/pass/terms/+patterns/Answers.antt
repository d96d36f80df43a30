use denote.Param.Weighed.{at_most}
use Rattle.std.proofs.Common.{◌-◌, ap, arith}
use Rattle.std.proofs.lemmas.Grind.{common_steps}
use Rattle.rml_resolved.specs.declared.trees.RPat.{RPat, size-RPat}
use Rattle.rml_clause.specs.Plain.{pattern_of}
use Rattle.rml_clause.specs.Within.{pattern_within}
use Rattle.rml_clause.proofs.Rows.{every-at, made-more}
use Rattle.rml_clause.proofs.pass.terms.+patterns.Goals as goal

pub patterns-pattern-requires : goal.patterns-pattern-requires
patterns-pattern-requires t c =
    let deepest = at_most (λ (x : RPat). size-RPat x) c.args.patterns.now c.loop-one.one-index c.one-item.result c.loop-one-test.true in
    let same = ap (λ (x : RPat). size-RPat x) c.one-item.is in (
      first_of (omega (arith, deepest, same, c.decreases), grind (arith, common_steps, deepest, same, c.decreases)),
      every-at (pattern_within (4294967296 - c.args.params)) c.args.patterns.now c.loop-one.one-index c.one-item.result c.one-item.result c.loop-one-test.true c.one-item.is c.requires,
    )

pub patterns-loop-one-preserved : goal.patterns-loop-one-preserved
patterns-loop-one-preserved t c =
    made-more (pattern_of c.args.names.now c.args.params) c.args.patterns.now c.loop-one.one-index c.one-item.result c.one-item.result c.in_ok-made.made c.loop-one.all c.push.new.self
    c.loop-one-test.true c.one-item.is c.in_ok-made.ensures c.loop-one.invariant c.in_ok-push.ensures.ok
