use Rattle.rml_reading.proofs.OutlinesMore.{outlines_more}
use Rattle.rml_reading.proofs.reading.outlines.Goals as goal

pub loop-own-preserved : goal.loop-own-preserved
loop-own-preserved c =
    outlines_more c.args.links.now c.args.targets.now c.args.texts.now c.loop-own.own c.index-texts-own.result _ c.loop-own.outlines c.push.new.self c.in_ok-outline.field-0 c.loop-own-test.true c.index-texts-own.is c.loop-own.invariant c.in_ok-outline.ensures c.in_ok-push.ensures.ok
