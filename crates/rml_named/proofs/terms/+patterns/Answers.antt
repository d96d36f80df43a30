use Rattle.rml_scopes.specs.Steps.{pattern_steps}
use Rattle.rml_named.proofs.Turns.{gather_more}
use Rattle.rml_named.proofs.terms.+patterns.Goals as goal

pub patterns-loop-item-preserved : goal.patterns-loop-item-preserved
patterns-loop-item-preserved t c =
    gather_more c.args.world.now c.args.values.now pattern_steps c.args.trees.now c.loop-item.item-index c.item-item.result c.args.gathering.now c.loop-item.gathering c.pattern.new.gathering
    c.loop-item-test.true c.item-item.is c.loop-item.invariant c.in_ok-pattern.ensures
