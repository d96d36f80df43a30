use Rattle.rml_scopes.specs.Steps.{pattern_steps}
use Rattle.rml_walks.proofs.Runs.{run_more}
use Rattle.rml_walks.proofs.terms.+patterns.Goals as goal

pub patterns-loop-item-preserved : goal.patterns-loop-item-preserved
patterns-loop-item-preserved t c =
    run_more c.args.world.now pattern_steps c.args.trees.now c.loop-item.item-index c.item-item.result c.args.walk.now c.loop-item.walk c.pattern.new.walk
    c.loop-item-test.true c.item-item.is c.loop-item.invariant c.in_ok-pattern.ensures
