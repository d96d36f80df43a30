use Rattle.rml_scopes.specs.Steps.{rule_steps}
use Rattle.rml_walks.proofs.Runs.{run_more}
use Rattle.rml_walks.proofs.goals.rules.Goals as goal

pub loop-item-preserved : goal.loop-item-preserved
loop-item-preserved c =
    run_more c.args.world.now (rule_steps c.args.relation) c.args.trees.now c.loop-item.item-index c.item-item.result c.args.walk.now c.loop-item.walk c.rule.new.walk
    c.loop-item-test.true c.item-item.is c.loop-item.invariant c.in_ok-rule.ensures
