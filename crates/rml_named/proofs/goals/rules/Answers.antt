use Rattle.rml_scopes.specs.Steps.{rule_steps}
use Rattle.rml_named.proofs.Turns.{gather_more}
use Rattle.rml_named.proofs.goals.rules.Goals as goal

pub loop-item-preserved : goal.loop-item-preserved
loop-item-preserved c =
    gather_more c.args.world.now c.args.values.now (rule_steps c.args.relation) c.args.trees.now c.loop-item.item-index c.item-item.result c.args.gathering.now c.loop-item.gathering c.rule.new.gathering
    c.loop-item-test.true c.item-item.is c.loop-item.invariant c.in_ok-rule.ensures
