use Rattle.rml_scopes.specs.Steps.{exp_steps}
use Rattle.rml_named.proofs.Turns.{gather_more}
use Rattle.rml_named.proofs.terms.+exps.Goals as goal

pub exps-loop-item-preserved : goal.exps-loop-item-preserved
exps-loop-item-preserved t c =
    gather_more c.args.world.now c.args.values.now exp_steps c.args.trees.now c.loop-item.item-index c.item-item.result c.args.gathering.now c.loop-item.gathering c.exp.new.gathering
    c.loop-item-test.true c.item-item.is c.loop-item.invariant c.in_ok-exp.ensures
