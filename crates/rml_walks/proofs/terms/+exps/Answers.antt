use Rattle.rml_scopes.specs.Steps.{exp_steps}
use Rattle.rml_walks.proofs.Runs.{run_more}
use Rattle.rml_walks.proofs.terms.+exps.Goals as goal

pub exps-loop-item-preserved : goal.exps-loop-item-preserved
exps-loop-item-preserved t c =
    run_more c.args.world.now exp_steps c.args.trees.now c.loop-item.item-index c.item-item.result c.args.walk.now c.loop-item.walk c.exp.new.walk
    c.loop-item-test.true c.item-item.is c.loop-item.invariant c.in_ok-exp.ensures
