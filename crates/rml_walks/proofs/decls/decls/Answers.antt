use Rattle.rml_scopes.specs.Steps.{decl_steps}
use Rattle.rml_walks.proofs.Runs.{run_more}
use Rattle.rml_walks.proofs.decls.decls.Goals as goal

pub loop-item-preserved : goal.loop-item-preserved
loop-item-preserved c =
    run_more c.args.world.now decl_steps c.args.trees.now c.loop-item.item-index c.item-item.result c.args.walk.now c.loop-item.walk c.decl.new.walk
    c.loop-item-test.true c.item-item.is c.loop-item.invariant c.in_ok-decl.ensures
