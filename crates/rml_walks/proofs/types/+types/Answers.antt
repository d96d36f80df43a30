use Rattle.rml_scopes.specs.Steps.{type_steps}
use Rattle.rml_walks.proofs.Runs.{run_applied, run_more}
use Rattle.rml_walks.proofs.Signatures.{run_sig}
use Rattle.rml_walks.proofs.types.+types.Goals as goal

pub type_exps-loop-item-preserved : goal.type_exps-loop-item-preserved
type_exps-loop-item-preserved t c =
    run_more c.args.world.now type_steps c.args.trees.now c.loop-item.item-index c.item-item.result c.args.walk.now c.loop-item.walk c.type_exp.new.walk
    c.loop-item-test.true c.item-item.is c.loop-item.invariant c.in_ok-type_exp.ensures

pub applied-returns : goal.applied-returns
applied-returns t c =
    run_applied c.args.world.now type_steps c.args.arguments.now c.args.names.now c.args.walk.now c.type_exps.new.walk c.all_names.new.walk
    c.in_ok-type_exps.ensures c.in_ok-all_names.ensures

pub sig-returns : goal.sig-returns
sig-returns t c =
    run_sig c.args.world.now c.args.tree.now c.as_slice.result.now c.as_slice-2.result.now c.args.walk.now c.type_exps.new.walk c.type_exps-2.new.walk
    c.as_slice.ensures c.as_slice-2.ensures c.in_ok-type_exps.ensures c.in_ok-type_exps-2.ensures
