use Rattle.rml_types.proofs.ParentLists.{found-next}
use Rattle.rml_types.proofs.union_find.find_by_halving.Goals as goal

pub loop-parents-preserved : goal.loop-parents-preserved
loop-parents-preserved c = found-next c.args.parents.now c.loop-parents.parents c.args.node c.loop-parents.at c.loop-parents.invariant c.loop-parents-test.true
