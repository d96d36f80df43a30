use Rattle.rml_named.specs.Uses.{decl_uses}
use Rattle.rml_named.proofs.Turns.{gather_more}
use Rattle.rml_named.proofs.texts.decls.Goals as goal

pub loop-item-preserved : goal.loop-item-preserved
loop-item-preserved c =
    gather_more c.args.world.now c.args.values.now decl_uses c.args.trees.now c.loop-item.item-index c.item-item.result c.args.gathering.now c.loop-item.gathering c.decl.new.gathering
    c.loop-item-test.true c.item-item.is c.loop-item.invariant c.in_ok-decl.ensures
