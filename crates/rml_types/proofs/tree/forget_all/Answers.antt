use Rattle.rml_types.proofs.Forgotten.{popped}
use Rattle.rml_types.proofs.tree.forget_all.Goals as goal

pub loop-tree-smaller : goal.loop-tree-smaller
loop-tree-smaller c = popped c.loop-tree.rest c.pop.new.self c.take_parts.new.rest c.in-Some.tree c.in-Some.ensures (c.take_parts.ensures c.if-not-take_parts.false)
