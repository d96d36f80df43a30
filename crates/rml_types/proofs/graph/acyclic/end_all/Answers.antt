use Rattle.std.proofs.Common.{refl, arith}
use Rattle.rml_types.specs.Kept.{known_by}
use Rattle.rml_types.specs.Nodes.{root_in}
use Rattle.rml_types.proofs.Walks.{all-new}
use Rattle.rml_types.proofs.graph.acyclic.end_all.Goals as goal

pub loop-node-init : goal.loop-node-init
loop-node-init c = record {
  same = refl;
  marked = c.requires.marked;
  room = c.requires.room;
  grown = omega arith;
  empty = c.requires.empty;
  walks = all-new c.args.marks.now c.requires.fresh (root_in c.args.classes.now) (known_by c.args.forms.now c.args.shapes.now);
  done = λ n lt. absurd (omega arith);
}
