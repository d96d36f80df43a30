use Rattle.std.proofs.Common.{arith}
use Rattle.rml_types.specs.declared.graph.Mark.TheVariants as mark
use Rattle.rml_types.proofs.Grown.{order, past, Less, Equal, More}
use Rattle.rml_types.proofs.graph.acyclic.forget.Goals as goal

pub returns : goal.returns
returns c = λ k. elim (order k c.loop-mark.mark-index) [
  | Less h ↦ c.loop-mark.invariant k h
  | Equal h ↦ past c.loop-mark.marks k mark.New (omega arith)
  | More h ↦ past c.loop-mark.marks k mark.New (omega arith)
]
