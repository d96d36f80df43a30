use Rattle.std.proofs.Common.{◌≡◌, ◌<◌, ℕ}
use Rattle.rml_types.specs.Walks.{mark_of}
use Rattle.rml_types.specs.declared.graph.Mark.TheVariants as mark
use Rattle.rml_types.proofs.graph.acyclic.forget.Given as goal

abbrev pub invariant-loop-mark : goal.invariant-loop-mark
invariant-loop-mark l = (k : ℕ) → k < l.mark-index → mark_of l.marks k ≡ mark.New
