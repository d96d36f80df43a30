use Rattle.std.proofs.Common.{take}
use Rattle.rml_equations.specs.Joins.{EquatesAll}
use Rattle.rml_equations.proofs.nodes.equal_all.Given as goal

abbrev pub invariant-loop-node : goal.invariant-loop-node
invariant-loop-node l = EquatesAll l.fn.graph l.graph (take l.node-index l.nodes) l.one
