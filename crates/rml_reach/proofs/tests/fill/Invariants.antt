use Rattle.std.proofs.Common.{◌<◌, ℕ, length}
use Rattle.rml_reach.specs.Paths.{HasEdge}
use Rattle.rml_reach.proofs.tests.fill.Given as goal

abbrev pub invariant-loop-from : goal.invariant-loop-from
invariant-loop-from l = (a b : ℕ) → HasEdge l.graph a b → b < length l.graph
