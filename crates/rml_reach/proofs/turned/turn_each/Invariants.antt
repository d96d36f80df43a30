use Rattle.std.proofs.Common.{ℕ, ◌<◌}
use Rattle.rml_reach.specs.Paths.{HasEdge}
use Rattle.rml_reach.proofs.turned.turn_each.Given as goal

abbrev pub invariant-loop-from : goal.invariant-loop-from
invariant-loop-from l = (a b : ℕ) → (HasEdge l.turned a b → (b < l.from) × HasEdge l.edges b a) × ((b < l.from) × HasEdge l.edges b a → HasEdge l.turned a b)
