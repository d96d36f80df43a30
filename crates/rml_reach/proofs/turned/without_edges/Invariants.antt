use Rattle.std.proofs.Common.{◌≡◌, ℕ, length}
use Rattle.rml_reach.specs.Paths.{HasEdge}
use Rattle.rml_reach.proofs.turned.without_edges.Given as goal

abbrev pub invariant-loop : goal.invariant-loop
invariant-loop l = (length l.nodes.items ≡ l.counter) × ((a b : ℕ) → HasEdge l.nodes.items a b → ⊥)
