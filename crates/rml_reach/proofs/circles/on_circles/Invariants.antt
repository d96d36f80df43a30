use Rattle.std.proofs.Common.{◌≡◌, ◌<◌, ℕ, length}
use Rattle.rml_reach.specs.Paths.{Holds, IsOnCircle}
use Rattle.rml_reach.proofs.circles.on_circles.Given as goal

abbrev pub invariant-loop-node : goal.invariant-loop-node
invariant-loop-node l = record {
  count : length l.on.items ≡ length l.edges;
  exact : (n : ℕ) → n < l.node → (Holds l.on.items n → IsOnCircle l.edges n) × (IsOnCircle l.edges n → Holds l.on.items n);
}
