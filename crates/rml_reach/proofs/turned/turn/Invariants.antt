use Rattle.std.proofs.Common.{ℕ, take}
use Rattle.rml_reach.specs.Paths.{HasEdge}
use Rattle.rml_reach.specs.Turned.{AddsFrom}
use Rattle.rml_reach.proofs.turned.turn.Given as goal

abbrev pub invariant-loop-end : goal.invariant-loop-end
invariant-loop-end l = (a b : ℕ) → (HasEdge l.turned a b → AddsFrom l.fn.turned (take l.end-index l.ends) l.from a b) × (AddsFrom l.fn.turned (take l.end-index l.ends) l.from a b → HasEdge l.turned a b)
