use Rattle.std.proofs.Common.{◌≡◌, ◌<◌, ℕ}
use Rattle.std.specs.Prelude.{slice_index}
use Rattle.rml_reach.proofs.circles.has_one.Given as goal

abbrev pub invariant-loop-end : goal.invariant-loop-end
invariant-loop-end l = (i : ℕ) → i < l.end-index → slice_index l.chosen (slice_index l.ends i) ≡ l.own → ⊥
