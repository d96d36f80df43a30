use Rattle.std.proofs.Common.{ℕ, ◌<◌, ◌≤◌, length}
use Rattle.rml_reach.specs.Components.{start}
use Rattle.rml_reach.proofs.connected.parts_until.Given as goal

abbrev pub invariant-loop-kept : goal.invariant-loop-kept
invariant-loop-kept l = (l.kept ≤ length l.parts) × ((b : ℕ) → l.kept ≤ b → b < length l.parts → l.place < start l.parts b)

abbrev pub decreases-loop-kept : goal.decreases-loop-kept
decreases-loop-kept l = l.kept
