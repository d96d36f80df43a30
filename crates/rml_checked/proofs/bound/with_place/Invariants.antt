use Rattle.std.proofs.Common.{◌≡◌, ◌+◌, ◌-◌, ℕ, get_or, length}
use Rattle.rml_checked.proofs.bound.with_place.Given as goal

abbrev pub invariant-loop-all : goal.invariant-loop-all
invariant-loop-all l = (y : ℕ) → get_or l.all.items y 0 ≡ get_or l.fn.counts.items y 0

abbrev pub decreases-loop-all : goal.decreases-loop-all
decreases-loop-all l = l.x + 1 - length l.all.items
