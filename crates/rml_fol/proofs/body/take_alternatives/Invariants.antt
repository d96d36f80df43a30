use Rattle.std.proofs.Common.{◌+◌, ◌≤◌, length}
use Rattle.std.specs.Prelude.{sum_by}
use Rattle.rml_fol.specs.Size.{size, alternative_size}
use Rattle.rml_fol.proofs.body.take_alternatives.Given as goal

abbrev pub invariant-loop-alternative : goal.invariant-loop-alternative
invariant-loop-alternative l = sum_by size l.rest + sum_by alternative_size l.alternatives ≤ sum_by size l.fn.rest + sum_by alternative_size l.fn.alternatives

abbrev pub decreases-loop-alternative : goal.decreases-loop-alternative
decreases-loop-alternative l = length l.alternatives
