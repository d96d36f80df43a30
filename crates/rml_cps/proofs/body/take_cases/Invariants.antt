use Rattle.std.proofs.Common.{◌+◌, ◌≤◌, length}
use Rattle.std.specs.Prelude.{sum_by}
use Rattle.rml_cps.specs.Size.{size, case_size}
use Rattle.rml_cps.proofs.body.take_cases.Given as goal

abbrev pub invariant-loop-case : goal.invariant-loop-case
invariant-loop-case l = sum_by size l.rest + sum_by case_size l.cases ≤ sum_by size l.fn.rest + sum_by case_size l.fn.cases

abbrev pub decreases-loop-case : goal.decreases-loop-case
decreases-loop-case l = length l.cases
