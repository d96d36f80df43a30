use Rattle.std.proofs.Common.{length, ◌-◌}
use Rattle.rml_top.specs.FirstForm.{spelled}
use Rattle.rml_top.proofs.Reading.{Goes}
use Rattle.rml_top.proofs.first_form.premises_at.Given as goal

abbrev pub invariant-loop-at : goal.invariant-loop-at
invariant-loop-at l = Goes (spelled l.tokens) (spelled l.literals.items) l.at

abbrev pub decreases-loop-at : goal.decreases-loop-at
decreases-loop-at l = length l.tokens - l.at
