use Rattle.std.proofs.Common.{ℕ, drop}
use Rattle.rml_equations.specs.Rebuilding.{made_by}
use Rattle.rml_equations.proofs.RebuiltTypes.{Running}
use Rattle.rml_equations.proofs.rebuilding.rebuild_all.Given as goal

abbrev pub invariant-loop-label : goal.invariant-loop-label
invariant-loop-label l = (vars : ℕ) × Running (made_by l.way) vars l.labels (drop l.label-index l.labels) l.made.items
