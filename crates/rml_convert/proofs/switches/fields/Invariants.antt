use Rattle.std.proofs.Common.{◌≡◌, ℕ, ◌≤◌, List, length, take}
use Rattle.rml_cps.specs.declared.statements.Stmt.{Stmt}
use Rattle.rml_conversion.specs.Statements.{fields_made}
use Rattle.rml_convert.proofs.switches.fields.Given as goal

-- what is made so far, before the fields of the variables that are left
pub record FieldsLeft (x left : ℕ) (vars : List ℕ) (lines first : List Stmt) : Type 0 where
  pub within : left ≤ length vars
  pub made : fields_made x 1 (take left vars) lines ≡ fields_made x 1 vars first

abbrev pub invariant-loop-left : goal.invariant-loop-left
invariant-loop-left l = FieldsLeft l.x l.left l.vars l.made.items l.fn.made.items

abbrev pub decreases-loop-left : goal.decreases-loop-left
decreases-loop-left l = l.left
