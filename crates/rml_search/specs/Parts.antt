-- Relations that are a part of others by themselves: their rules call one another alone, and by number.
use Rattle.std.specs.Prelude.{ℕ, Bool, true, false, if◌then◌else◌, [], IsTrue}
use Rattle.std.specs.List.{list_all}
use Rattle.rml_resolved.specs.declared.tables.RRule.{RRule}
use Rattle.rml_resolved.specs.declared.trees.Callee.{Callee}
use Rattle.rml_resolved.specs.declared.trees.Callee.TheVariants as callee
use Rattle.rml_resolved.specs.declared.trees.RGoal.{RGoal, fold-RGoal}
use Rattle.rml_resolved.specs.declared.trees.RGoal.TheOpen.{RGoal-F}
use Rattle.rml_search.specs.Search.{Rules}

-- whether a callee is of the part, or a built-in; what a variable or a val stands for may be any relation
abbrev pub callee_within : (ℕ → Bool) → Callee → Bool
callee_within part (callee.Rel r) = part r
callee_within part (callee.Built k) = true
callee_within part (callee.Var x) = false
callee_within part (callee.Val k) = false

abbrev pub goal_within_at : (ℕ → Bool) → RGoal-F Bool → Bool
goal_within_at part (RGoal-F.Call f es ps) = callee_within part f
goal_within_at part (RGoal-F.Equal a b) = true
goal_within_at part (RGoal-F.Let q e) = true
goal_within_at part (RGoal-F.Not g) = g
goal_within_at part (RGoal-F.All gs) = list_all (λ g. g) gs

-- whether a goal calls relations of the part alone
abbrev pub goal_within : (ℕ → Bool) → RGoal → Bool
goal_within part = fold-RGoal Bool (goal_within_at part)

abbrev pub rule_within : (ℕ → Bool) → RRule → Bool
rule_within part r = list_all (goal_within part) r.goals

-- each rule of a relation of the part calls relations of the part alone
pub record StandsAlone (part : ℕ → Bool) (rules : Rules) : Type 0 where
  pub within : (r : ℕ) → IsTrue (part r) → IsTrue (list_all (rule_within part) (rules r))

-- the rules of the part
abbrev pub rules_within : (ℕ → Bool) → Rules → Rules
rules_within part rules r = if part r then rules r else []
