-- The variables of patterns, expressions and goals are below a limit. Behind so many parameters their numbers are then numbers of
-- variables still.
use Rattle.std.specs.Prelude.{ℕ, Bool, true, ◌&&◌, nat_lt, List, map}
use Rattle.std.specs.List.{list_all}
use Rattle.rml_resolved.specs.declared.trees.RPat.{RPat, fold-RPat}
use Rattle.rml_resolved.specs.declared.trees.RPat.TheOpen.{RPat-F}
use Rattle.rml_resolved.specs.declared.trees.RExp.{RExp, fold-RExp}
use Rattle.rml_resolved.specs.declared.trees.RExp.TheOpen.{RExp-F}
use Rattle.rml_resolved.specs.declared.trees.Callee.{Callee}
use Rattle.rml_resolved.specs.declared.trees.Callee.TheVariants as callee
use Rattle.rml_resolved.specs.declared.trees.RGoal.{RGoal, fold-RGoal}
use Rattle.rml_resolved.specs.declared.trees.RGoal.TheOpen.{RGoal-F}
use Rattle.rml_resolved.specs.declared.tables.RRule.{RRule}

abbrev pub every : List Bool → Bool
every = list_all (λ b. b)

abbrev pub pattern_within_at : ℕ → RPat-F Bool → Bool
pattern_within_at limit RPat-F.Any = true
pattern_within_at limit (RPat-F.Lit l) = true
pattern_within_at limit (RPat-F.Var x) = nat_lt x limit
pattern_within_at limit (RPat-F.Con c ps) = every ps
pattern_within_at limit (RPat-F.Tuple ps) = every ps
pattern_within_at limit (RPat-F.List ps) = every ps
pattern_within_at limit (RPat-F.Cons ps) = every ps
pattern_within_at limit (RPat-F.Bind x p) = nat_lt x limit && p

abbrev pub pattern_within : ℕ → RPat → Bool
pattern_within limit = fold-RPat Bool (pattern_within_at limit)

abbrev pub patterns_within : ℕ → List RPat → Bool
patterns_within limit ps = every (map (pattern_within limit) ps)

abbrev pub expression_within_at : ℕ → RExp-F Bool → Bool
expression_within_at limit (RExp-F.Lit l) = true
expression_within_at limit (RExp-F.Var x) = nat_lt x limit
expression_within_at limit (RExp-F.Val k) = true
expression_within_at limit (RExp-F.Rel r) = true
expression_within_at limit (RExp-F.Con c es) = every es
expression_within_at limit (RExp-F.Tuple es) = every es
expression_within_at limit (RExp-F.List es) = every es
expression_within_at limit (RExp-F.Cons es) = every es

abbrev pub expression_within : ℕ → RExp → Bool
expression_within limit = fold-RExp Bool (expression_within_at limit)

abbrev pub expressions_within : ℕ → List RExp → Bool
expressions_within limit es = every (map (expression_within limit) es)

abbrev pub callee_within : ℕ → Callee → Bool
callee_within limit (callee.Rel r) = true
callee_within limit (callee.Built k) = true
callee_within limit (callee.Var x) = nat_lt x limit
callee_within limit (callee.Val k) = true

abbrev pub goal_within_at : ℕ → RGoal-F Bool → Bool
goal_within_at limit (RGoal-F.Call f es ps) = callee_within limit f && expressions_within limit es && patterns_within limit ps
goal_within_at limit (RGoal-F.Equal a b) = expression_within limit a && expression_within limit b
goal_within_at limit (RGoal-F.Let p e) = pattern_within limit p && expression_within limit e
goal_within_at limit (RGoal-F.Not g) = g
goal_within_at limit (RGoal-F.All gs) = every gs

abbrev pub goal_within : ℕ → RGoal → Bool
goal_within limit = fold-RGoal Bool (goal_within_at limit)

abbrev pub goals_within : ℕ → List RGoal → Bool
goals_within limit gs = every (map (goal_within limit) gs)

abbrev pub rule_within : ℕ → RRule → Bool
rule_within limit r = patterns_within limit r.inputs && goals_within limit r.goals && expressions_within limit r.results
