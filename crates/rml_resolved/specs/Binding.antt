-- Where each variable of a rule is bound and where it is used. Each is bound, at one place alone, and used only after it: the
-- head binds first, then the premises go in order, in a premise the callee and the expressions before the patterns, and then
-- the results. A variable that is bound inside a `not` is used only up to the end of that `not`.
use Rattle.std.specs.Prelude.{ℕ, Bool, true, false, ◌&&◌, ◌==◌, if◌then◌else◌, List, [], ◌∷◌, ◌++◌, map, length, Option, Some, None, option_map, option_and_then}
use Rattle.std.specs.List.{list_all, list_any, concat}
use Rattle.rml_resolved.specs.Differ.{all_differ}
use Rattle.rml_resolved.specs.declared.tables.RelDef.{RelDef}
use Rattle.rml_resolved.specs.declared.tables.RRule.{RRule}
use Rattle.rml_resolved.specs.declared.trees.RPat.{RPat, fold-RPat}
use Rattle.rml_resolved.specs.declared.trees.RPat.TheOpen.{RPat-F}
use Rattle.rml_resolved.specs.declared.trees.RExp.{RExp, fold-RExp}
use Rattle.rml_resolved.specs.declared.trees.RExp.TheOpen.{RExp-F}
use Rattle.rml_resolved.specs.declared.trees.Callee.{Callee}
use Rattle.rml_resolved.specs.declared.trees.Callee.TheVariants as callee
use Rattle.rml_resolved.specs.declared.trees.RGoal.{RGoal, fold-RGoal}
use Rattle.rml_resolved.specs.declared.trees.RGoal.TheOpen.{RGoal-F}

abbrev pub contains : ℕ → List ℕ → Bool
contains x xs = list_any (λ y. x == y) xs

-- ---- bound at one place alone

abbrev pub binds_at : RPat-F (List ℕ) → List ℕ
binds_at (RPat-F.Var x) = x ∷ []
binds_at (RPat-F.Con c ps) = concat ps
binds_at (RPat-F.Tuple ps) = concat ps
binds_at (RPat-F.List ps) = concat ps
binds_at (RPat-F.Cons ps) = concat ps
binds_at (RPat-F.Bind x p) = x ∷ p
binds_at _ = []

-- the variables that a pattern binds, from left to right, once for each place
abbrev pub binds : RPat → List ℕ
binds = fold-RPat (List ℕ) binds_at

abbrev pub all_bind : List RPat → List ℕ
all_bind ps = concat (map binds ps)

abbrev pub goal_binds_at : RGoal-F (List ℕ) → List ℕ
goal_binds_at (RGoal-F.Call f es ps) = all_bind ps
goal_binds_at (RGoal-F.Equal a b) = []
goal_binds_at (RGoal-F.Let p e) = binds p
goal_binds_at (RGoal-F.Not g) = g
goal_binds_at (RGoal-F.All gs) = concat gs

-- the variables that a goal binds, those inside a `not` among them
abbrev pub goal_binds : RGoal → List ℕ
goal_binds = fold-RGoal (List ℕ) goal_binds_at

-- the variables that the head and the premises bind
abbrev pub rule_binds : RRule → List ℕ
rule_binds r = all_bind r.inputs ++ concat (map goal_binds r.goals)

-- no number stands twice
abbrev pub is_distinct : List ℕ → Bool
is_distinct = all_differ (λ x y. x == y)

-- none is bound at two places, and as many are bound as the rule has; where each is below `vars`, each of the rule is bound
abbrev pub binds_once : RRule → Bool
binds_once r = is_distinct (rule_binds r) && (length (rule_binds r) == r.vars)

abbrev pub relation_binds_once : RelDef → Bool
relation_binds_once r = list_all binds_once r.rules

-- ---- used only after it

abbrev pub uses_at : RExp-F (List ℕ) → List ℕ
uses_at (RExp-F.Var x) = x ∷ []
uses_at (RExp-F.Con c es) = concat es
uses_at (RExp-F.Tuple es) = concat es
uses_at (RExp-F.List es) = concat es
uses_at (RExp-F.Cons es) = concat es
uses_at _ = []

-- the variables that an expression uses, from left to right
abbrev pub uses : RExp → List ℕ
uses = fold-RExp (List ℕ) uses_at

abbrev pub all_use : List RExp → List ℕ
all_use es = concat (map uses es)

abbrev pub callee_uses : Callee → List ℕ
callee_uses (callee.Var x) = x ∷ []
callee_uses _ = []

-- each of these can be used where those are bound
abbrev pub can_use : List ℕ → List ℕ → Bool
can_use xs bound = list_all (λ x. contains x bound) xs

-- from what is bound before a part to what is bound after it, or None where the part uses what is not
abbrev pub Part : Type 0
Part = List ℕ → Option (List ℕ)

abbrev pub use_then_bind : List ℕ → List ℕ → Part
use_then_bind xs ys bound = if can_use xs bound then Some (bound ++ ys) else None

abbrev pub parts_in_turn : List Part → Part
parts_in_turn [] bound = Some bound
parts_in_turn (p ∷ ps) bound = option_and_then (parts_in_turn ps) (p bound)

abbrev pub bound_at : RGoal-F Part → Part
bound_at (RGoal-F.Call f es ps) = use_then_bind (callee_uses f ++ all_use es) (all_bind ps)
bound_at (RGoal-F.Equal a b) = use_then_bind (uses a ++ uses b) []
bound_at (RGoal-F.Let p e) = use_then_bind (uses e) (binds p)
bound_at (RGoal-F.Not g) = λ bound. option_map (λ inside. bound) (g bound)
bound_at (RGoal-F.All gs) = parts_in_turn gs

abbrev pub after_goal : RGoal → Part
after_goal = fold-RGoal Part bound_at

abbrev pub after_goals : List RGoal → Part
after_goals gs = parts_in_turn (map after_goal gs)

-- what is bound before the results
abbrev pub before_results : RRule → Option (List ℕ)
before_results r = after_goals r.goals (all_bind r.inputs)

abbrev pub has_all : List ℕ → Option (List ℕ) → Bool
has_all xs None = false
has_all xs (Some bound) = can_use xs bound

abbrev pub uses_bound : RRule → Bool
uses_bound r = has_all (all_use r.results) (before_results r)

abbrev pub relation_uses_bound : RelDef → Bool
relation_uses_bound r = list_all uses_bound r.rules
