-- What fits in a rule has variables of the rule alone, whose numbers are below a limit that is no less; and a rule binds no more variables
-- than it has parts.
use Rattle.std.proofs.Common.{◌≡◌, ℕ, ◌<◌, ◌≤◌, Bool, true, List, map, length, refl, sym, ap, subst, ◌∙◌, arith}
use Rattle.std.specs.Prelude.{◌&&◌, ◌==◌, nat_lt, sum_by}
use Rattle.std.specs.List.{concat}
use Rattle.std.proofs.lemmas.Bool.{ltb-true, lt-ltb, eqb-true}
use Rattle.std.proofs.lemmas.List.{length-append}
use Rattle.rml_resolved.specs.declared.parts.Counts.{Counts}
use Rattle.rml_resolved.specs.declared.tables.ConDef.{ConDef}
use Rattle.rml_resolved.specs.declared.tables.RRule.{RRule}
use Rattle.rml_resolved.specs.declared.trees.RPat.{RPat, map-RPat, roll-RPat, fold-roll-RPat, ind-RPat}
use Rattle.rml_resolved.specs.declared.trees.RPat.TheOpen.{RPat-F}
use Rattle.rml_resolved.specs.declared.trees.RExp.{RExp, map-RExp, roll-RExp, fold-roll-RExp, ind-RExp}
use Rattle.rml_resolved.specs.declared.trees.RExp.TheOpen.{RExp-F}
use Rattle.rml_resolved.specs.declared.trees.Callee.{Callee}
use Rattle.rml_resolved.specs.declared.trees.Callee.TheVariants as called
use Rattle.rml_resolved.specs.declared.trees.RGoal.{RGoal, map-RGoal, roll-RGoal, fold-roll-RGoal, ind-RGoal}
use Rattle.rml_resolved.specs.declared.trees.RGoal.TheOpen.{RGoal-F}
use Rattle.rml_resolved.specs.Fits as fits
use Rattle.rml_resolved.specs.Fits.{con_fits, pattern_fits, patterns_fit, exp_fits, exps_fit, callee_fits, goal_fits, goals_fit, goal_fits_at, rule_fits}
use Rattle.rml_resolved.specs.Binding.{binds_at, binds, all_bind, goal_binds_at, goal_binds, rule_binds, is_distinct, binds_once}
use Rattle.rml_resolved.specs.Size as size
use Rattle.rml_resolved.specs.Size.{pattern_size, exp_size, goal_size, rule_size}
use Rattle.rml_resolved.proofs.Callers.{both}
use Rattle.rml_clause.specs.Within.{pattern_within_at, pattern_within, patterns_within, expression_within_at, expression_within, expressions_within, callee_within, goal_within_at, goal_within, goals_within, rule_within}
use Rattle.rml_clause.proofs.Callers.{joined}
use Rattle.rml_clauses.proofs.Rows.{every, every-more, mapped-more, lengths-few, row-few}

-- ---- below a limit

module _ (n : Counts) (cons : List ConDef) (vars limit : ℕ) (le : vars ≤ limit) where
  var-within : (x : ℕ) → nat_lt x vars ≡ true → nat_lt x limit ≡ true
  var-within x h = let less : x < vars = ltb-true x vars h in lt-ltb x limit (omega arith)

  abbrev PatternWithin : RPat → Type 0
  PatternWithin p = pattern_fits n cons vars p ≡ true → pattern_within limit p ≡ true

  pattern-rolled : (y : RPat-F RPat)
      → (fits.pattern_at n cons vars (map-RPat RPat Bool (pattern_fits n cons vars) y) ≡ true → pattern_within_at limit (map-RPat RPat Bool (pattern_within limit) y) ≡ true)
      → PatternWithin (roll-RPat y)
  pattern-rolled y f h = fold-roll-RPat Bool (pattern_within_at limit) y ∙ f (sym (fold-roll-RPat Bool (fits.pattern_at n cons vars) y) ∙ h)

  pattern-parts : (ps : List ((x : RPat) × PatternWithin x)) → every (map (pattern_fits n cons vars) (map (λ e. e.0) ps)) ≡ true → every (map (pattern_within limit) (map (λ e. e.0) ps)) ≡ true
  pattern-parts ps = every-more (pattern_fits n cons vars) (pattern_within limit) ps

  pattern-layer : (y : RPat-F ((x : RPat) × PatternWithin x)) → PatternWithin (roll-RPat (map-RPat ((x : RPat) × PatternWithin x) RPat (λ e. e.0) y))
  pattern-layer RPat-F.Any = pattern-rolled RPat-F.Any (λ h. refl)
  pattern-layer (RPat-F.Lit l) = pattern-rolled (RPat-F.Lit l) (λ h. refl)
  pattern-layer (RPat-F.Var x) = pattern-rolled (RPat-F.Var x) (var-within x)
  pattern-layer (RPat-F.Con c ps) = pattern-rolled (RPat-F.Con c (map (λ e. e.0) ps)) (λ h. pattern-parts ps (both _ (every (map (pattern_fits n cons vars) (map (λ e. e.0) ps))) h).second)
  pattern-layer (RPat-F.Tuple ps) = pattern-rolled (RPat-F.Tuple (map (λ e. e.0) ps)) (pattern-parts ps)
  pattern-layer (RPat-F.List ps) = pattern-rolled (RPat-F.List (map (λ e. e.0) ps)) (pattern-parts ps)
  pattern-layer (RPat-F.Cons ps) = pattern-rolled (RPat-F.Cons (map (λ e. e.0) ps)) (λ h. pattern-parts ps (both _ (every (map (pattern_fits n cons vars) (map (λ e. e.0) ps))) h).second)
  pattern-layer (RPat-F.Bind x e) =
      pattern-rolled (RPat-F.Bind x e.0)
      (λ h. let two = both (nat_lt x vars) (pattern_fits n cons vars e.0) h in joined (nat_lt x limit) (pattern_within limit e.0) (var-within x two.first) (e.1 two.second))

  pattern-is-within : (p : RPat) → PatternWithin p
  pattern-is-within = ind-RPat PatternWithin (λ x y is. subst (λ z. PatternWithin (roll-RPat z)) is (pattern-layer y))

  patterns-are-within : (ps : List RPat) → patterns_fit n cons vars ps ≡ true → patterns_within limit ps ≡ true
  patterns-are-within = mapped-more (pattern_fits n cons vars) (pattern_within limit) pattern-is-within

  abbrev ExpWithin : RExp → Type 0
  ExpWithin e = exp_fits n cons vars e ≡ true → expression_within limit e ≡ true

  exp-rolled : (y : RExp-F RExp)
      → (fits.exp_at n cons vars (map-RExp RExp Bool (exp_fits n cons vars) y) ≡ true → expression_within_at limit (map-RExp RExp Bool (expression_within limit) y) ≡ true)
      → ExpWithin (roll-RExp y)
  exp-rolled y f h = fold-roll-RExp Bool (expression_within_at limit) y ∙ f (sym (fold-roll-RExp Bool (fits.exp_at n cons vars) y) ∙ h)

  exp-parts : (es : List ((x : RExp) × ExpWithin x)) → every (map (exp_fits n cons vars) (map (λ e. e.0) es)) ≡ true → every (map (expression_within limit) (map (λ e. e.0) es)) ≡ true
  exp-parts es = every-more (exp_fits n cons vars) (expression_within limit) es

  exp-layer : (y : RExp-F ((x : RExp) × ExpWithin x)) → ExpWithin (roll-RExp (map-RExp ((x : RExp) × ExpWithin x) RExp (λ e. e.0) y))
  exp-layer (RExp-F.Lit l) = exp-rolled (RExp-F.Lit l) (λ h. refl)
  exp-layer (RExp-F.Var x) = exp-rolled (RExp-F.Var x) (var-within x)
  exp-layer (RExp-F.Val k) = exp-rolled (RExp-F.Val k) (λ h. refl)
  exp-layer (RExp-F.Rel r) = exp-rolled (RExp-F.Rel r) (λ h. refl)
  exp-layer (RExp-F.Con c es) = exp-rolled (RExp-F.Con c (map (λ e. e.0) es)) (λ h. exp-parts es (both _ (every (map (exp_fits n cons vars) (map (λ e. e.0) es))) h).second)
  exp-layer (RExp-F.Tuple es) = exp-rolled (RExp-F.Tuple (map (λ e. e.0) es)) (exp-parts es)
  exp-layer (RExp-F.List es) = exp-rolled (RExp-F.List (map (λ e. e.0) es)) (exp-parts es)
  exp-layer (RExp-F.Cons es) = exp-rolled (RExp-F.Cons (map (λ e. e.0) es)) (λ h. exp-parts es (both _ (every (map (exp_fits n cons vars) (map (λ e. e.0) es))) h).second)

  pub exp-is-within : (e : RExp) → ExpWithin e
  exp-is-within = ind-RExp ExpWithin (λ x y is. subst (λ z. ExpWithin (roll-RExp z)) is (exp-layer y))

  exps-are-within : (es : List RExp) → exps_fit n cons vars es ≡ true → expressions_within limit es ≡ true
  exps-are-within = mapped-more (exp_fits n cons vars) (expression_within limit) exp-is-within

  callee-is-within : (f : Callee) → callee_fits n vars f ≡ true → callee_within limit f ≡ true
  callee-is-within (called.Rel r) h = refl
  callee-is-within (called.Built k) h = refl
  callee-is-within (called.Var x) h = var-within x h
  callee-is-within (called.Val k) h = refl

  abbrev GoalWithin : RGoal → Type 0
  GoalWithin g = goal_fits n cons vars g ≡ true → goal_within limit g ≡ true

  goal-rolled : (y : RGoal-F RGoal)
      → (goal_fits_at n cons vars (map-RGoal RGoal Bool (goal_fits n cons vars) y) ≡ true → goal_within_at limit (map-RGoal RGoal Bool (goal_within limit) y) ≡ true)
      → GoalWithin (roll-RGoal y)
  goal-rolled y f h = fold-roll-RGoal Bool (goal_within_at limit) y ∙ f (sym (fold-roll-RGoal Bool (goal_fits_at n cons vars) y) ∙ h)

  call-within : (f : Callee) (es : List RExp) (ps : List RPat) → (callee_fits n vars f && exps_fit n cons vars es && patterns_fit n cons vars ps) ≡ true
      → (callee_within limit f && expressions_within limit es && patterns_within limit ps) ≡ true
  call-within f es ps h =
      let two = both (callee_fits n vars f && exps_fit n cons vars es) (patterns_fit n cons vars ps) h in
      let one = both (callee_fits n vars f) (exps_fit n cons vars es) two.first in
      joined (callee_within limit f && expressions_within limit es) (patterns_within limit ps)
      (joined (callee_within limit f) (expressions_within limit es) (callee-is-within f one.first) (exps-are-within es one.second)) (patterns-are-within ps two.second)

  goal-layer : (y : RGoal-F ((x : RGoal) × GoalWithin x)) → GoalWithin (roll-RGoal (map-RGoal ((x : RGoal) × GoalWithin x) RGoal (λ e. e.0) y))
  goal-layer (RGoal-F.Call f es ps) = goal-rolled (RGoal-F.Call f es ps) (call-within f es ps)
  goal-layer (RGoal-F.Equal a b) =
      goal-rolled (RGoal-F.Equal a b)
      (λ h. let two = both (exp_fits n cons vars a) (exp_fits n cons vars b) h in joined (expression_within limit a) (expression_within limit b) (exp-is-within a two.first) (exp-is-within b two.second))
  goal-layer (RGoal-F.Let p e) =
      goal-rolled (RGoal-F.Let p e)
      (λ h. let two = both (pattern_fits n cons vars p) (exp_fits n cons vars e) h in joined (pattern_within limit p) (expression_within limit e) (pattern-is-within p two.first) (exp-is-within e two.second))
  goal-layer (RGoal-F.Not e) = goal-rolled (RGoal-F.Not e.0) e.1
  goal-layer (RGoal-F.All gs) = goal-rolled (RGoal-F.All (map (λ e. e.0) gs)) (every-more (goal_fits n cons vars) (goal_within limit) gs)

  goal-is-within : (g : RGoal) → GoalWithin g
  goal-is-within = ind-RGoal GoalWithin (λ x y is. subst (λ z. GoalWithin (roll-RGoal z)) is (goal-layer y))

  goals-are-within : (gs : List RGoal) → goals_fit n cons vars gs ≡ true → goals_within limit gs ≡ true
  goals-are-within = mapped-more (goal_fits n cons vars) (goal_within limit) goal-is-within

pub rule-is-within : (n : Counts) (cons : List ConDef) (limit : ℕ) (r : RRule) → r.vars ≤ limit → rule_fits n cons r ≡ true → rule_within limit r ≡ true
rule-is-within n cons limit r le h =
    let two = both (patterns_fit n cons r.vars r.inputs && goals_fit n cons r.vars r.goals) (exps_fit n cons r.vars r.results) h in
    let one = both (patterns_fit n cons r.vars r.inputs) (goals_fit n cons r.vars r.goals) two.first in
    joined (patterns_within limit r.inputs && goals_within limit r.goals) (expressions_within limit r.results)
    (joined (patterns_within limit r.inputs) (goals_within limit r.goals) (patterns-are-within n cons r.vars limit le r.inputs one.first) (goals-are-within n cons r.vars limit le r.goals one.second))
    (exps-are-within n cons r.vars limit le r.results two.second)

-- ---- bound variables

abbrev BindsFew : RPat → Type 0
BindsFew p = length (binds p) ≤ pattern_size p

pattern-binds : (y : RPat-F RPat) → length (binds_at (map-RPat RPat (List ℕ) binds y)) ≤ size.pattern_at (map-RPat RPat ℕ pattern_size y) → BindsFew (roll-RPat y)
pattern-binds y few =
    let bound = ap (λ (xs : List ℕ). length xs) (fold-roll-RPat (List ℕ) binds_at y) in
    let parts = fold-roll-RPat ℕ size.pattern_at y in
    omega (arith, bound, parts, few)

binds-layer : (y : RPat-F ((x : RPat) × BindsFew x)) → BindsFew (roll-RPat (map-RPat ((x : RPat) × BindsFew x) RPat (λ e. e.0) y))
binds-layer RPat-F.Any = pattern-binds RPat-F.Any (omega arith)
binds-layer (RPat-F.Lit l) = pattern-binds (RPat-F.Lit l) (omega arith)
binds-layer (RPat-F.Var x) = pattern-binds (RPat-F.Var x) (omega arith)
binds-layer (RPat-F.Con c ps) = pattern-binds (RPat-F.Con c (map (λ e. e.0) ps)) (omega (arith, lengths-few binds pattern_size ps))
binds-layer (RPat-F.Tuple ps) = pattern-binds (RPat-F.Tuple (map (λ e. e.0) ps)) (omega (arith, lengths-few binds pattern_size ps))
binds-layer (RPat-F.List ps) = pattern-binds (RPat-F.List (map (λ e. e.0) ps)) (omega (arith, lengths-few binds pattern_size ps))
binds-layer (RPat-F.Cons ps) = pattern-binds (RPat-F.Cons (map (λ e. e.0) ps)) (omega (arith, lengths-few binds pattern_size ps))
binds-layer (RPat-F.Bind x e) = pattern-binds (RPat-F.Bind x e.0) (omega (arith, e.1))

binds-few : (p : RPat) → BindsFew p
binds-few = ind-RPat BindsFew (λ x y is. subst (λ z. BindsFew (roll-RPat z)) is (binds-layer y))

all-bind-few : (ps : List RPat) → length (all_bind ps) ≤ sum_by pattern_size ps
all-bind-few = row-few binds pattern_size binds-few

abbrev GoalBindsFew : RGoal → Type 0
GoalBindsFew g = length (goal_binds g) ≤ goal_size g

goal-binds-rolled : (y : RGoal-F RGoal) → length (goal_binds_at (map-RGoal RGoal (List ℕ) goal_binds y)) ≤ size.goal_size_at (map-RGoal RGoal ℕ goal_size y) → GoalBindsFew (roll-RGoal y)
goal-binds-rolled y few =
    let bound = ap (λ (xs : List ℕ). length xs) (fold-roll-RGoal (List ℕ) goal_binds_at y) in
    let parts = fold-roll-RGoal ℕ size.goal_size_at y in
    omega (arith, bound, parts, few)

goal-binds-layer : (y : RGoal-F ((x : RGoal) × GoalBindsFew x)) → GoalBindsFew (roll-RGoal (map-RGoal ((x : RGoal) × GoalBindsFew x) RGoal (λ e. e.0) y))
goal-binds-layer (RGoal-F.Call f es ps) = goal-binds-rolled (RGoal-F.Call f es ps) (omega (arith, all-bind-few ps))
goal-binds-layer (RGoal-F.Equal a b) = goal-binds-rolled (RGoal-F.Equal a b) (omega arith)
goal-binds-layer (RGoal-F.Let p e) = goal-binds-rolled (RGoal-F.Let p e) (omega (arith, binds-few p))
goal-binds-layer (RGoal-F.Not e) = goal-binds-rolled (RGoal-F.Not e.0) (omega (arith, e.1))
goal-binds-layer (RGoal-F.All gs) = goal-binds-rolled (RGoal-F.All (map (λ e. e.0) gs)) (omega (arith, lengths-few goal_binds goal_size gs))

goal-binds-few : (g : RGoal) → GoalBindsFew g
goal-binds-few = ind-RGoal GoalBindsFew (λ x y is. subst (λ z. GoalBindsFew (roll-RGoal z)) is (goal-binds-layer y))

-- a rule has no more variables than parts
pub vars-few : (r : RRule) → binds_once r ≡ true → r.vars ≤ rule_size r
vars-few r once =
    let two = both (is_distinct (rule_binds r)) (length (rule_binds r) == r.vars) once in
    let count = eqb-true (length (rule_binds r)) r.vars two.second in
    let heads = all-bind-few r.inputs in
    let goals = row-few goal_binds goal_size goal-binds-few r.goals in
    let all = length-append (all_bind r.inputs) (concat (map goal_binds r.goals)) in
    omega (arith, count, heads, goals, all)
