-- Each variable of a rule of a program is bound, at one place alone: as many are bound as the rule has, none twice, and each is
-- one of the rule's.
use Rattle.std.proofs.Common.{◌≡◌, ℕ, ◌<◌, ◌≤◌, Bool, true, false, List, [], ◌∷◌, ◌++◌, map, length, eqb, refl, sym, ap, ◌∙◌, subst, inl, inr, arith}
use Rattle.std.specs.Prelude.{◌&&◌, not, nat_lt}
use Rattle.std.specs.List.{list_all, concat, Contains, IsDistinct}
use Rattle.std.proofs.lemmas.Bool.{eqb-true}
use Rattle.std.proofs.lemmas.Bool.Decides.{nat_tests}
use Rattle.std.proofs.lemmas.List.Elements.{All-contains}
use Rattle.std.proofs.lemmas.List.Folds.{list_any-append}
use Rattle.std.proofs.lemmas.List.Sums.{AllPass-from_list_all}
use Rattle.std.proofs.lemmas.Map.Keys.{IsDistinct-cons}
use Rattle.std.proofs.lemmas.Map.Steps.{length-le_from_distinct_below}
use Rattle.rml_types.specs.Schemes.{every}
use Rattle.rml_resolved.specs.declared.parts.Counts.{Counts}
use Rattle.rml_resolved.specs.declared.program.Program.{Program}
use Rattle.rml_resolved.specs.declared.tables.ConDef.{ConDef}
use Rattle.rml_resolved.specs.declared.tables.RelDef.{RelDef}
use Rattle.rml_resolved.specs.declared.tables.RRule.{RRule}
use Rattle.rml_resolved.specs.declared.trees.RPat.{RPat, map-RPat, roll-RPat, fold-roll-RPat, ind-RPat}
use Rattle.rml_resolved.specs.declared.trees.RPat.TheOpen.{RPat-F}
use Rattle.rml_resolved.specs.declared.trees.RGoal.{RGoal, map-RGoal, roll-RGoal, fold-roll-RGoal, ind-RGoal}
use Rattle.rml_resolved.specs.declared.trees.RGoal.TheOpen.{RGoal-F}
use Rattle.rml_resolved.specs.Binding.{contains, binds_at, binds, all_bind, goal_binds_at, goal_binds, rule_binds, is_distinct, binds_once, relation_binds_once}
use Rattle.rml_resolved.specs.Bound.{count}
use Rattle.rml_resolved.specs.Fits.{pattern_at, pattern_fits, goal_fits_at, goal_fits, goals_fit, patterns_fit, exps_fit, callee_fits, exp_fits, rule_fits, relation_fits, counts_of}
use Rattle.rml_resolved.proofs.Counted.{contains-count}
use Rattle.rml_resolved.proofs.Facts.{both}
use Rattle.rml_resolved.proofs.Rounds.{both_ways, is_it, apart}

-- each of these is below a number
abbrev pub Below : ℕ → List ℕ → Type 0
Below vars xs = (x : ℕ) → contains x xs ≡ true → x < vars

none-below : (vars : ℕ) → Below vars []
none-below vars x h = absurd (cc)

one-below : (vars x : ℕ) → nat_lt x vars ≡ true → Below vars (x ∷ [])
one-below vars x less y h =
    elim (both_ways (eqb y x) false h) [
      | inl e ↦ (let same : y ≡ x = eqb-true y x e in let under : x < vars = grind (arith, nat_tests) in omega arith)
      | inr e ↦ absurd (cc)
    ]

append-below : (vars : ℕ) (xs ys : List ℕ) → Below vars xs → Below vars ys → Below vars (xs ++ ys)
append-below vars xs ys f g x h =
    elim (both_ways (contains x xs) (contains x ys) (sym (list_any-append (eqb x) xs ys) ∙ h)) [ inl e ↦ f x e | inr e ↦ g x e ]

module _ (n : Counts) (cons : List ConDef) (vars : ℕ) where
  -- ---- patterns

  abbrev PatternBinds : RPat → Type 0
  PatternBinds p = pattern_fits n cons vars p ≡ true → Below vars (binds p)

  pattern_rolled : (y : RPat-F RPat)
      → (pattern_at n cons vars (map-RPat RPat Bool (pattern_fits n cons vars) y) ≡ true → Below vars (binds_at (map-RPat RPat (List ℕ) binds y)))
      → PatternBinds (roll-RPat y)
  pattern_rolled y f h =
      subst (λ (xs : List ℕ). Below vars xs) (sym (fold-roll-RPat (List ℕ) binds_at y)) (f (sym (fold-roll-RPat Bool (pattern_at n cons vars) y) ∙ h))

  parts_bind : (ps : List ((x : RPat) × PatternBinds x)) → every (map (pattern_fits n cons vars) (map (λ e. e.0) ps)) ≡ true → Below vars (concat (map binds (map (λ e. e.0) ps)))
  parts_bind [] h = none-below vars
  parts_bind (e ∷ ps) h =
      let two = both (pattern_fits n cons vars e.0) (every (map (pattern_fits n cons vars) (map (λ e. e.0) ps))) h in
      append-below vars (binds e.0) (concat (map binds (map (λ e. e.0) ps))) (e.1 two.first) (parts_bind ps two.second)

  pattern_layer : (y : RPat-F ((x : RPat) × PatternBinds x)) → PatternBinds (roll-RPat (map-RPat ((x : RPat) × PatternBinds x) RPat (λ e. e.0) y))
  pattern_layer RPat-F.Any = pattern_rolled RPat-F.Any (λ h. none-below vars)
  pattern_layer (RPat-F.Lit l) = pattern_rolled (RPat-F.Lit l) (λ h. none-below vars)
  pattern_layer (RPat-F.Var x) = pattern_rolled (RPat-F.Var x) (one-below vars x)
  pattern_layer (RPat-F.Con c ps) = pattern_rolled (RPat-F.Con c (map (λ e. e.0) ps)) (λ h. parts_bind ps (both _ (every (map (pattern_fits n cons vars) (map (λ e. e.0) ps))) h).second)
  pattern_layer (RPat-F.Tuple ps) = pattern_rolled (RPat-F.Tuple (map (λ e. e.0) ps)) (parts_bind ps)
  pattern_layer (RPat-F.List ps) = pattern_rolled (RPat-F.List (map (λ e. e.0) ps)) (parts_bind ps)
  pattern_layer (RPat-F.Cons ps) = pattern_rolled (RPat-F.Cons (map (λ e. e.0) ps)) (λ h. parts_bind ps (both _ (every (map (pattern_fits n cons vars) (map (λ e. e.0) ps))) h).second)
  pattern_layer (RPat-F.Bind x e) =
      pattern_rolled (RPat-F.Bind x e.0)
      (λ h. let two = both (nat_lt x vars) (pattern_fits n cons vars e.0) h in append-below vars (x ∷ []) (binds e.0) (one-below vars x two.first) (e.1 two.second))

  pattern_binds : (p : RPat) → PatternBinds p
  pattern_binds = ind-RPat PatternBinds (λ x y is. subst (λ z. PatternBinds (roll-RPat z)) is (pattern_layer y))

  patterns_bind : (ps : List RPat) → patterns_fit n cons vars ps ≡ true → Below vars (all_bind ps)
  patterns_bind [] h = none-below vars
  patterns_bind (p ∷ ps) h =
      let two = both (pattern_fits n cons vars p) (patterns_fit n cons vars ps) h in
      append-below vars (binds p) (all_bind ps) (pattern_binds p two.first) (patterns_bind ps two.second)

  -- ---- goals

  abbrev GoalBinds : RGoal → Type 0
  GoalBinds g = goal_fits n cons vars g ≡ true → Below vars (goal_binds g)

  goal_rolled : (y : RGoal-F RGoal)
      → (goal_fits_at n cons vars (map-RGoal RGoal Bool (goal_fits n cons vars) y) ≡ true → Below vars (goal_binds_at (map-RGoal RGoal (List ℕ) goal_binds y)))
      → GoalBinds (roll-RGoal y)
  goal_rolled y f h =
      subst (λ (xs : List ℕ). Below vars xs) (sym (fold-roll-RGoal (List ℕ) goal_binds_at y)) (f (sym (fold-roll-RGoal Bool (goal_fits_at n cons vars) y) ∙ h))

  inner_goals_bind : (gs : List ((x : RGoal) × GoalBinds x)) → every (map (goal_fits n cons vars) (map (λ e. e.0) gs)) ≡ true → Below vars (concat (map goal_binds (map (λ e. e.0) gs)))
  inner_goals_bind [] h = none-below vars
  inner_goals_bind (e ∷ gs) h =
      let two = both (goal_fits n cons vars e.0) (every (map (goal_fits n cons vars) (map (λ e. e.0) gs))) h in
      append-below vars (goal_binds e.0) (concat (map goal_binds (map (λ e. e.0) gs))) (e.1 two.first) (inner_goals_bind gs two.second)

  goal_layer : (y : RGoal-F ((x : RGoal) × GoalBinds x)) → GoalBinds (roll-RGoal (map-RGoal ((x : RGoal) × GoalBinds x) RGoal (λ e. e.0) y))
  goal_layer (RGoal-F.Call f es ps) =
      goal_rolled (RGoal-F.Call f es ps) (λ h. patterns_bind ps (both (callee_fits n vars f && exps_fit n cons vars es) (patterns_fit n cons vars ps) h).second)
  goal_layer (RGoal-F.Equal a b) = goal_rolled (RGoal-F.Equal a b) (λ h. none-below vars)
  goal_layer (RGoal-F.Let p e) = goal_rolled (RGoal-F.Let p e) (λ h. pattern_binds p (both (pattern_fits n cons vars p) (exp_fits n cons vars e) h).first)
  goal_layer (RGoal-F.Not e) = goal_rolled (RGoal-F.Not e.0) e.1
  goal_layer (RGoal-F.All gs) = goal_rolled (RGoal-F.All (map (λ e. e.0) gs)) (inner_goals_bind gs)

  goal_binds_below : (g : RGoal) → GoalBinds g
  goal_binds_below = ind-RGoal GoalBinds (λ x y is. subst (λ z. GoalBinds (roll-RGoal z)) is (goal_layer y))

  goals_bind : (gs : List RGoal) → goals_fit n cons vars gs ≡ true → Below vars (concat (map goal_binds gs))
  goals_bind [] h = none-below vars
  goals_bind (g ∷ gs) h =
      let two = both (goal_fits n cons vars g) (goals_fit n cons vars gs) h in
      append-below vars (goal_binds g) (concat (map goal_binds gs)) (goal_binds_below g two.first) (goals_bind gs two.second)

-- ---- rules

pub rule_below : (n : Counts) (cons : List ConDef) (r : RRule) → rule_fits n cons r ≡ true → Below r.vars (rule_binds r)
rule_below n cons r h =
    let two = both (patterns_fit n cons r.vars r.inputs && goals_fit n cons r.vars r.goals) (exps_fit n cons r.vars r.results) h in
    let one = both (patterns_fit n cons r.vars r.inputs) (goals_fit n cons r.vars r.goals) two.first in
    append-below r.vars (all_bind r.inputs) (concat (map goal_binds r.goals)) (patterns_bind n cons r.vars r.inputs one.first) (goals_bind n cons r.vars r.goals one.second)

not_true : (b : Bool) → not b ≡ true → b ≡ false
not_true true h = absurd (cc)
not_true false h = refl

distinct : (xs : List ℕ) → is_distinct xs ≡ true → IsDistinct eqb xs
unfolding IsDistinct
distinct [] h = tt
distinct (x ∷ xs) h =
    let two = both (not (contains x xs)) (is_distinct xs) h in IsDistinct-cons eqb x xs (apart x xs (not_true (contains x xs) two.first)) (distinct xs two.second)

-- as many numbers below another as it says, none twice, are all of them
all_there : (xs : List ℕ) (vars x : ℕ) → Below vars xs → is_distinct xs ≡ true → length xs ≡ vars → x < vars → contains x xs ≡ true
all_there xs vars x below apart_all count less =
    elim (is_it (contains x xs)) [
      | inl e ↦ e
      | inr e ↦ absurd (
          let at_most : length (x ∷ xs) ≤ vars = length-le_from_distinct_below (x ∷ xs) vars (IsDistinct-cons eqb x xs (apart x xs e) (distinct xs apart_all)) (λ q h.
          elim (both_ways (eqb q x) (contains q xs) h) [ inl i ↦ (let same : q ≡ x = eqb-true q x i in omega arith) | inr i ↦ below q i ]) in
          omega arith)
    ]

none_counted : (x : ℕ) (xs : List ℕ) → contains x xs ≡ false → count x xs ≡ 0
none_counted x xs h = (let none : nat_lt 0 (count x xs) ≡ false = sym (contains-count x xs) ∙ h in grind (arith, nat_tests))

-- a number of a list in which none stands twice stands there once
counted_once : (x : ℕ) (xs : List ℕ) → is_distinct xs ≡ true → contains x xs ≡ true → count x xs ≡ 1
counted_once x [] apart_all h = absurd (cc)
counted_once x (y ∷ ys) apart_all h =
    let two = both (not (contains y ys)) (is_distinct ys) apart_all in
    elim (is_it (eqb x y)) [
      | inl e ↦ (
          let same : x ≡ y = eqb-true x y e in
          let none : count x ys ≡ 0 = none_counted x ys (ap (λ k. contains k ys) same ∙ not_true (contains y ys) two.first) in
          rw (e, none) refl)
      | inr e ↦ rw e (counted_once x ys two.second (elim (both_ways (eqb x y) (contains x ys) h) [ inl i ↦ absurd (cc) | inr i ↦ i ]))
    ]

rule_binds_each : (n : Counts) (cons : List ConDef) (r : RRule) (x : ℕ) → rule_fits n cons r ≡ true → binds_once r ≡ true → x < r.vars → count x (rule_binds r) ≡ 1
rule_binds_each n cons r x fits once less =
    let two = both (is_distinct (rule_binds r)) (eqb (length (rule_binds r)) r.vars) once in
    counted_once x (rule_binds r) two.first
    (all_there (rule_binds r) r.vars x (rule_below n cons r fits) two.first (eqb-true (length (rule_binds r)) r.vars two.second) less)

pub passes : {X : Type 0} (test : X → Bool) (xs : List X) (x : X) → list_all test xs ≡ true → Contains xs x → test x ≡ true
passes test xs x h there = All-contains (λ y. test y ≡ true) xs x (AllPass-from_list_all test xs h) there

pub bound : (p : Program) (r : RelDef) (rule : RRule) (x : ℕ) → Contains p.rels r → Contains r.rules rule → x < rule.vars → count x (rule_binds rule) ≡ 1
bound p r rule x in_program in_relation less =
    let n = counts_of p.names p.vals p.rels in
    let fits = passes (relation_fits n p.types p.cons) p.rels r p.relations_fit in_program in
    let rules = both _ (list_all (rule_fits n p.cons) r.rules) fits in
    let once = passes relation_binds_once p.rels r p.bound_once in_program in
    rule_binds_each n p.cons rule x (passes (rule_fits n p.cons) r.rules rule rules.second in_relation) (passes binds_once r.rules rule once in_relation) less
