-- The paths of rules are as heavy as the rules are large: sixteen for each part, and what a path begins with.
use Rattle.std.proofs.Common.{◌≡◌, ℕ, ◌+◌, ◌*◌, ◌≤◌, Bool, true, false, List, [], ◌∷◌, map, length, sym, ap, subst, ◌∙◌, arith, IsTrue}
use Rattle.std.specs.Prelude.{if◌then◌else◌, max, sum, sum_by, Some, None, Option, slice_get}
use Rattle.std.specs.List.{list_all}
use Rattle.std.proofs.lemmas.Bool.{leb-true}
use Rattle.std.proofs.lemmas.List.Sums.{sum_by-cons}
use Rattle.rml_builtin.specs.declared.row.TheConstants.{ROWS}
use Rattle.rml_builtin.specs.declared.row.Row.{Row}
use Rattle.rml_builtin.specs.Table.{is_silent}
use Rattle.rml_resolved.specs.declared.trees.RPat.{RPat, map-RPat, roll-RPat, fold-roll-RPat, ind-RPat}
use Rattle.rml_resolved.specs.declared.trees.RPat.TheOpen.{RPat-F}
use Rattle.rml_resolved.specs.declared.trees.RExp.{RExp, map-RExp, roll-RExp, fold-roll-RExp, ind-RExp}
use Rattle.rml_resolved.specs.declared.trees.RExp.TheOpen.{RExp-F}
use Rattle.rml_resolved.specs.declared.trees.Callee.TheVariants as called
use Rattle.rml_resolved.specs.declared.trees.RGoal.{RGoal, map-RGoal, roll-RGoal, fold-roll-RGoal, ind-RGoal}
use Rattle.rml_resolved.specs.declared.trees.RGoal.TheOpen.{RGoal-F}
use Rattle.rml_resolved.specs.declared.tables.RRule.{RRule}
use Rattle.rml_resolved.specs.Size as size
use Rattle.rml_resolved.specs.Size.{pattern_size, exp_size, goal_size, rule_size}
use Rattle.rml_resolved.proofs.Callers.{both}
use Rattle.rml_fol.specs.declared.terms.Pattern.{Pattern, map-Pattern, roll-Pattern, fold-roll-Pattern}
use Rattle.rml_fol.specs.declared.terms.Pattern.TheOpen.{Pattern-F}
use Rattle.rml_fol.specs.declared.terms.Pattern.TheVariants as pattern
use Rattle.rml_fol.specs.declared.terms.Expression.{Expression, map-Expression, roll-Expression, fold-roll-Expression}
use Rattle.rml_fol.specs.declared.terms.Expression.TheOpen.{Expression-F}
use Rattle.rml_fol.specs.declared.terms.Expression.TheVariants as expression
use Rattle.rml_fol.specs.Patterns.{binds_at, binds}
use Rattle.rml_fol.specs.Expressions.{cells_at, cells_of}
use Rattle.rml_fol.specs.Weights.{entry_weight, set_weight, call_weight, row_weight, built_in_weight}
use Rattle.rml_clause.specs.Plain.{literal_of, pattern_at, pattern_of, expression_at, expression_of}
use Rattle.rml_clause.specs.Narrow.{Path, ended, heavier, round_step, weight_of_sets, weight_of_matches, Before, befores_in_turn, before_at, before, before_all, EachNarrow, few_results_at, few_results, EachShort}

sum_cons : (n : ℕ) (ns : List ℕ) → sum (n ∷ ns) ≡ n + sum ns
sum_cons n ns = sum_by-cons (λ k. k) n ns

module _ (names : List (List ℕ)) (params : ℕ) where
  -- ---- a pattern binds no more variables than it has parts

  abbrev BindsFew : RPat → Type 0
  BindsFew p = (binds (pattern_of names params p) ≤ pattern_size p) × (1 ≤ pattern_size p)

  pattern_rolled : (y : RPat-F RPat) (z : Pattern-F Pattern) → pattern_at names params (map-RPat RPat Pattern (pattern_of names params) y) ≡ roll-Pattern z
      → binds_at (map-Pattern Pattern ℕ binds z) ≤ size.pattern_at (map-RPat RPat ℕ pattern_size y) → 1 ≤ size.pattern_at (map-RPat RPat ℕ pattern_size y) → BindsFew (roll-RPat y)
  pattern_rolled y z e few some =
      let bound : binds (pattern_of names params (roll-RPat y)) ≡ binds_at (map-Pattern Pattern ℕ binds z) =
      ap binds (fold-roll-RPat Pattern (pattern_at names params) y ∙ e) ∙ fold-roll-Pattern ℕ binds_at z in
      let parts : pattern_size (roll-RPat y) ≡ size.pattern_at (map-RPat RPat ℕ pattern_size y) = fold-roll-RPat ℕ size.pattern_at y in
      (omega (arith, bound, parts, few), omega (arith, parts, some))

  abbrev PatternParts : Type 0
  PatternParts = List ((x : RPat) × BindsFew x)

  abbrev patterns : PatternParts → List Pattern
  patterns es = map (pattern_of names params) (map (λ e. e.0) es)

  parts_bind : (es : PatternParts) → sum (map binds (patterns es)) ≤ sum (map pattern_size (map (λ e. e.0) es))
  parts_bind [] = omega arith
  parts_bind (e ∷ es) =
      omega (arith, sum_cons (binds (pattern_of names params e.0)) (map binds (patterns es)), sum_cons (pattern_size e.0) (map pattern_size (map (λ e. e.0) es)), e.1.0, parts_bind es)

  pattern_layer : (y : RPat-F ((x : RPat) × BindsFew x)) → BindsFew (roll-RPat (map-RPat ((x : RPat) × BindsFew x) RPat (λ e. e.0) y))
  pattern_layer RPat-F.Any = pattern_rolled RPat-F.Any Pattern-F.Any (sym pattern.rolls-Any) (omega arith) (omega arith)
  pattern_layer (RPat-F.Lit l) = pattern_rolled (RPat-F.Lit l) (Pattern-F.Lit (literal_of names l)) (sym (pattern.rolls-Lit (literal_of names l))) (omega arith) (omega arith)
  pattern_layer (RPat-F.Var x) = pattern_rolled (RPat-F.Var x) (Pattern-F.Var (params + x)) (sym (pattern.rolls-Var (params + x))) (omega arith) (omega arith)
  pattern_layer (RPat-F.Con c es) =
      pattern_rolled (RPat-F.Con c (map (λ e. e.0) es)) (Pattern-F.Con c (patterns es)) (sym (pattern.rolls-Con c (patterns es))) (omega (arith, parts_bind es)) (omega arith)
  pattern_layer (RPat-F.Tuple es) =
      pattern_rolled (RPat-F.Tuple (map (λ e. e.0) es)) (Pattern-F.Tuple (patterns es)) (sym (pattern.rolls-Tuple (patterns es))) (omega (arith, parts_bind es)) (omega arith)
  pattern_layer (RPat-F.List es) =
      pattern_rolled (RPat-F.List (map (λ e. e.0) es)) (Pattern-F.List (patterns es)) (sym (pattern.rolls-List (patterns es))) (omega (arith, parts_bind es)) (omega arith)
  pattern_layer (RPat-F.Cons es) =
      pattern_rolled (RPat-F.Cons (map (λ e. e.0) es)) (Pattern-F.Cons (patterns es)) (sym (pattern.rolls-Cons (patterns es))) (omega (arith, parts_bind es)) (omega arith)
  pattern_layer (RPat-F.Bind x e) =
      pattern_rolled (RPat-F.Bind x e.0) (Pattern-F.Bind (params + x) (pattern_of names params e.0)) (sym (pattern.rolls-Bind (params + x) (pattern_of names params e.0))) (omega (arith, e.1.0)) (omega arith)

  binds_few : (p : RPat) → BindsFew p
  binds_few = ind-RPat BindsFew (λ x y is. subst (λ z. BindsFew (roll-RPat z)) is (pattern_layer y))

  -- matches, each with a cell to receive its value
  matches_light : (ps : List RPat) → weight_of_matches names params ps + length ps ≤ 16 * sum_by pattern_size ps
  matches_light [] = omega arith
  matches_light (p ∷ ps) = let few = binds_few p in omega (arith, sum_by-cons pattern_size p ps, few.0, few.1, matches_light ps)

  -- ---- an expression makes few cells for its parts

  abbrev MakesFew : RExp → Type 0
  MakesFew e = cells_of (expression_of names params e) + 3 ≤ 4 * exp_size e

  exp_rolled : (y : RExp-F RExp) (z : Expression-F Expression) → expression_at names params (map-RExp RExp Expression (expression_of names params) y) ≡ roll-Expression z
      → cells_at (map-Expression Expression ℕ cells_of z) + 3 ≤ 4 * size.exp_at (map-RExp RExp ℕ exp_size y) → MakesFew (roll-RExp y)
  exp_rolled y z e few =
      let made : cells_of (expression_of names params (roll-RExp y)) ≡ cells_at (map-Expression Expression ℕ cells_of z) =
      ap cells_of (fold-roll-RExp Expression (expression_at names params) y ∙ e) ∙ fold-roll-Expression ℕ cells_at z in
      let parts : exp_size (roll-RExp y) ≡ size.exp_at (map-RExp RExp ℕ exp_size y) = fold-roll-RExp ℕ size.exp_at y in
      omega (arith, made, parts, few)

  abbrev ExpParts : Type 0
  ExpParts = List ((x : RExp) × MakesFew x)

  abbrev expressions : ExpParts → List Expression
  expressions es = map (expression_of names params) (map (λ e. e.0) es)

  parts_make : (es : ExpParts) → sum (map cells_of (expressions es)) + 3 * length (map cells_of (expressions es)) ≤ 4 * sum (map exp_size (map (λ e. e.0) es))
  parts_make [] = omega arith
  parts_make (e ∷ es) =
      omega (arith, sum_cons (cells_of (expression_of names params e.0)) (map cells_of (expressions es)), sum_cons (exp_size e.0) (map exp_size (map (λ e. e.0) es)), e.1, parts_make es)

  con_few : (c : ℕ) (ns : List ℕ) (parts : ℕ) → sum ns + 3 * length ns ≤ 4 * parts → cells_at (Expression-F.Con c ns) + 3 ≤ 4 * (1 + parts)
  con_few c [] parts h = omega arith
  con_few c (n ∷ ns) parts h = omega arith

  exp_layer : (y : RExp-F ((x : RExp) × MakesFew x)) → MakesFew (roll-RExp (map-RExp ((x : RExp) × MakesFew x) RExp (λ e. e.0) y))
  exp_layer (RExp-F.Lit l) = exp_rolled (RExp-F.Lit l) (Expression-F.Lit (literal_of names l)) (sym (expression.rolls-Lit (literal_of names l))) (omega arith)
  exp_layer (RExp-F.Var x) = exp_rolled (RExp-F.Var x) (Expression-F.Var (params + x)) (sym (expression.rolls-Var (params + x))) (omega arith)
  exp_layer (RExp-F.Val k) = exp_rolled (RExp-F.Val k) (Expression-F.Val k) (sym (expression.rolls-Val k)) (omega arith)
  exp_layer (RExp-F.Rel r) = exp_rolled (RExp-F.Rel r) (Expression-F.Rel r) (sym (expression.rolls-Rel r)) (omega arith)
  exp_layer (RExp-F.Con c es) =
      exp_rolled (RExp-F.Con c (map (λ e. e.0) es)) (Expression-F.Con c (expressions es)) (sym (expression.rolls-Con c (expressions es)))
      (con_few c (map cells_of (expressions es)) (sum (map exp_size (map (λ e. e.0) es))) (parts_make es))
  exp_layer (RExp-F.Tuple es) = exp_rolled (RExp-F.Tuple (map (λ e. e.0) es)) (Expression-F.Tuple (expressions es)) (sym (expression.rolls-Tuple (expressions es))) (omega (arith, parts_make es))
  exp_layer (RExp-F.List es) = exp_rolled (RExp-F.List (map (λ e. e.0) es)) (Expression-F.List (expressions es)) (sym (expression.rolls-List (expressions es))) (omega (arith, parts_make es))
  exp_layer (RExp-F.Cons es) = exp_rolled (RExp-F.Cons (map (λ e. e.0) es)) (Expression-F.Cons (expressions es)) (sym (expression.rolls-Cons (expressions es))) (omega (arith, parts_make es))

  makes_few : (e : RExp) → MakesFew e
  makes_few = ind-RExp MakesFew (λ x y is. subst (λ z. MakesFew (roll-RExp z)) is (exp_layer y))

  sets_light : (es : List RExp) → weight_of_sets names params es ≤ 16 * sum_by exp_size es
  sets_light [] = omega arith
  sets_light (e ∷ es) = omega (arith, sum_by-cons exp_size e es, makes_few e, sets_light es)

  -- ---- goals

  row_light : (o : Option Row) (n : ℕ) → n ≤ 1 → row_weight o n ≤ 15 + 2 * n
  row_light None n h = omega arith
  row_light (Some row) n h = silent_light (is_silent row) n
    where
      silent_light : (b : Bool) (m : ℕ) → (if b then 15 + 2 * m else 0) ≤ 15 + 2 * m
      silent_light true m = omega arith
      silent_light false m = omega arith

  -- so large a goal, before what follows it
  pub record Light (path : Before) (parts : ℕ) : Type 0 where
    pub first : (p : Path) → (path p).first ≤ 16 * parts + max 8 p.first
    pub later : (p : Path) → (path p).later ≤ max p.later (56 + 16 * parts + max 8 p.first)

  abbrev GoalLight : RGoal → Type 0
  GoalLight g = IsTrue (few_results g) → Light (before names params g) (goal_size g)

  goal_rolled : (y : RGoal-F RGoal) → (IsTrue (few_results_at (map-RGoal RGoal Bool few_results y)) → Light (before_at names params (map-RGoal RGoal Before (before names params) y)) (size.goal_size_at (map-RGoal RGoal ℕ goal_size y)))
      → GoalLight (roll-RGoal y)
  goal_rolled y each few =
      subst (λ (b : Before). Light b (goal_size (roll-RGoal y))) (sym (fold-roll-RGoal Before (before_at names params) y))
      (subst (λ (n : ℕ). Light (before_at names params (map-RGoal RGoal Before (before names params) y)) n) (sym (fold-roll-RGoal ℕ size.goal_size_at y)) (each (sym (fold-roll-RGoal Bool few_results_at y) ∙ few)))

  inner_light : (es : List ((x : RGoal) × GoalLight x)) → IsTrue (list_all (λ b. b) (map few_results (map (λ e. e.0) es)))
      → Light (befores_in_turn (map (before names params) (map (λ e. e.0) es))) (sum (map goal_size (map (λ e. e.0) es)))
  inner_light [] few = record { first = λ p. omega arith; later = λ p. omega arith }
  inner_light (e ∷ es) few =
      let two = both (few_results e.0) (list_all (λ b. b) (map few_results (map (λ e. e.0) es))) few in
      let g = e.1 two.first in
      let gs = inner_light es two.second in
      let parts = sum_cons (goal_size e.0) (map goal_size (map (λ e. e.0) es)) in
      let rest = befores_in_turn (map (before names params) (map (λ e. e.0) es)) in
      record {
        first = λ p. omega (arith, parts, g.first (rest p), gs.first p);
        later = λ p. omega (arith, parts, g.later (rest p), gs.first p, gs.later p);
      }

  call_light : (es : List RExp) (ps : List RPat) → Light (round_step (weight_of_sets names params es + (set_weight 0 + call_weight)) (entry_weight (length ps) + weight_of_matches names params ps)) (1 + sum_by exp_size es + sum_by pattern_size ps)
  call_light es ps =
      let sets = sets_light es in
      let matches = matches_light ps in
      record { first = λ p. omega (arith, sets, matches); later = λ p. omega (arith, sets, matches) }

  built_light : (k : ℕ) (es : List RExp) (ps : List RPat) → length ps ≤ 1
      → Light (heavier (weight_of_sets names params es + (built_in_weight k (length ps) + weight_of_matches names params ps))) (1 + sum_by exp_size es + sum_by pattern_size ps)
  built_light k es ps few =
      let sets = sets_light es in
      let matches = matches_light ps in
      let row = row_light (slice_get ROWS k) (length ps) few in
      record { first = λ p. omega (arith, sets, matches, row); later = λ p. omega arith }

  goal_layer : (y : RGoal-F ((x : RGoal) × GoalLight x)) → GoalLight (roll-RGoal (map-RGoal ((x : RGoal) × GoalLight x) RGoal (λ e. e.0) y))
  goal_layer (RGoal-F.Call (called.Built k) es ps) = goal_rolled (RGoal-F.Call (called.Built k) es ps) (λ few. built_light k es ps (leb-true (length ps) 1 few))
  goal_layer (RGoal-F.Call (called.Rel r) es ps) = goal_rolled (RGoal-F.Call (called.Rel r) es ps) (λ few. call_light es ps)
  goal_layer (RGoal-F.Call (called.Var x) es ps) = goal_rolled (RGoal-F.Call (called.Var x) es ps) (λ few. call_light es ps)
  goal_layer (RGoal-F.Call (called.Val k) es ps) = goal_rolled (RGoal-F.Call (called.Val k) es ps) (λ few. call_light es ps)
  goal_layer (RGoal-F.Equal a b) =
      goal_rolled (RGoal-F.Equal a b) (λ few. let x = makes_few a in let y = makes_few b in record { first = λ p. omega (arith, x, y); later = λ p. omega arith })
  goal_layer (RGoal-F.Let q e) =
      goal_rolled (RGoal-F.Let q e) (λ few. let x = binds_few q in let y = makes_few e in record { first = λ p. omega (arith, x.0, x.1, y); later = λ p. omega arith })
  goal_layer (RGoal-F.Not e) =
      goal_rolled (RGoal-F.Not e.0) (λ few. let g = e.1 few in record { first = λ p. omega (arith, g.first ended); later = λ p. omega (arith, g.first ended, g.later ended) })
  goal_layer (RGoal-F.All es) =
      goal_rolled (RGoal-F.All (map (λ e. e.0) es)) (λ few. let g = inner_light es few in record { first = λ p. omega (arith, g.first p); later = λ p. omega (arith, g.later p) })

  goal_light : (g : RGoal) → GoalLight g
  goal_light = ind-RGoal GoalLight (λ x y is. subst (λ z. GoalLight (roll-RGoal z)) is (goal_layer y))

  goals_light : (gs : List RGoal) → IsTrue (list_all few_results gs) → Light (before_all names params gs) (sum_by goal_size gs)
  goals_light [] few = record { first = λ p. omega arith; later = λ p. omega arith }
  goals_light (g ∷ gs) few =
      let two = both (few_results g) (list_all few_results gs) few in
      let one = goal_light g two.first in
      let all = goals_light gs two.second in
      let parts = sum_by-cons goal_size g gs in
      record {
        first = λ p. omega (arith, parts, one.first (before_all names params gs p), all.first p);
        later = λ p. omega (arith, parts, one.later (before_all names params gs p), all.first p, all.later p);
      }

  -- ---- rules

  pub short_is_narrow : (most : ℕ) (rules : List RRule) → EachShort params most rules → EachNarrow names params most rules
  short_is_narrow most [] h = tt
  short_is_narrow most (r ∷ rules) h =
      let behind : Path = heavier (weight_of_sets names params r.results) ended in
      let goals = goals_light r.goals h.0.few in
      let heads = matches_light r.inputs in
      let sets = sets_light r.results in
      let small : 16 * rule_size r + 64 ≤ most = h.0.small in
      let many : length r.inputs ≡ params = h.0.inputs in
      (omega (arith, goals.first behind, heads, sets, small, many), omega (arith, goals.later behind, sets, small), short_is_narrow most rules h.1)
