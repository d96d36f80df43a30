-- Relations that stand alone give the same searches with their own rules alone: goal by goal over calls that agree on the part, and
-- so to each depth of calls.
use Rattle.std.proofs.Common.{◌≡◌, ℕ, zero, suc, Bool, true, false, List, [], ◌∷◌, map, Option, Some, None, refl, sym, ap, ◌∙◌, subst}
use Rattle.std.specs.Prelude.{if◌then◌else◌, ◌&&◌, IsTrue}
use Rattle.std.specs.List.{list_all}
use Rattle.rml_simulation.specs.declared.partial.Partial.{Partial}
use Rattle.rml_simulation.specs.declared.partial.Partial.TheVariants.{Yes, No, CutOff, GoneWrong}
use Rattle.rml_simulation.specs.Partial.{after, then_go, or_else, unless}
use Rattle.rml_base.specs.declared.place.Place.{Place}
use Rattle.rml_value.specs.declared.value.Value.{Value}
use Rattle.rml_builtin.specs.declared.applied.Answer.{Answer}
use Rattle.rml_builtin.specs.Applied.{Store}
use Rattle.rml_resolved.specs.declared.tables.RRule.{RRule}
use Rattle.rml_resolved.specs.declared.trees.RPat.{RPat}
use Rattle.rml_resolved.specs.declared.trees.Callee.{Callee}
use Rattle.rml_resolved.specs.declared.trees.Callee.TheVariants as callee
use Rattle.rml_resolved.specs.declared.trees.RGoal.{RGoal, map-RGoal, roll-RGoal, fold-roll-RGoal, ind-RGoal}
use Rattle.rml_resolved.specs.declared.trees.RGoal.TheOpen.{RGoal-F}
use Rattle.rml_resolved.specs.declared.trees.RGoal.TheVariants.{Call, rolls-Call}
use Rattle.rml_resolved.proofs.Callers.{both}
use Rattle.rml_terms.specs.declared.state.Matched.{Matched}
use Rattle.rml_terms.specs.declared.state.Matched.TheVariants as matched
use Rattle.rml_search.specs.declared.state.State.{State}
use Rattle.rml_terms.specs.Env.{Env}
use Rattle.rml_terms.specs.Calling.{RelationCalls, with_value}
use Rattle.rml_search.specs.Matching.{matching_all}
use Rattle.rml_search.specs.Context.{Context}
use Rattle.rml_search.specs.Values.{values_of}
use Rattle.rml_builtin.specs.Called.{Called}
use Rattle.rml_search.specs.Search.{step_trace, weighted_step, Action, goes_on, goals_in_turn, taken, called, goal_action, going, going_all, answer, past_head, by_rule, try, Rules, relations_to, search_in}
use Rattle.rml_search.specs.Parts.{callee_within, goal_within_at, goal_within, rule_within, StandsAlone, rules_within}
use Rattle.rml_search.specs.Loop.{loop_and, first_relation}

-- ---- ways to go on that agree

then_each : {A C : Type 0} (w : Partial A) (go next : A → ℕ → Partial C) → ((a : A) (m : ℕ) → go a m ≡ next a m) → then_go w go ≡ then_go w next
then_each (Yes a t n) go next each = ap (after t) (each a n)
then_each (No t n) go next each = refl
then_each (CutOff t) go next each = refl
then_each (GoneWrong t) go next each = refl

then_same : {A C : Type 0} (w v : Partial A) (go next : A → ℕ → Partial C) → w ≡ v → ((a : A) (m : ℕ) → go a m ≡ next a m) → then_go w go ≡ then_go v next
then_same w v go next e each = then_each w go next each ∙ ap (λ x. then_go x next) e

else_each : {A : Type 0} (w : Partial A) (go next : ℕ → Partial A) → ((m : ℕ) → go m ≡ next m) → or_else w go ≡ or_else w next
else_each (Yes a t n) go next each = refl
else_each (No t n) go next each = ap (after t) (each n)
else_each (CutOff t) go next each = refl
else_each (GoneWrong t) go next each = refl

else_same : {A : Type 0} (w v : Partial A) (go next : ℕ → Partial A) → w ≡ v → ((m : ℕ) → go m ≡ next m) → or_else w go ≡ or_else v next
else_same w v go next e each = else_each w go next each ∙ ap (λ x. or_else x next) e

step_same : {A : Type 0} (weight : ℕ) (go next : ℕ → Partial A) (n : ℕ) → ((m : ℕ) → go m ≡ next m) → weighted_step weight go n ≡ weighted_step weight next n
step_same weight go next zero each = refl
step_same weight go next (suc n) each = ap (after (step_trace weight)) (each n)

with_same : {A C : Type 0} (o : Option A) (go next : A → ℕ → Partial C) (n : ℕ) → ((a : A) → go a n ≡ next a n) → with_value o go n ≡ with_value o next n
with_same None go next n each = refl
with_same (Some a) go next n each = each a

-- ---- goals and rules, over calls that agree on the part

module _ (c : Context) (part : ℕ → Bool) (f g : RelationCalls) (agree : (r : ℕ) → part r ≡ true → (s : Called) (n : ℕ) → f r s n ≡ g r s n) where
  callee_same : (k : Callee) → callee_within part k ≡ true → (vs : List Value) (ps : List RPat) (env : Env) (store : Store) (n : ℕ)
      → called c f k vs ps env store n ≡ called c g k vs ps env store n
  callee_same (callee.Rel r) within vs ps env store n =
      let s : Called = record { values = vs; store = store } in
      ap (λ (w : Partial Answer). then_go w (taken c ps env)) (step_same c.step_weight (f r s) (g r s) n (agree r within s))
  callee_same (callee.Built k) within vs ps env store n = refl
  callee_same (callee.Var x) within vs ps env store n = absurd (cc)
  callee_same (callee.Val k) within vs ps env store n = absurd (cc)

  abbrev SameAction : Action → Action → Type 0
  SameAction a b = (env : Env) (store : Store) (n : ℕ) → a env store n ≡ b env store n

  abbrev GoalSame : RGoal → Type 0
  GoalSame x = goal_within part x ≡ true → SameAction (going c f x) (going c g x)

  goal_rolled : (y : RGoal-F RGoal)
      → (goal_within_at part (map-RGoal RGoal Bool (goal_within part) y) ≡ true
      → SameAction (goal_action c f (map-RGoal RGoal Action (going c f) y)) (goal_action c g (map-RGoal RGoal Action (going c g) y)))
      → GoalSame (roll-RGoal y)
  goal_rolled y each within env store n =
      ap (λ (a : Action). a env store n) (fold-roll-RGoal Action (goal_action c f) y)
      ∙ each (sym (fold-roll-RGoal Bool (goal_within_at part) y) ∙ within) env store n
      ∙ ap (λ (a : Action). a env store n) (sym (fold-roll-RGoal Action (goal_action c g) y))

  turn_same : (x : RGoal) (olds news : List Action) → SameAction (going c f x) (going c g x) → SameAction (goals_in_turn olds) (goals_in_turn news)
      → SameAction (goals_in_turn (going c f x ∷ olds)) (goals_in_turn (going c g x ∷ news))
  turn_same x olds news first rest env store n =
      then_same (going c f x env store n) (going c g x env store n) (λ s m. goals_in_turn olds s.env s.store m) (λ s m. goals_in_turn news s.env s.store m)
      (first env store n) (λ s m. rest s.env s.store m)

  inner_same : (es : List ((x : RGoal) × GoalSame x)) → list_all (λ b. b) (map (goal_within part) (map (λ e. e.0) es)) ≡ true
      → SameAction (goals_in_turn (map (going c f) (map (λ e. e.0) es))) (goals_in_turn (map (going c g) (map (λ e. e.0) es)))
  inner_same [] within env store n = refl
  inner_same (e ∷ es) within env store n =
      let two = both (goal_within part e.0) (list_all (λ b. b) (map (goal_within part) (map (λ e. e.0) es))) within in
      turn_same e.0 (map (going c f) (map (λ e. e.0) es)) (map (going c g) (map (λ e. e.0) es)) (e.1 two.first) (inner_same es two.second) env store n

  goal_layer : (y : RGoal-F ((x : RGoal) × GoalSame x)) → GoalSame (roll-RGoal (map-RGoal ((x : RGoal) × GoalSame x) RGoal (λ e. e.0) y))
  goal_layer (RGoal-F.Call k es ps) =
      goal_rolled (RGoal-F.Call k es ps) (λ within env store n.
      with_same (values_of c es env) (λ vs. called c f k vs ps env store) (λ vs. called c g k vs ps env store) n (λ vs. callee_same k within vs ps env store n))
  goal_layer (RGoal-F.Equal a b) = goal_rolled (RGoal-F.Equal a b) (λ within env store n. refl)
  goal_layer (RGoal-F.Let q e) = goal_rolled (RGoal-F.Let q e) (λ within env store n. refl)
  goal_layer (RGoal-F.Not e) =
      goal_rolled (RGoal-F.Not e.0) (λ within env store n. ap (λ (w : Partial State). unless w (weighted_step c.step_weight (goes_on env store))) (e.1 within env store n))
  goal_layer (RGoal-F.All es) = goal_rolled (RGoal-F.All (map (λ e. e.0) es)) (inner_same es)

  goal_same : (x : RGoal) → GoalSame x
  goal_same = ind-RGoal GoalSame (λ x y is. subst (λ z. GoalSame (roll-RGoal z)) is (goal_layer y))

  goals_same : (gs : List RGoal) → list_all (goal_within part) gs ≡ true → SameAction (going_all c f gs) (going_all c g gs)
  goals_same [] within env store n = refl
  goals_same (x ∷ gs) within env store n =
      let two = both (goal_within part x) (list_all (goal_within part) gs) within in
      turn_same x (map (going c f) gs) (map (going c g) gs) (goal_same x two.first) (goals_same gs two.second) env store n

  head_same : (r : RRule) → rule_within part r ≡ true → (m : Matched) (store : Store) (n : ℕ) → past_head c f r m store n ≡ past_head c g r m store n
  head_same r within (matched.Yes env) store n = ap (λ (w : Partial State). then_go w (answer c r.results)) (goals_same r.goals within env store n)
  head_same r within matched.No store n = refl
  head_same r within matched.Wrong store n = refl

  try_same : (rs : List RRule) → list_all (rule_within part) rs ≡ true → (s : Called) (n : ℕ) → try c f rs s n ≡ try c g rs s n
  try_same [] within s n = refl
  try_same (r ∷ rs) within s n =
      let two = both (rule_within part r) (list_all (rule_within part) rs) within in
      step_same c.step_weight (λ m. or_else (by_rule c f r s m) (try c f rs s)) (λ m. or_else (by_rule c g r s m) (try c g rs s)) n
      (λ m. else_same (by_rule c f r s m) (by_rule c g r s m) (try c f rs s) (try c g rs s)
      (head_same r two.first (matching_all c.names r.inputs s.values []) s.store m) (try_same rs two.second s))

-- ---- to each depth of calls

kept : {X : Type 0} (b : Bool) (x y : X) → b ≡ true → (if b then x else y) ≡ x
kept true x y e = refl
kept false x y e = absurd (cc)

module _ (c : Context) (rules : Rules) (part : ℕ → Bool) (alone : StandsAlone part rules) where
  relations_same : (depth r : ℕ) → part r ≡ true → (s : Called) (n : ℕ) → relations_to c (rules_within part rules) depth r s n ≡ relations_to c rules depth r s n
  relations_same zero r inside s n = refl
  relations_same (suc depth) r inside s n =
      ap (λ (rs : List RRule). try c (relations_to c (rules_within part rules) depth) rs s n) (kept (part r) (rules r) [] inside)
      ∙ try_same c part (relations_to c (rules_within part rules) depth) (relations_to c rules depth) (relations_same depth) (rules r) (alone.within r inside) s n

  pub search_same : (r : ℕ) → IsTrue (part r) → (vs : List Value) (n : ℕ) → search_in c (rules_within part rules) r vs n ≡ search_in c rules r vs n
  search_same r inside vs n =
      let s : Called = record { values = vs; store = [] } in
      step_same c.step_weight (λ m. relations_to c (rules_within part rules) (suc m) r s m) (λ m. relations_to c rules (suc m) r s m) n
      (λ m. relations_same (suc m) r inside s m)

-- ---- the loop

loop_goal : goal_within first_relation (Call (callee.Rel 0) [] []) ≡ true
loop_goal =
    ap (goal_within first_relation) (sym (rolls-Call (callee.Rel 0) [] []))
    ∙ fold-roll-RGoal Bool (goal_within_at first_relation) (RGoal-F.Call (callee.Rel 0) [] [])

abbrev alone_in : Bool → Bool
alone_in b = (b && true) && true

loop_within : (p : Place) (others : Rules) (r : ℕ) → IsTrue (first_relation r) → IsTrue (list_all (rule_within first_relation) (loop_and p others r))
loop_within p others zero inside = ap alone_in loop_goal
loop_within p others (suc r) inside = absurd (cc)

pub loop_alone : (p : Place) (others : Rules) → StandsAlone first_relation (loop_and p others)
loop_alone p others = record { within = loop_within p others }
