-- One walk over goals and rules: what holds of each way to go on holds of the whole search. Its laws are instances of this.
use Rattle.std.specs.Prelude.{◌≡◌, ℕ, Bool, true, false, if◌then◌else◌, List, [], ◌∷◌, map, Option, Some, None}
use Rattle.std.proofs.Common.{sym, subst}
use Rattle.rml_simulation.specs.declared.partial.Partial.{Partial}
use Rattle.rml_simulation.specs.declared.partial.Partial.TheVariants.{Yes, No, GoneWrong}
use Rattle.rml_simulation.specs.Partial.{untraced, after, then_go, or_else, unless}
use Rattle.rml_value.specs.declared.value.Value.{Value}
use Rattle.rml_value.specs.Same.{same}
use Rattle.rml_builtin.specs.declared.applied.Answer.{Answer}
use Rattle.rml_builtin.specs.declared.applied.Applied.{Applied}
use Rattle.rml_builtin.specs.declared.applied.Applied.TheVariants as applied
use Rattle.rml_builtin.specs.Applied.{Store}
use Rattle.rml_builtin.specs.BuiltIns.{apply_at}
use Rattle.rml_resolved.specs.declared.tables.RRule.{RRule}
use Rattle.rml_resolved.specs.declared.trees.RExp.{RExp}
use Rattle.rml_resolved.specs.declared.trees.RPat.{RPat}
use Rattle.rml_resolved.specs.declared.trees.Callee.{Callee}
use Rattle.rml_resolved.specs.declared.trees.Callee.TheVariants as callee
use Rattle.rml_resolved.specs.declared.trees.RGoal.{RGoal, map-RGoal, roll-RGoal, fold-roll-RGoal, ind-RGoal}
use Rattle.rml_resolved.specs.declared.trees.RGoal.TheOpen.{RGoal-F}
use Rattle.rml_terms.specs.declared.state.Matched.{Matched}
use Rattle.rml_terms.specs.declared.state.Matched.TheVariants as matched
use Rattle.rml_search.specs.declared.state.State.{State}
use Rattle.rml_terms.specs.Env.{Env}
use Rattle.rml_terms.specs.Calling.{RelationCalls, trace_of_built_in, with_value}
use Rattle.rml_search.specs.Matching.{matching, matching_all}
use Rattle.rml_search.specs.Values.{value_of, values_of}
use Rattle.rml_search.specs.Context.{Context}
use Rattle.rml_builtin.specs.Called.{Called}
use Rattle.rml_search.specs.Search.{weighted_step, Action, goes_on, goals_in_turn, from_match, taken, from_built_in, call, relation_of, relation_called, called, goal_action, going, going_all, answer, past_head, try, Rules, relation_body}

-- Holds relates a part of the search from n steps, with f for its calls, to the same part from `more n` steps, with g for them
pub record EachWay (c : Context) (more : ℕ → ℕ) (f g : RelationCalls) (Holds : (A : Type 0) → ℕ → Partial A → Partial A → Type 0) : Type 1 where
  pub answers : (A : Type 0) (a : A) (n : ℕ) → Holds A n (Yes a untraced n) (Yes a untraced (more n))
  pub fails : (A : Type 0) (n : ℕ) → Holds A n (No untraced n) (No untraced (more n))
  pub goes_wrong : (A : Type 0) (n : ℕ) → Holds A n (GoneWrong untraced) (GoneWrong untraced)
  pub by_built_in : (A : Type 0) (n number : ℕ) (vs : List Value) (t : List ℕ) (w v : Partial A) → Holds A n w v
      → Holds A n (after (trace_of_built_in number vs t) w) (after (trace_of_built_in number vs t) v)
  pub by_step : (A : Type 0) (n : ℕ) (go next : ℕ → Partial A) → ((m : ℕ) → Holds A m (go m) (next (more m))) → Holds A n (weighted_step c.step_weight go n) (weighted_step c.step_weight next (more n))
  pub by_call : (r : ℕ) (s : Called) (n : ℕ) → Holds Answer n (weighted_step c.step_weight (f r s) n) (weighted_step c.step_weight (g r s) (more n))
  pub on_answer : (A C : Type 0) (n : ℕ) (w v : Partial A) (go next : A → ℕ → Partial C)
      → Holds A n w v → ((a : A) (m : ℕ) → Holds C m (go a m) (next a (more m))) → Holds C n (then_go w go) (then_go v next)
  pub on_failure : (A : Type 0) (n : ℕ) (w v : Partial A) (go next : ℕ → Partial A)
      → Holds A n w v → ((m : ℕ) → Holds A m (go m) (next (more m))) → Holds A n (or_else w go) (or_else v next)
  pub on_failure_alone : (A C : Type 0) (n : ℕ) (w v : Partial A) (go next : ℕ → Partial C)
      → Holds A n w v → ((m : ℕ) → Holds C m (go m) (next (more m))) → Holds C n (unless w go) (unless v next)

module _ (c : Context) (more : ℕ → ℕ) (f g : RelationCalls) (Holds : (A : Type 0) → ℕ → Partial A → Partial A → Type 0) (way : EachWay c more f g Holds) where
  with_each : (A C : Type 0) (o : Option A) (go next : A → ℕ → Partial C) (n : ℕ) → ((a : A) → Holds C n (go a n) (next a (more n))) → Holds C n (with_value o go n) (with_value o next (more n))
  with_each A C None go next n each = way.goes_wrong C n
  with_each A C (Some a) go next n each = each a

  match_walk : (m : Matched) (store : Store) (n : ℕ) → Holds State n (from_match m store n) (from_match m store (more n))
  match_walk (matched.Yes env) store n = way.answers State (record { env = env; store = store }) n
  match_walk matched.No store n = way.fails State n
  match_walk matched.Wrong store n = way.goes_wrong State n

  taken_walk : (ps : List RPat) (env : Env) (a : Answer) (n : ℕ) → Holds State n (taken c ps env a n) (taken c ps env a (more n))
  taken_walk ps env a n = match_walk (matching_all c.names ps a.values env) a.store n

  built_walk : (number : ℕ) (ps : List RPat) (env : Env) (x : Applied) (n : ℕ) → Holds State n (from_built_in c number ps env x n) (from_built_in c number ps env x (more n))
  built_walk number ps env (applied.Yes a t) n = way.by_built_in State n number a.values t (taken c ps env a n) (taken c ps env a (more n)) (taken_walk ps env a n)
  built_walk number ps env applied.No n = way.fails State n
  built_walk number ps env applied.Wrong n = way.goes_wrong State n

  same_walk : (b : Bool) (env : Env) (store : Store) (n : ℕ)
      → Holds State n (if b then goes_on env store n else No untraced n) (if b then goes_on env store (more n) else No untraced (more n))
  same_walk true env store n = way.answers State (record { env = env; store = store }) n
  same_walk false env store n = way.fails State n

  call_walk : (r : Option ℕ) (s : Called) (n : ℕ) → Holds Answer n (call c f r s n) (call c g r s (more n))
  call_walk None s n = way.by_step Answer n (λ m. GoneWrong untraced) (λ m. GoneWrong untraced) (λ m. way.goes_wrong Answer m)
  call_walk (Some r) s n = way.by_call r s n

  relation_walk : (r : Option ℕ) (vs : List Value) (ps : List RPat) (env : Env) (store : Store) (n : ℕ)
      → Holds State n (relation_called c f r vs ps env store n) (relation_called c g r vs ps env store (more n))
  relation_walk r vs ps env store n =
      way.on_answer Answer State n _ _ (taken c ps env) (taken c ps env) (call_walk r (record { values = vs; store = store }) n) (taken_walk ps env)

  called_walk : (k : Callee) (vs : List Value) (ps : List RPat) (env : Env) (store : Store) (n : ℕ)
      → Holds State n (called c f k vs ps env store n) (called c g k vs ps env store (more n))
  called_walk (callee.Built k) vs ps env store n = built_walk k ps env (apply_at k vs store) n
  called_walk (callee.Rel r) vs ps env store n = relation_walk (relation_of c (callee.Rel r) env) vs ps env store n
  called_walk (callee.Var x) vs ps env store n = relation_walk (relation_of c (callee.Var x) env) vs ps env store n
  called_walk (callee.Val k) vs ps env store n = relation_walk (relation_of c (callee.Val k) env) vs ps env store n

  abbrev ActionHolds : Action → Action → Type 0
  ActionHolds a b = (env : Env) (store : Store) (n : ℕ) → Holds State n (a env store n) (b env store (more n))

  abbrev GoalHolds : RGoal → Type 0
  GoalHolds x = ActionHolds (going c f x) (going c g x)

  along : (a b x y : Action) → a ≡ b → x ≡ y → ActionHolds b y → ActionHolds a x
  along a b x y e i h = subst (λ (z : Action). ActionHolds z x) (sym e) (subst (λ (z : Action). ActionHolds b z) (sym i) h)

  goals_in_turn_walk : (ps : List ((x : RGoal) × GoalHolds x)) → ActionHolds (goals_in_turn (map (going c f) (map (λ e. e.0) ps))) (goals_in_turn (map (going c g) (map (λ e. e.0) ps)))
  goals_in_turn_walk [] env store n = way.answers State (record { env = env; store = store }) n
  goals_in_turn_walk (e ∷ ps) env store n = way.on_answer State State n _ _ _ _ (e.1 env store n) (λ s m. goals_in_turn_walk ps s.env s.store m)

  layer_walk : (y : RGoal-F ((x : RGoal) × GoalHolds x)) → GoalHolds (roll-RGoal (map-RGoal ((x : RGoal) × GoalHolds x) RGoal (λ e. e.0) y))
  layer_walk (RGoal-F.Call k es ps) =
      along _ _ _ _ (fold-roll-RGoal Action (goal_action c f) (RGoal-F.Call k es ps)) (fold-roll-RGoal Action (goal_action c g) (RGoal-F.Call k es ps))
      (λ env store n. with_each (List Value) State (values_of c es env) _ _ n (λ vs. called_walk k vs ps env store n))
  layer_walk (RGoal-F.Equal a b) =
      along _ _ _ _ (fold-roll-RGoal Action (goal_action c f) (RGoal-F.Equal a b)) (fold-roll-RGoal Action (goal_action c g) (RGoal-F.Equal a b))
      (λ env store n. with_each Value State (value_of c a env) _ _ n (λ v. with_each Value State (value_of c b env) _ _ n (λ w. same_walk (same v w) env store n)))
  layer_walk (RGoal-F.Let q e) =
      along _ _ _ _ (fold-roll-RGoal Action (goal_action c f) (RGoal-F.Let q e)) (fold-roll-RGoal Action (goal_action c g) (RGoal-F.Let q e))
      (λ env store n. with_each Value State (value_of c e env) _ _ n (λ v. match_walk (matching c.names q v env) store n))
  layer_walk (RGoal-F.Not (x, h)) =
      along _ _ _ _ (fold-roll-RGoal Action (goal_action c f) (RGoal-F.Not x)) (fold-roll-RGoal Action (goal_action c g) (RGoal-F.Not x))
      (λ env store n. way.on_failure_alone State State n _ _ (weighted_step c.step_weight (goes_on env store)) (weighted_step c.step_weight (goes_on env store)) (h env store n)
      (λ m. way.by_step State m (goes_on env store) (goes_on env store) (way.answers State (record { env = env; store = store }))))
  layer_walk (RGoal-F.All ps) =
      along _ _ _ _ (fold-roll-RGoal Action (goal_action c f) (RGoal-F.All (map (λ e. e.0) ps))) (fold-roll-RGoal Action (goal_action c g) (RGoal-F.All (map (λ e. e.0) ps)))
      (goals_in_turn_walk ps)

  goal_walk : (x : RGoal) → GoalHolds x
  goal_walk = ind-RGoal GoalHolds (λ x y is. subst (λ z. GoalHolds (roll-RGoal z)) is (layer_walk y))

  goals_walk : (gs : List RGoal) → ActionHolds (going_all c f gs) (going_all c g gs)
  goals_walk [] env store n = way.answers State (record { env = env; store = store }) n
  goals_walk (x ∷ gs) env store n = way.on_answer State State n _ _ _ _ (goal_walk x env store n) (λ s m. goals_walk gs s.env s.store m)

  answer_walk : (es : List RExp) (s : State) (n : ℕ) → Holds Answer n (answer c es s n) (answer c es s (more n))
  answer_walk es s n =
      with_each (List Value) Answer (values_of c es s.env) _ _ n
      (λ vs. let gives : ℕ → Partial Answer = λ m. Yes (record { values = vs; store = s.store }) untraced m in
      way.by_step Answer n gives gives (way.answers Answer (record { values = vs; store = s.store })))

  head_walk : (r : RRule) (m : Matched) (store : Store) (n : ℕ) → Holds Answer n (past_head c f r m store n) (past_head c g r m store (more n))
  head_walk r (matched.Yes env) store n = way.on_answer State Answer n _ _ _ _ (goals_walk r.goals env store n) (answer_walk r.results)
  head_walk r matched.No store n = way.fails Answer n
  head_walk r matched.Wrong store n = way.goes_wrong Answer n

  try_walk : (rs : List RRule) (s : Called) (n : ℕ) → Holds Answer n (try c f rs s n) (try c g rs s (more n))
  try_walk [] s n = way.fails Answer n
  try_walk (r ∷ rs) s n =
      way.by_step Answer n _ _ (λ m. way.on_failure Answer m _ _ _ _ (head_walk r (matching_all c.names r.inputs s.values []) s.store m) (try_walk rs s))

  pub body_walk : (rules : Rules) (r : ℕ) (s : Called) (n : ℕ) → Holds Answer n (relation_body c rules f r s n) (relation_body c rules g r s (more n))
  body_walk rules r s n = try_walk (rules r) s n
