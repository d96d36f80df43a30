-- One walk over statements: what holds of each way to go on holds of what a relation does. The laws on more steps, on fewer steps and
-- on the depth of calls are instances of it.
use Rattle.std.specs.Prelude.{◌≡◌, ℕ, Bool, true, false, ◌==◌, if◌then◌else◌, List, [], ◌∷◌, ◌++◌, map, length, Option, Some, None, slice_get, refl}
use Rattle.std.proofs.Common.{sym, subst}
use Rattle.rml_simulation.specs.declared.partial.Trace.{Trace}
use Rattle.rml_simulation.specs.declared.partial.Partial.{Partial}
use Rattle.rml_simulation.specs.declared.partial.Partial.TheVariants.{Yes, No, GoneWrong}
use Rattle.rml_simulation.specs.Partial.{untraced, after, take_step, then_go, or_else, unless, either}
use Rattle.rml_value.specs.declared.value.Value.{Value, out-Value}
use Rattle.rml_value.specs.declared.value.Value.TheOpen.{Value-F}
use Rattle.rml_value.specs.Same.{same}
use Rattle.rml_builtin.specs.declared.applied.Answer.{Answer}
use Rattle.rml_builtin.specs.declared.applied.Applied.{Applied}
use Rattle.rml_builtin.specs.declared.applied.Applied.TheVariants as applied
use Rattle.rml_builtin.specs.Applied.{Store}
use Rattle.rml_builtin.specs.BuiltIns.{apply_at}
use Rattle.rml_builtin.specs.Called.{Called}
use Rattle.rml_terms.specs.declared.state.Matched.{Matched}
use Rattle.rml_terms.specs.declared.state.Matched.TheVariants as matched
use Rattle.rml_terms.specs.Env.{Env, bind, look}
use Rattle.rml_terms.specs.Calling.{RelationCalls, with_value, trace_of_built_in}
use Rattle.rml_fol.specs.declared.statements.Tag.{Tag}
use Rattle.rml_fol.specs.declared.statements.Stmt.{Stmt, map-Stmt, roll-Stmt, fold-roll-Stmt, ind-Stmt}
use Rattle.rml_fol.specs.declared.statements.Alternative.{Alternative, map-Alternative, roll-Alternative, fold-roll-Alternative}
use Rattle.rml_fol.specs.declared.statements.Case.{Case, map-Case, roll-Case, fold-roll-Case}
use Rattle.rml_fol.specs.declared.statements.Stmt.TheOpen.{Stmt-F, Alternative-F, Case-F}
use Rattle.rml_fol.specs.declared.parts.Relation.{Relation}
use Rattle.rml_fol.specs.Patterns.{matching, binds}
use Rattle.rml_fol.specs.Expressions.{Vals, value_of, cells_of}
use Rattle.rml_fol.specs.Weights.{entry_weight, match_weight, set_weight, built_in_weight, equal_weight, call_weight, not_weight, goto_weight}
use Rattle.rml_fol.specs.Statements.{no_bodies, Given, Doing, Bodies, Scoped, Action, Choice, weight_alone, weighing, retried, bindings_of, values_of, bind_all, from_match, relation_of, call, received, from_built_in, in_order, is_of_kind, has_tag, arguments_at, chosen, switched, body_of, with_body, in_turn, act, alternative_at, choice_at, action, alternative, choice, block}
use Rattle.rml_fol.specs.Relations.{bound_from, answered, relation_does, does_if_there, relation_body}

-- Holds relates what is done from n steps, with f for its calls, to the same from `more n` steps, with g for them
pub record EachWay (more : ℕ → ℕ) (f g : RelationCalls) (Holds : (A : Type 0) → ℕ → Partial A → Partial A → Type 0) : Type 1 where
  pub answers : (A : Type 0) (a : A) (n : ℕ) → Holds A n (Yes a untraced n) (Yes a untraced (more n))
  pub fails : (A : Type 0) (n : ℕ) → Holds A n (No untraced n) (No untraced (more n))
  pub goes_wrong : (A : Type 0) (n : ℕ) → Holds A n (GoneWrong untraced) (GoneWrong untraced)
  pub by_trace : (A : Type 0) (n : ℕ) (t : Trace) (w v : Partial A) → Holds A n w v → Holds A n (after t w) (after t v)
  pub by_step : (A : Type 0) (n : ℕ) (go next : ℕ → Partial A) → ((m : ℕ) → Holds A m (go m) (next (more m))) → Holds A n (take_step go n) (take_step next (more n))
  pub by_call : (r : ℕ) (s : Called) (n : ℕ) → Holds Answer n (take_step (f r s) n) (take_step (g r s) (more n))
  pub on_answer : (A C : Type 0) (n : ℕ) (w v : Partial A) (go next : A → ℕ → Partial C)
      → Holds A n w v → ((a : A) (m : ℕ) → Holds C m (go a m) (next a (more m))) → Holds C n (then_go w go) (then_go v next)
  pub on_failure : (A : Type 0) (n : ℕ) (w v : Partial A) (go next : ℕ → Partial A)
      → Holds A n w v → ((m : ℕ) → Holds A m (go m) (next (more m))) → Holds A n (or_else w go) (or_else v next)
  pub on_failure_alone : (A C : Type 0) (n : ℕ) (w v : Partial A) (go next : ℕ → Partial C)
      → Holds A n w v → ((m : ℕ) → Holds C m (go m) (next (more m))) → Holds C n (unless w go) (unless v next)
  pub on_either : (A C : Type 0) (n : ℕ) (w v : Partial A) (go next : A → ℕ → Partial C) (other last : ℕ → Partial C)
      → Holds A n w v → ((a : A) (m : ℕ) → Holds C m (go a m) (next a (more m))) → ((m : ℕ) → Holds C m (other m) (last (more m))) → Holds C n (either w go other) (either v next last)

module _ (vals : Vals) (more : ℕ → ℕ) (f g : RelationCalls) (Holds : (A : Type 0) → ℕ → Partial A → Partial A → Type 0) (way : EachWay more f g Holds) where
  with_each : (A C : Type 0) (o : Option A) (go next : A → ℕ → Partial C) (n : ℕ) → ((a : A) → Holds C n (go a n) (next a (more n))) → Holds C n (with_value o go n) (with_value o next (more n))
  with_each A C None go next n each = way.goes_wrong C n
  with_each A C (Some a) go next n each = each a

  weighing_walk : (A : Type 0) (weight n : ℕ) (w v : Partial A) → Holds A n w v → Holds A n (weighing weight w) (weighing weight v)
  weighing_walk A weight n w v h = way.by_trace A n (weight_alone weight) w v h

  retried_walk : (A : Type 0) (n : ℕ) (go next : ℕ → Partial A) → ((m : ℕ) → Holds A m (go m) (next (more m))) → Holds A n (retried go n) (retried next (more n))
  retried_walk A n go next each =
      way.by_step A n (λ m. weighing (entry_weight 0) (go m)) (λ m. weighing (entry_weight 0) (next m)) (λ m. weighing_walk A (entry_weight 0) m (go m) (next (more m)) (each m))

  if_walk : (A : Type 0) (n : ℕ) (b : Bool) (w v w' v' : Partial A) → Holds A n w v → Holds A n w' v' → Holds A n (if b then w else w') (if b then v else v')
  if_walk A n true w v w' v' h k = h
  if_walk A n false w v w' v' h k = k

  -- ---- blocks and what they are given

  abbrev BodyHolds : Option (List Value → Store → ℕ → Partial Given) → Option (List Value → Store → ℕ → Partial Given) → Type 0
  BodyHolds None None = Unit {0}
  BodyHolds (Some d) (Some e) = (vs : List Value) (store : Store) (n : ℕ) → Holds Given n (d vs store n) (e vs store (more n))
  BodyHolds None (Some e) = ⊥
  BodyHolds (Some d) None = ⊥

  abbrev BodiesHold : Bodies → Bodies → Type 0
  BodiesHold b c = (j : ℕ) → BodyHolds (b j) (c j)

  abbrev DoingHolds : Doing → Doing → Type 0
  DoingHolds x y = (env : Env) (store : Store) (n : ℕ) → Holds Given n (x env store n) (y env store (more n))

  abbrev ScopedHolds : Scoped → Scoped → Type 0
  ScopedHolds x y = (b c : Bodies) → BodiesHold b c → DoingHolds (x b) (y c)

  abbrev ActionHolds : Action → Action → Type 0
  ActionHolds a b = (x y : Scoped) → ScopedHolds x y → ScopedHolds (a x) (b y)

  pub record ChoiceHolds (k l : Choice) : Type 0 where
    pub tag : k.tag ≡ l.tag
    pub vars : k.vars ≡ l.vars
    pub block : ScopedHolds k.block l.block

  body_choice : (t : Bool) (d e : List Value → Store → ℕ → Partial Given) (o p : Option (List Value → Store → ℕ → Partial Given))
      → BodyHolds (Some d) (Some e) → BodyHolds o p → BodyHolds (if t then Some d else o) (if t then Some e else p)
  body_choice true d e o p h k = h
  body_choice false d e o p h k = k

  with_body_walk : (j : ℕ) (d e : List Value → Store → ℕ → Partial Given) (b c : Bodies) → BodyHolds (Some d) (Some e) → BodiesHold b c → BodiesHold (with_body j d b) (with_body j e c)
  with_body_walk j d e b c h k i = body_choice (i == j) d e (b i) (c i) h (k i)

  -- ---- the parts of statements

  match_walk : (m : Matched) (go next : Env → ℕ → Partial Given) (n : ℕ) → ((env : Env) → Holds Given n (go env n) (next env (more n))) → Holds Given n (from_match m go n) (from_match m next (more n))
  match_walk (matched.Yes env) go next n each = each env
  match_walk matched.No go next n each = way.fails Given n
  match_walk matched.Wrong go next n each = way.goes_wrong Given n

  received_walk : (ys : List ℕ) (go next : Doing) (env : Env) (a : Answer) (n : ℕ) → DoingHolds go next → Holds Given n (received ys go env a n) (received ys next env a (more n))
  received_walk ys go next env a n each = with_each Env Given (bind_all ys a.values env) (λ e. go e a.store) (λ e. next e a.store) n (λ e. each e a.store n)

  built_walk : (number : ℕ) (ys : List ℕ) (go next : Doing) (env : Env) (x : Applied) (n : ℕ) → DoingHolds go next
      → Holds Given n (from_built_in number ys go env x n) (from_built_in number ys next env x (more n))
  built_walk number ys go next env (applied.Yes a t) n each =
      way.by_trace Given n (trace_of_built_in number a.values t) (received ys go env a n) (received ys next env a (more n)) (received_walk ys go next env a n each)
  built_walk number ys go next env applied.No n each = way.fails Given n
  built_walk number ys go next env applied.Wrong n each = way.goes_wrong Given n

  call_walk : (r : Option ℕ) (vs : List Value) (store : Store) (n : ℕ) → Holds Answer n (call f r vs store n) (call g r vs store (more n))
  call_walk None vs store n = way.by_step Answer n (λ m. GoneWrong untraced) (λ m. GoneWrong untraced) (λ m. way.goes_wrong Answer m)
  call_walk (Some r) vs store n = way.by_call r (record { values = vs; store = store }) n

  -- ---- a layer of statements

  abbrev StmtHolds : Stmt → Type 0
  StmtHolds x = ActionHolds (action vals f x) (action vals g x)

  abbrev AlternativeHolds : Alternative → Type 0
  AlternativeHolds a = ScopedHolds (alternative vals f a) (alternative vals g a)

  abbrev CaseHolds : Case → Type 0
  CaseHolds k = ChoiceHolds (choice vals f k) (choice vals g k)

  turn_walk : (ps : List ((x : Stmt) × StmtHolds x)) → ScopedHolds (in_turn (map (action vals f) (map (λ e. e.0) ps))) (in_turn (map (action vals g) (map (λ e. e.0) ps)))
  turn_walk [] b c h env store n = way.goes_wrong Given n
  turn_walk (e ∷ ps) b c h env store n =
      e.1 (in_turn (map (action vals f) (map (λ e. e.0) ps))) (in_turn (map (action vals g) (map (λ e. e.0) ps))) (turn_walk ps) b c h env store n

  order_walk : (ps : List ((x : Alternative) × AlternativeHolds x)) → ScopedHolds (in_order (map (alternative vals f) (map (λ e. e.0) ps))) (in_order (map (alternative vals g) (map (λ e. e.0) ps)))
  order_walk [] b c h env store n = way.fails Given n
  order_walk (e ∷ []) b c h env store n = e.1 b c h env store n
  order_walk (e ∷ d ∷ ps) b c h env store n =
      way.on_failure Given n _ _ _ _ (e.1 b c h env store n) (λ m. retried_walk Given m _ _ (λ l. order_walk (d ∷ ps) b c h env store l))

  one_chosen : (t t' : Tag) (xs xs' : List ℕ) (x y : Scoped) (v : Value-F Value) (b c : Bodies) (env : Env) (store : Store) (n : ℕ) (w w' : Partial Given)
      → t ≡ t' → xs ≡ xs' → DoingHolds (x b) (y c) → Holds Given n w w'
      → Holds Given n (if has_tag t v then with_value (bind_all xs (arguments_at v) env) (λ next. x b next store) n else w)
      (if has_tag t' v then with_value (bind_all xs' (arguments_at v) env) (λ next. y c next store) (more n) else w')
  one_chosen t t' xs xs' x y v b c env store n w w' et ex h k =
      subst (λ (u : Tag). Holds Given n (if has_tag t v then with_value (bind_all xs (arguments_at v) env) (λ next. x b next store) n else w)
      (if has_tag u v then with_value (bind_all xs' (arguments_at v) env) (λ next. y c next store) (more n) else w')) et
      (subst (λ (us : List ℕ). Holds Given n (if has_tag t v then with_value (bind_all xs (arguments_at v) env) (λ next. x b next store) n else w)
      (if has_tag t v then with_value (bind_all us (arguments_at v) env) (λ next. y c next store) (more n) else w')) ex
      (if_walk Given n (has_tag t v) _ _ w w' (with_each Env Given (bind_all xs (arguments_at v) env) (λ next. x b next store) (λ next. y c next store) n (λ e. h e store n)) k))

  chosen_walk : (ps : List ((x : Case) × CaseHolds x)) (x y : Scoped) (v : Value-F Value) → ScopedHolds x y
      → ScopedHolds (chosen (map (choice vals f) (map (λ e. e.0) ps)) x v) (chosen (map (choice vals g) (map (λ e. e.0) ps)) y v)
  chosen_walk [] x y v k b c h env store n = k b c h env store n
  chosen_walk (e ∷ ps) x y v k b c h env store n =
      one_chosen _ _ _ _ (choice vals f e.0).block (choice vals g e.0).block v b c env store n _ _ e.1.tag e.1.vars (e.1.block b c h) (chosen_walk ps x y v k b c h env store n)

  switched_walk : (ps : List ((x : Case) × CaseHolds x)) (x y : Scoped) (v : Value-F Value) → ScopedHolds x y
      → ScopedHolds (switched (map (choice vals f) (map (λ e. e.0) ps)) x v) (switched (map (choice vals g) (map (λ e. e.0) ps)) y v)
  switched_walk [] x y v k b c h env store n = k b c h env store n
  switched_walk (e ∷ ps) x y v k b c h env store n =
      subst (λ (u : Tag). Holds Given n (if is_of_kind (choice vals f e.0).tag v then chosen (map (choice vals f) (e.0 ∷ map (λ e. e.0) ps)) x v b env store n else GoneWrong untraced)
      (if is_of_kind u v then chosen (map (choice vals g) (e.0 ∷ map (λ e. e.0) ps)) y v c env store (more n) else GoneWrong untraced)) e.1.tag
      (if_walk Given n (is_of_kind (choice vals f e.0).tag v) _ _ (GoneWrong untraced) (GoneWrong untraced) (chosen_walk (e ∷ ps) x y v k b c h env store n) (way.goes_wrong Given n))

  body_walk : (xs : List ℕ) (x y : Scoped) (b c : Bodies) (env : Env) → ScopedHolds x y → BodiesHold b c → BodyHolds (Some (body_of xs x b env)) (Some (body_of xs y c env))
  body_walk xs x y b c env k h vs store n = with_each Env Given (bind_all xs vs env) (λ next. x b next store) (λ next. y c next store) n (λ e. k b c h e store n)

  goto_walk : (o p : Option (List Value → Store → ℕ → Partial Given)) (vs : List Value) (store : Store) (n : ℕ) → BodyHolds o p
      → Holds Given n (with_value o (λ does. does vs store) n) (with_value p (λ does. does vs store) (more n))
  goto_walk None None vs store n h = way.goes_wrong Given n
  goto_walk (Some d) (Some e) vs store n h = h vs store n
  goto_walk None (Some e) vs store n h = absurd h
  goto_walk (Some d) None vs store n h = absurd h

  along : (a b x y : Action) → a ≡ b → x ≡ y → ActionHolds b y → ActionHolds a x
  along a b x y e i h = subst (λ (z : Action). ActionHolds z x) (sym e) (subst (λ (z : Action). ActionHolds b z) (sym i) h)

  along_scoped : (a b x y : Scoped) → a ≡ b → x ≡ y → ScopedHolds b y → ScopedHolds a x
  along_scoped a b x y e i h = subst (λ (z : Scoped). ScopedHolds z x) (sym e) (subst (λ (z : Scoped). ScopedHolds b z) (sym i) h)

  along_choice : (a b x y : Choice) → a ≡ b → x ≡ y → ChoiceHolds b y → ChoiceHolds a x
  along_choice a b x y e i h = subst (λ (z : Choice). ChoiceHolds z x) (sym e) (subst (λ (z : Choice). ChoiceHolds b z) (sym i) h)

  abbrev Layer : Type 0
  Layer = Stmt-F ((x : Stmt) × StmtHolds x) ((x : Alternative) × AlternativeHolds x) ((x : Case) × CaseHolds x)

  abbrev plain : Layer → Stmt
  plain y = roll-Stmt (map-Stmt ((x : Stmt) × StmtHolds x) ((x : Alternative) × AlternativeHolds x) ((x : Case) × CaseHolds x) Stmt Alternative Case (λ e. e.0) (λ e. e.0) (λ e. e.0) y)

  opened : (y : Stmt-F Stmt Alternative Case) → ActionHolds (act vals f (map-Stmt Stmt Alternative Case Action Scoped Choice (action vals f) (alternative vals f) (choice vals f) y))
      (act vals g (map-Stmt Stmt Alternative Case Action Scoped Choice (action vals g) (alternative vals g) (choice vals g) y)) → StmtHolds (roll-Stmt y)
  opened y h = along _ _ _ _ (fold-roll-Stmt Action Scoped Choice (act vals f) (alternative_at vals f) (choice_at vals f) y) (fold-roll-Stmt Action Scoped Choice (act vals g) (alternative_at vals g) (choice_at vals g) y) h

  layer_walk : (y : Layer) → StmtHolds (plain y)
  layer_walk (Stmt-F.Match x p) = opened (Stmt-F.Match x p) (λ a d k b c h env store n. weighing_walk Given (match_weight (binds p)) n _ _
      (with_each Value Given (look x env) _ _ n (λ v. match_walk (matching p v env) _ _ n (λ e. k b c h e store n))))
  layer_walk (Stmt-F.Set x e) = opened (Stmt-F.Set x e) (λ a d k b c h env store n. weighing_walk Given (set_weight (cells_of e)) n _ _
      (with_each Value Given (value_of vals e env) _ _ n (λ v. k b c h (bind x v env) store n)))
  layer_walk (Stmt-F.Call t xs ys) = opened (Stmt-F.Call t xs ys) (λ a d k b c h env store n. weighing_walk Given call_weight n _ _
      (with_each (List Value) Given (values_of xs env) _ _ n (λ vs. way.on_answer Answer Given n _ _ _ _ (call_walk (relation_of t env) vs store n)
      (λ r m. weighing_walk Given (entry_weight (length ys)) m _ _ (received_walk ys (a b) (d c) env r m (k b c h))))))
  layer_walk (Stmt-F.Builtin number xs ys) = opened (Stmt-F.Builtin number xs ys) (λ a d k b c h env store n. weighing_walk Given (built_in_weight number (length ys)) n _ _
      (with_each (List Value) Given (values_of xs env) _ _ n (λ vs. built_walk number ys (a b) (d c) env (apply_at number vs store) n (k b c h))))
  layer_walk (Stmt-F.Equal x y) = opened (Stmt-F.Equal x y) (λ a d k b c h env store n. weighing_walk Given equal_weight n _ _
      (with_each Value Given (look x env) _ _ n (λ v. with_each Value Given (look y env) _ _ n (λ w. if_walk Given n (same v w) _ _ _ _ (k b c h env store n) (way.fails Given n)))))
  layer_walk (Stmt-F.Not ps) = opened (Stmt-F.Not (map (λ e. e.0) ps)) (λ a d k b c h env store n. weighing_walk Given not_weight n _ _
      (way.on_failure_alone Given Given n _ _ _ _ (turn_walk ps no_bodies no_bodies (λ j. tt) env store n) (λ m. retried_walk Given m _ _ (λ l. k b c h env store l))))
  layer_walk (Stmt-F.Or ps) = opened (Stmt-F.Or (map (λ e. e.0) ps)) (λ a d k b c h env store n. order_walk ps b c h env store n)
  layer_walk (Stmt-F.Cond ps qs rs) = opened (Stmt-F.Cond (map (λ e. e.0) ps) (map (λ e. e.0) qs) (map (λ e. e.0) rs)) (λ a d k b c h env store n.
      way.on_either Given Given n _ _ _ _ _ _ (turn_walk ps no_bodies no_bodies (λ j. tt) env store n) (λ r m. turn_walk qs b c h (env ++ r.env) r.store m) (λ m. retried_walk Given m _ _ (λ l. turn_walk rs b c h env store l)))
  layer_walk (Stmt-F.Switch x ps qs) = opened (Stmt-F.Switch x (map (λ e. e.0) ps) (map (λ e. e.0) qs)) (λ a d k b c h env store n.
      with_each Value Given (look x env) _ _ n (λ v. switched_walk ps _ _ (out-Value v) (turn_walk qs) b c h env store n))
  layer_walk (Stmt-F.Body j xs ps) = opened (Stmt-F.Body j xs (map (λ e. e.0) ps)) (λ a d k b c h env store n.
      k _ _ (with_body_walk j _ _ b c (body_walk xs (in_turn (map (action vals f) (map (λ e. e.0) ps))) (in_turn (map (action vals g) (map (λ e. e.0) ps))) b c env (turn_walk ps) h) h) env store n)
  layer_walk (Stmt-F.Goto j xs) = opened (Stmt-F.Goto j xs) (λ a d k b c h env store n. weighing_walk Given (goto_weight (length xs)) n _ _
      (with_each (List Value) Given (values_of xs env) _ _ n (λ vs. goto_walk (b j) (c j) vs store n (h j))))
  layer_walk (Stmt-F.Give xs) = opened (Stmt-F.Give xs) (λ a d k b c h env store n.
      with_each Env Given (bindings_of xs env) _ _ n (λ e. way.answers Given (record { env = e; store = store }) n))
  layer_walk Stmt-F.Fail = opened Stmt-F.Fail (λ a d k b c h env store n. way.fails Given n)

  alternative_walk : (y : Alternative-F ((x : Stmt) × StmtHolds x) ((x : Alternative) × AlternativeHolds x) ((x : Case) × CaseHolds x))
      → AlternativeHolds (roll-Alternative (map-Alternative ((x : Stmt) × StmtHolds x) ((x : Alternative) × AlternativeHolds x) ((x : Case) × CaseHolds x) Stmt Alternative Case (λ e. e.0) (λ e. e.0) (λ e. e.0) y))
  alternative_walk y =
      along_scoped _ _ _ _
      (fold-roll-Alternative Action Scoped Choice (act vals f) (alternative_at vals f) (choice_at vals f) (map-Alternative _ _ _ Stmt Alternative Case (λ e. e.0) (λ e. e.0) (λ e. e.0) y))
      (fold-roll-Alternative Action Scoped Choice (act vals g) (alternative_at vals g) (choice_at vals g) (map-Alternative _ _ _ Stmt Alternative Case (λ e. e.0) (λ e. e.0) (λ e. e.0) y))
      (turn_walk y.block)

  case_walk : (y : Case-F ((x : Stmt) × StmtHolds x) ((x : Alternative) × AlternativeHolds x) ((x : Case) × CaseHolds x))
      → CaseHolds (roll-Case (map-Case ((x : Stmt) × StmtHolds x) ((x : Alternative) × AlternativeHolds x) ((x : Case) × CaseHolds x) Stmt Alternative Case (λ e. e.0) (λ e. e.0) (λ e. e.0) y))
  case_walk y =
      along_choice _ _ _ _
      (fold-roll-Case Action Scoped Choice (act vals f) (alternative_at vals f) (choice_at vals f) (map-Case _ _ _ Stmt Alternative Case (λ e. e.0) (λ e. e.0) (λ e. e.0) y))
      (fold-roll-Case Action Scoped Choice (act vals g) (alternative_at vals g) (choice_at vals g) (map-Case _ _ _ Stmt Alternative Case (λ e. e.0) (λ e. e.0) (λ e. e.0) y))
      (record { tag = refl; vars = refl; block = turn_walk y.block })

  stmt_walk : (x : Stmt) → StmtHolds x
  stmt_walk = ind-Stmt StmtHolds AlternativeHolds CaseHolds (λ x y is. subst (λ z. StmtHolds (roll-Stmt z)) is (layer_walk y))
      (λ x y is. subst (λ z. AlternativeHolds (roll-Alternative z)) is (alternative_walk y)) (λ x y is. subst (λ z. CaseHolds (roll-Case z)) is (case_walk y))

  paired : List Stmt → List ((x : Stmt) × StmtHolds x)
  paired [] = []
  paired (x ∷ xs) = (x, stmt_walk x) ∷ paired xs

  block_walk : (xs : List Stmt) → ScopedHolds (block vals f xs) (block vals g xs)
  block_walk [] b c h env store n = way.goes_wrong Given n
  block_walk (x ∷ xs) b c h env store n = stmt_walk x (block vals f xs) (block vals g xs) (block_walk xs) b c h env store n

  -- ---- relations

  answered_walk : (a : Given) (n : ℕ) → Holds Answer n (answered a n) (answered a (more n))
  answered_walk a n = way.by_step Answer n _ _ (λ m. way.answers Answer _ m)

  does_walk : (r : Relation) (s : Called) (n : ℕ) → Holds Answer n (relation_does vals f r s n) (relation_does vals g r s (more n))
  does_walk r s n =
      if_walk Answer n (r.params == length s.values) _ _ _ _
      (weighing_walk Answer (entry_weight r.params) n _ _ (way.on_answer Given Answer n _ _ _ _ (block_walk r.body.stmts no_bodies no_bodies (λ j. tt) (bound_from 0 s.values) s.store n) answered_walk))
      (way.goes_wrong Answer n)

  there_walk : (o : Option Relation) (s : Called) (n : ℕ) → Holds Answer n (does_if_there vals f o s n) (does_if_there vals g o s (more n))
  there_walk None s n = way.fails Answer n
  there_walk (Some r) s n = does_walk r s n

pub relation_walk : (vals : Vals) (rels : List Relation) (more : ℕ → ℕ) (f g : RelationCalls) (Holds : (A : Type 0) → ℕ → Partial A → Partial A → Type 0) → EachWay more f g Holds
    → (r : ℕ) (s : Called) (n : ℕ) → Holds Answer n (relation_body vals rels f r s n) (relation_body vals rels g r s (more n))
relation_walk vals rels more f g Holds way r s n = there_walk vals more f g Holds way (slice_get rels r) s n
