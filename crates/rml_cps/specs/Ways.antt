-- One walk over statements: what holds of each way to go on holds of what a relation does. The laws on more steps and on the depth of
-- calls are instances of it.
use Rattle.std.specs.Prelude.{◌≡◌, ℕ, Bool, true, false, ◌==◌, if◌then◌else◌, List, [], ◌∷◌, map, length, Option, Some, None, option_and_then, slice_get}
use Rattle.std.proofs.Common.{refl, sym, subst}
use Rattle.rml_base.specs.Run.{Rest, Wrong, bare, step, weigh}
use Rattle.rml_simulation.specs.declared.partial.Trace.{Trace}
use Rattle.rml_simulation.specs.Partial.{traced}
use Rattle.rml_value.specs.declared.value.Value.{Value, out-Value}
use Rattle.rml_value.specs.declared.value.Value.TheOpen.{Value-F}
use Rattle.rml_value.specs.Same.{same}
use Rattle.rml_builtin.specs.declared.applied.Answer.{Answer}
use Rattle.rml_builtin.specs.declared.applied.Applied.{Applied}
use Rattle.rml_builtin.specs.declared.applied.Applied.TheVariants as applied
use Rattle.rml_builtin.specs.Applied.{Store}
use Rattle.rml_builtin.specs.BuiltIns.{apply_at}
use Rattle.rml_builtin.specs.Called.{Called}
use Rattle.rml_terms.specs.Env.{Env, bind, look}
use Rattle.rml_terms.specs.Calling.{trace_of_built_in}
use Rattle.rml_fol.specs.declared.statements.Tag.{Tag}
use Rattle.rml_fol.specs.Expressions.{Vals, value_of}
use Rattle.rml_fol.specs.Statements.{values_of, bind_all, relation_of, is_of_kind, has_tag}
use Rattle.rml_fol.specs.Relations.{bound_from}
use Rattle.rml_cps.specs.declared.statements.Continuation.{Continuation}
use Rattle.rml_cps.specs.declared.statements.Continuation.TheVariants as continuation
use Rattle.rml_cps.specs.declared.statements.Stmt.{Stmt, map-Stmt, roll-Stmt, fold-roll-Stmt, ind-Stmt}
use Rattle.rml_cps.specs.declared.statements.Case.{Case, map-Case, roll-Case, fold-roll-Case}
use Rattle.rml_cps.specs.declared.statements.Stmt.TheOpen.{Stmt-F, Case-F}
use Rattle.rml_cps.specs.declared.parts.Relation.{Relation}
use Rattle.rml_cps.specs.Weights.{entry_weight, set_weight, built_in_weight, failure_weight, goto_weight}
use Rattle.rml_cps.specs.Statements.{OnAnswer, Jump, RelationActs, Scope, is_named, with_success, with_failure, with_body, own_success, own_failure, own, Doing, Action, Choice, with_known, fails_to, received, from_built_in, argument_of, chosen, switched, call, in_turn, act, choice_at, action, choice, block}
use Rattle.rml_cps.specs.Relations.{relation_does, does_if_there, relation_body}

-- Holds relates two runs from a moment inside a turn; Follows relates what comes after a step.
pub record EachWay (f g : RelationActs) (Holds Follows : Rest → Rest → Type 0) : Type 0 where
  pub goes_wrong : Holds (λ n. bare Wrong) (λ n. bare Wrong)
  pub by_trace : (t : Trace) (a b : Rest) → Holds a b → Holds (λ n. traced t (a n)) (λ n. traced t (b n))
  pub by_weight : (w : ℕ) (a b : Rest) → Holds a b → Holds (λ n. weigh w (a n)) (λ n. weigh w (b n))
  pub by_step : (a b : Rest) → Follows a b → Holds (step a) (step b)
  pub by_call : (r : ℕ) (k l : OnAnswer) (h i : Rest) (s : Called) → ((a : Answer) → Follows (k a) (l a)) → Follows h i → Holds (step (f r k h s)) (step (g r l i s))
  pub after_step : (a b : Rest) → Holds a b → Follows a b

module _ (vals : Vals) (f g : RelationActs) (Holds Follows : Rest → Rest → Type 0) (way : EachWay f g Holds Follows) where
  -- ---- what is told

  abbrev SuccessFollows : Option OnAnswer → Option OnAnswer → Type 0
  SuccessFollows None None = Unit {0}
  SuccessFollows (Some k) (Some l) = (a : Answer) → Follows (k a) (l a)
  SuccessFollows None (Some l) = ⊥
  SuccessFollows (Some k) None = ⊥

  abbrev FailureFollows : Option Rest → Option Rest → Type 0
  FailureFollows None None = Unit {0}
  FailureFollows (Some h) (Some i) = Follows h i
  FailureFollows None (Some i) = ⊥
  FailureFollows (Some h) None = ⊥

  abbrev JumpHolds : Option Jump → Option Jump → Type 0
  JumpHolds None None = Unit {0}
  JumpHolds (Some d) (Some e) = (a : Answer) (h i : Rest) → Follows h i → Holds (d a h) (e a i)
  JumpHolds None (Some e) = ⊥
  JumpHolds (Some d) None = ⊥

  pub record ScopeHolds (s t : Scope) : Type 0 where
    pub success : (c : Continuation) → SuccessFollows (s.success c) (t.success c)
    pub failure : (c : Continuation) → FailureFollows (s.failure c) (t.failure c)
    pub body : (j : ℕ) → JumpHolds (s.body j) (t.body j)

  abbrev DoingHolds : Doing → Doing → Type 0
  DoingHolds x y = (s t : Scope) → ScopeHolds s t → (env : Env) (store : Store) → Holds (x s env store) (y t env store)

  abbrev ActionHolds : Action → Action → Type 0
  ActionHolds a b = (x y : Doing) → DoingHolds x y → DoingHolds (a x) (b y)

  pub record ChoiceHolds (k l : Choice) : Type 0 where
    pub tag : k.tag ≡ l.tag
    pub block : DoingHolds k.block l.block

  -- ---- names

  success_choice : (b : Bool) (k l : OnAnswer) (o p : Option OnAnswer) → ((a : Answer) → Follows (k a) (l a)) → SuccessFollows o p → SuccessFollows (if b then Some k else o) (if b then Some l else p)
  success_choice true k l o p h e = h
  success_choice false k l o p h e = e

  failure_choice : (b : Bool) (k l : Rest) (o p : Option Rest) → Follows k l → FailureFollows o p → FailureFollows (if b then Some k else o) (if b then Some l else p)
  failure_choice true k l o p h e = h
  failure_choice false k l o p h e = e

  body_choice : (b : Bool) (d e : Jump) (o p : Option Jump) → JumpHolds (Some d) (Some e) → JumpHolds o p → JumpHolds (if b then Some d else o) (if b then Some e else p)
  body_choice true d e o p h k = h
  body_choice false d e o p h k = k

  success_named : (n : ℕ) (k l : OnAnswer) (s t : Scope) → ((a : Answer) → Follows (k a) (l a)) → ScopeHolds s t → ScopeHolds (with_success n k s) (with_success n l t)
  success_named n k l s t h e = record {
    success = λ c. success_choice (is_named n c) k l (s.success c) (t.success c) h (e.success c);
    failure = e.failure;
    body = e.body;
  }

  failure_named : (n : ℕ) (k l : Rest) (s t : Scope) → Follows k l → ScopeHolds s t → ScopeHolds (with_failure n k s) (with_failure n l t)
  failure_named n k l s t h e = record {
    success = e.success;
    failure = λ c. failure_choice (is_named n c) k l (s.failure c) (t.failure c) h (e.failure c);
    body = e.body;
  }

  body_named : (j : ℕ) (d b : Jump) (s t : Scope) → JumpHolds (Some d) (Some b) → ScopeHolds s t → ScopeHolds (with_body j d s) (with_body j b t)
  body_named j d b s t h e = record {
    success = e.success;
    failure = e.failure;
    body = λ i. body_choice (i == j) d b (s.body i) (t.body i) h (e.body i);
  }

  own_success_holds : (k l : OnAnswer) → ((a : Answer) → Follows (k a) (l a)) → (c : Continuation) → SuccessFollows (own_success k c) (own_success l c)
  own_success_holds k l ks continuation.Own = ks
  own_success_holds k l ks (continuation.Named n) = tt

  own_failure_holds : (h i : Rest) → Follows h i → (c : Continuation) → FailureFollows (own_failure h c) (own_failure i c)
  own_failure_holds h i hs continuation.Own = hs
  own_failure_holds h i hs (continuation.Named n) = tt

  own_holds : (k l : OnAnswer) (h i : Rest) → ((a : Answer) → Follows (k a) (l a)) → Follows h i → ScopeHolds (own k h) (own l i)
  own_holds k l h i ks hs = record { success = own_success_holds k l ks; failure = own_failure_holds h i hs; body = λ j. tt }

  -- ---- the ways to go on

  with_each : {A : Type 0} (o : Option A) (a b : A → Rest) → ((x : A) → Holds (a x) (b x)) → Holds (with_known o a) (with_known o b)
  with_each None a b each = way.goes_wrong
  with_each (Some x) a b each = each x

  if_walk : (b : Bool) (x y z w : Rest) → Holds x y → Holds z w → Holds (λ n. if b then x n else z n) (λ n. if b then y n else w n)
  if_walk true x y z w h k = h
  if_walk false x y z w h k = k

  fails_walk : (o p : Option Rest) → FailureFollows o p → Holds (fails_to o) (fails_to p)
  fails_walk None None h = way.goes_wrong
  fails_walk (Some a) (Some b) h = way.by_step a b h
  fails_walk None (Some b) h = absurd h
  fails_walk (Some a) None h = absurd h

  received_walk : (xs : List ℕ) (x y : Env → Store → Rest) (env : Env) (a : Answer) → ((e : Env) (store : Store) → Holds (x e store) (y e store)) → Holds (received xs x env a) (received xs y env a)
  received_walk xs x y env a each = with_each (bind_all xs a.values env) (λ next. x next a.store) (λ next. y next a.store) (λ e. each e a.store)

  built_walk : (number : ℕ) (ys : List ℕ) (x y : Env → Store → Rest) (o p : Option Rest) (env : Env) (d : Applied) → ((e : Env) (store : Store) → Holds (x e store) (y e store)) → FailureFollows o p
      → Holds (from_built_in number ys x o env d) (from_built_in number ys y p env d)
  built_walk number ys x y o p env (applied.Yes a t) each h =
      way.by_trace (trace_of_built_in number a.values t) (received ys x env a) (received ys y env a) (received_walk ys x y env a each)
  built_walk number ys x y o p env applied.No each h = fails_walk o p h
  built_walk number ys x y o p env applied.Wrong each h = way.goes_wrong

  success_walk : (o p : Option OnAnswer) → SuccessFollows o p → (x y : OnAnswer → Rest) → ((k l : OnAnswer) → ((a : Answer) → Follows (k a) (l a)) → Holds (x k) (y l)) → Holds (with_known o x) (with_known p y)
  success_walk None None h x y each = way.goes_wrong
  success_walk (Some k) (Some l) h x y each = each k l h
  success_walk None (Some l) h x y each = absurd h
  success_walk (Some k) None h x y each = absurd h

  failure_walk : (o p : Option Rest) → FailureFollows o p → (x y : Rest → Rest) → ((h i : Rest) → Follows h i → Holds (x h) (y i)) → Holds (with_known o x) (with_known p y)
  failure_walk None None h x y each = way.goes_wrong
  failure_walk (Some k) (Some l) h x y each = each k l h
  failure_walk None (Some l) h x y each = absurd h
  failure_walk (Some k) None h x y each = absurd h

  jump_walk : (o p : Option Jump) → JumpHolds o p → (x y : Jump → Rest) → ((d e : Jump) → JumpHolds (Some d) (Some e) → Holds (x d) (y e)) → Holds (with_known o x) (with_known p y)
  jump_walk None None h x y each = way.goes_wrong
  jump_walk (Some d) (Some e) h x y each = each d e h
  jump_walk None (Some e) h x y each = absurd h
  jump_walk (Some d) None h x y each = absurd h

  call_walk : (r : Option ℕ) (k l : OnAnswer) (h i : Rest) (s : Called) → ((a : Answer) → Follows (k a) (l a)) → Follows h i → Holds (call f r k h s) (call g r l i s)
  call_walk None k l h i s ks hs = way.by_step (λ n. bare Wrong) (λ n. bare Wrong) (way.after_step (λ n. bare Wrong) (λ n. bare Wrong) way.goes_wrong)
  call_walk (Some r) k l h i s ks hs = way.by_call r k l h i s ks hs

  -- ---- a layer of statements

  abbrev StmtHolds : Stmt → Type 0
  StmtHolds x = ActionHolds (action vals f x) (action vals g x)

  abbrev CaseHolds : Case → Type 0
  CaseHolds k = ChoiceHolds (choice vals f k) (choice vals g k)

  turn_walk : (ps : List ((x : Stmt) × StmtHolds x)) → DoingHolds (in_turn (map (action vals f) (map (λ e. e.0) ps))) (in_turn (map (action vals g) (map (λ e. e.0) ps)))
  turn_walk [] s t h env store = way.goes_wrong
  turn_walk (e ∷ ps) s t h env store =
      e.1 (in_turn (map (action vals f) (map (λ e. e.0) ps))) (in_turn (map (action vals g) (map (λ e. e.0) ps))) (turn_walk ps) s t h env store

  -- where tags are equal
  one_chosen : (k l : Tag) (v : Value-F Value) (x y z w : Rest) → k ≡ l → Holds x y → Holds z w → Holds (λ n. if has_tag k v then x n else z n) (λ n. if has_tag l v then y n else w n)
  one_chosen k l v x y z w e h i = subst (λ (u : Tag). Holds (λ n. if has_tag k v then x n else z n) (λ n. if has_tag u v then y n else w n)) e (if_walk (has_tag k v) x y z w h i)

  chosen_walk : (ps : List ((x : Case) × CaseHolds x)) (x y : Doing) (v : Value-F Value) → DoingHolds x y
      → DoingHolds (chosen (map (choice vals f) (map (λ e. e.0) ps)) x v) (chosen (map (choice vals g) (map (λ e. e.0) ps)) y v)
  chosen_walk [] x y v k s t h env store = k s t h env store
  chosen_walk (e ∷ ps) x y v k s t h env store = one_chosen _ _ v _ _ _ _ e.1.tag (e.1.block s t h env store) (chosen_walk ps x y v k s t h env store)

  of_kind : (k l : Tag) (v : Value-F Value) (x y : Rest) → k ≡ l → Holds x y → Holds (λ n. if is_of_kind k v then x n else bare Wrong) (λ n. if is_of_kind l v then y n else bare Wrong)
  of_kind k l v x y e h =
      subst (λ (u : Tag). Holds (λ n. if is_of_kind k v then x n else bare Wrong) (λ n. if is_of_kind u v then y n else bare Wrong)) e
      (if_walk (is_of_kind k v) x y (λ n. bare Wrong) (λ n. bare Wrong) h way.goes_wrong)

  switched_walk : (ps : List ((x : Case) × CaseHolds x)) (x y : Doing) (v : Value-F Value) → DoingHolds x y
      → DoingHolds (switched (map (choice vals f) (map (λ e. e.0) ps)) x v) (switched (map (choice vals g) (map (λ e. e.0) ps)) y v)
  switched_walk [] x y v k s t h env store = k s t h env store
  switched_walk (e ∷ ps) x y v k s t h env store = of_kind _ _ v _ _ e.1.tag (chosen_walk (e ∷ ps) x y v k s t h env store)

  along : (a b x y : Action) → a ≡ b → x ≡ y → ActionHolds b y → ActionHolds a x
  along a b x y e i h = subst (λ (z : Action). ActionHolds z x) (sym e) (subst (λ (z : Action). ActionHolds b z) (sym i) h)

  along_choice : (a b x y : Choice) → a ≡ b → x ≡ y → ChoiceHolds b y → ChoiceHolds a x
  along_choice a b x y e i h = subst (λ (z : Choice). ChoiceHolds z x) (sym e) (subst (λ (z : Choice). ChoiceHolds b z) (sym i) h)

  abbrev Layer : Type 0
  Layer = Stmt-F ((x : Stmt) × StmtHolds x) ((x : Case) × CaseHolds x)

  abbrev plain : Layer → Stmt
  plain y = roll-Stmt (map-Stmt ((x : Stmt) × StmtHolds x) ((x : Case) × CaseHolds x) Stmt Case (λ e. e.0) (λ e. e.0) y)

  opened : (y : Stmt-F Stmt Case) → ActionHolds (act vals f (map-Stmt Stmt Case Action Choice (action vals f) (choice vals f) y)) (act vals g (map-Stmt Stmt Case Action Choice (action vals g) (choice vals g) y)) → StmtHolds (roll-Stmt y)
  opened y h = along _ _ _ _ (fold-roll-Stmt Action Choice (act vals f) (choice_at vals f) y) (fold-roll-Stmt Action Choice (act vals g) (choice_at vals g) y) h

  layer_walk : (y : Layer) → StmtHolds (plain y)
  layer_walk (Stmt-F.Set x e) = opened (Stmt-F.Set x e) (λ a b k s t h env store. way.by_weight (set_weight e) _ _
      (with_each (value_of vals e env) _ _ (λ v. k s t h (bind x v env) store)))
  layer_walk (Stmt-F.Field x y i) = opened (Stmt-F.Field x y i) (λ a b k s t h env store.
      with_each (option_and_then (argument_of i) (look y env)) _ _ (λ v. k s t h (bind x v env) store))
  layer_walk (Stmt-F.Builtin number xs ys c) = opened (Stmt-F.Builtin number xs ys c) (λ a b k s t h env store. way.by_weight (built_in_weight number (length ys)) _ _
      (with_each (values_of xs env) _ _ (λ vs. built_walk number ys (a s) (b t) (s.failure c) (t.failure c) env (apply_at number vs store) (k s t h) (h.failure c))))
  layer_walk (Stmt-F.Equal x y c) = opened (Stmt-F.Equal x y c) (λ a b k s t h env store.
      with_each (look x env) _ _ (λ v. with_each (look y env) _ _ (λ w. if_walk (same v w) _ _ _ _ (k s t h env store) (fails_walk (s.failure c) (t.failure c) (h.failure c)))))
  layer_walk (Stmt-F.Success n xs ps) = opened (Stmt-F.Success n xs (map (λ e. e.0) ps)) (λ a b k s t h env store.
      k _ _ (success_named n _ _ s t (λ r. way.after_step _ _ (way.by_weight (entry_weight (length xs)) _ _
      (received_walk xs _ _ env r (λ e store. turn_walk ps s t h e store)))) h) env store)
  layer_walk (Stmt-F.Failure n ps) = opened (Stmt-F.Failure n (map (λ e. e.0) ps)) (λ a b k s t h env store. way.by_weight failure_weight _ _
      (k _ _ (failure_named n _ _ s t (way.after_step _ _ (way.by_weight (entry_weight 0) _ _ (turn_walk ps s t h env store))) h) env store))
  layer_walk (Stmt-F.Body j xs n ps) = opened (Stmt-F.Body j xs n (map (λ e. e.0) ps)) (λ a b k s t h env store.
      k _ _ (body_named j _ _ s t (λ r d e i. received_walk xs _ _ env r (λ next store. turn_walk ps _ _ (failure_named n d e s t i h) next store)) h) env store)
  layer_walk (Stmt-F.Call r xs c d) = opened (Stmt-F.Call r xs c d) (λ a b k s t h env store.
      with_each (values_of xs env) _ _ (λ vs. success_walk (s.success c) (t.success c) (h.success c) _ _ (λ l m ks.
      failure_walk (s.failure d) (t.failure d) (h.failure d) _ _ (λ i j hs. call_walk (relation_of r env) l m i j (record { values = vs; store = store }) ks hs))))
  layer_walk (Stmt-F.Answer c xs) = opened (Stmt-F.Answer c xs) (λ a b k s t h env store.
      with_each (values_of xs env) _ _ (λ vs. success_walk (s.success c) (t.success c) (h.success c) _ _ (λ l m ks.
      way.by_step _ _ (ks (record { values = vs; store = store })))))
  layer_walk (Stmt-F.Fail c) = opened (Stmt-F.Fail c) (λ a b k s t h env store. fails_walk (s.failure c) (t.failure c) (h.failure c))
  layer_walk (Stmt-F.Goto j xs c) = opened (Stmt-F.Goto j xs c) (λ a b k s t h env store. way.by_weight (goto_weight (length xs)) _ _
      (with_each (values_of xs env) _ _ (λ vs. jump_walk (s.body j) (t.body j) (h.body j) _ _ (λ d e ds.
      failure_walk (s.failure c) (t.failure c) (h.failure c) _ _ (λ i l hs. ds (record { values = vs; store = store }) i l hs)))))
  layer_walk (Stmt-F.Switch x ps qs) = opened (Stmt-F.Switch x (map (λ e. e.0) ps) (map (λ e. e.0) qs)) (λ a b k s t h env store.
      with_each (look x env) _ _ (λ v. switched_walk ps _ _ (out-Value v) (turn_walk qs) s t h env store))

  case_walk : (y : Case-F ((x : Stmt) × StmtHolds x) ((x : Case) × CaseHolds x)) → CaseHolds (roll-Case (map-Case ((x : Stmt) × StmtHolds x) ((x : Case) × CaseHolds x) Stmt Case (λ e. e.0) (λ e. e.0) y))
  case_walk y =
      along_choice _ _ _ _
      (fold-roll-Case Action Choice (act vals f) (choice_at vals f) (map-Case _ _ Stmt Case (λ e. e.0) (λ e. e.0) y))
      (fold-roll-Case Action Choice (act vals g) (choice_at vals g) (map-Case _ _ Stmt Case (λ e. e.0) (λ e. e.0) y))
      (record { tag = refl; block = turn_walk y.block })

  stmt_walk : (x : Stmt) → StmtHolds x
  stmt_walk = ind-Stmt StmtHolds CaseHolds (λ x y is. subst (λ z. StmtHolds (roll-Stmt z)) is (layer_walk y)) (λ x y is. subst (λ z. CaseHolds (roll-Case z)) is (case_walk y))

  block_walk : (xs : List Stmt) → DoingHolds (block vals f xs) (block vals g xs)
  block_walk [] s t h env store = way.goes_wrong
  block_walk (x ∷ xs) s t h env store = stmt_walk x (block vals f xs) (block vals g xs) (block_walk xs) s t h env store

  -- ---- relations

  does_walk : (r : Relation) (k l : OnAnswer) (h i : Rest) (s : Called) → ((a : Answer) → Follows (k a) (l a)) → Follows h i → Holds (relation_does vals f r k h s) (relation_does vals g r l i s)
  does_walk r k l h i s ks hs =
      if_walk (r.params == length s.values) _ _ (λ n. bare Wrong) (λ n. bare Wrong)
      (way.by_weight (entry_weight r.params) _ _ (block_walk r.body.stmts (own k h) (own l i) (own_holds k l h i ks hs) (bound_from 0 s.values) s.store)) way.goes_wrong

  there_walk : (o : Option Relation) (k l : OnAnswer) (h i : Rest) (s : Called) → ((a : Answer) → Follows (k a) (l a)) → Follows h i → Holds (does_if_there vals f o k h s) (does_if_there vals g o l i s)
  there_walk None k l h i s ks hs = way.by_step h i hs
  there_walk (Some r) k l h i s ks hs = does_walk r k l h i s ks hs

pub relation_walk : (vals : Vals) (rels : List Relation) (f g : RelationActs) (Holds Follows : Rest → Rest → Type 0) → EachWay f g Holds Follows
    → (r : ℕ) (k l : OnAnswer) (h i : Rest) (s : Called) → ((a : Answer) → Follows (k a) (l a)) → Follows h i
    → Holds (relation_body vals rels f r k h s) (relation_body vals rels g r l i s)
relation_walk vals rels f g Holds Follows way r k l h i s ks hs = there_walk vals f g Holds Follows way (slice_get rels r) k l h i s ks hs
