-- The statements that go on, one lemma each.
use Rattle.std.proofs.Common.{◌≡◌, ℕ, ◌+◌, ◌≤◌, Bool, false, List, length, Option, Some, refl, sym, ap, subst, ◌∙◌, eq-eqb, arith}
use Rattle.std.specs.Prelude.{if◌then◌else◌}
use Rattle.rml_base.specs.Run.{Rest, step}
use Rattle.rml_simulation.specs.declared.partial.Partial.{Partial}
use Rattle.rml_simulation.specs.declared.partial.Partial.TheVariants.{Yes, No, CutOff, GoneWrong}
use Rattle.rml_simulation.specs.Partial.{untraced, take_step, then_go, unless, followed, traced}
use Rattle.rml_simulation.specs.Simulates.{Credit, Simulates}
use Rattle.rml_simulation.specs.Moves.{more_weighed}
use Rattle.rml_simulation.proofs.Callers.{both_step, equal, followed_after, followed_step, followed_then, lower, weaken}
use Rattle.rml_value.specs.Same.{same}
use Rattle.rml_builtin.specs.declared.applied.Answer.{Answer}
use Rattle.rml_builtin.specs.BuiltIns.{apply_at}
use Rattle.rml_builtin.specs.Called.{Called}
use Rattle.rml_terms.specs.Env.{bind, look}
use Rattle.rml_terms.specs.Calling.{RelationCalls, with_value}
use Rattle.rml_fol.specs.declared.terms.Expression.{Expression}
use Rattle.rml_fol.specs.declared.statements.Callee.{Callee}
use Rattle.rml_fol.specs.declared.statements.Stmt.TheOpen.{Stmt-F as Clause-F}
use Rattle.rml_fol.specs.Expressions.{Vals, value_of, cells_of}
use Rattle.rml_fol.specs.Weights as clause
use Rattle.rml_fol.specs.Statements as clauses
use Rattle.rml_fol.specs.Statements.{Given, Bodies, Scoped, no_bodies, weighing, retried, values_of, relation_of}
use Rattle.rml_cps.specs.declared.statements.Continuation.{Continuation}
use Rattle.rml_cps.specs.declared.statements.Continuation.TheVariants as continuation
use Rattle.rml_cps.specs.Weights as cps
use Rattle.rml_cps.specs.Statements.{OnAnswer, RelationActs, Scope, Doing, is_named, with_success, with_failure, with_known, fails_to, received, from_built_in, success_of, failure_of, call}
use Rattle.rml_tocps.specs.Carries.{take, take_all, AreNew, Carries}
use Rattle.rml_tocps.specs.Pass.{Old, New, old_stmt, both_old, both_new, new_set, new_built_in, new_equal, new_call, new_not, GoalCarries}
use Rattle.rml_tocps.proofs.Environments.{bind_agrees, look_worth, values_worth, relation_worth, expression_worth}
use Rattle.rml_tocps.proofs.Moves.{with_spare, fails_lower, old_weight, both_weights, both_known, both_if, both_received, both_fail, both_built}

-- one statement and then another
pub both_carry : (h : Continuation) (s t u : ℕ) (p q r : ℕ → Bool) (a b : Old) (x y : New) → Carries h s p t q a x → Carries h t q u r b y → Carries h s p u r (both_old a b) (both_new x y)
both_carry h s t u p q r a b x y first second = record {
  by = λ vals olds news i below j le c k f bodies scope base fails rest onward goes.
      first.by vals olds news i below j le c k f bodies scope base fails (b vals olds rest) (y vals news onward)
      (λ l less. second.by vals olds news i below l (omega arith) c k f bodies scope base (fails_lower l j c f scope h less fails) rest onward (λ m lesser. goes m (omega arith)));
}

pub set_carries : (h : Continuation) (s t : ℕ) (p : ℕ → Bool) (x : ℕ) (e : Expression) → p x ≡ false → cps.set_weight e + t ≤ clause.set_weight (cells_of e) + s
    → Carries h s p t (take x p) (old_stmt (Clause-F.Set x e)) (new_set x e)
set_carries h s t p x e fresh le = record {
  by = λ vals olds news i below j ij c k f bodies scope base fails rest onward goes env env' store agrees.
      both_weights j c k (step f) s (clause.set_weight (cells_of e)) t (cps.set_weight e)
      (λ n. with_value (value_of vals e env) (λ v. rest bodies (bind x v env) store) n) (with_known (value_of vals e env') (λ v. onward scope (bind x v env') store)) le
      (both_known j c k (step f) (more_weighed t c) (value_of vals e env) (value_of vals e env') (λ v. rest bodies (bind x v env) store) (λ v. onward scope (bind x v env') store)
      (expression_worth p base env env' agrees vals e)
      (λ v. goes j (omega arith) (bind x v env) (bind x v env') store (bind_agrees p base env env' x v fresh agrees)));
}

pub built_in_carries : (h : Continuation) (s t : ℕ) (p : ℕ → Bool) (number : ℕ) (xs ys : List ℕ) → AreNew ys p → cps.built_in_weight number (length ys) + t ≤ clause.built_in_weight number (length ys) + s
    → Carries h s p t (take_all ys p) (old_stmt (Clause-F.Builtin number xs ys)) (new_built_in number xs ys h)
built_in_carries h s t p number xs ys fresh le = record {
  by = λ vals olds news i below j ij c k f bodies scope base fails rest onward goes env env' store agrees.
      both_weights j c k (step f) s (clause.built_in_weight number (length ys)) t (cps.built_in_weight number (length ys))
      (λ n. with_value (values_of xs env) (λ vs. clauses.from_built_in number ys (rest bodies) env (apply_at number vs store)) n)
      (with_known (values_of xs env') (λ vs. from_built_in number ys (onward scope) (scope.failure h) env' (apply_at number vs store))) le
      (both_known j c k (step f) (more_weighed t c) (values_of xs env) (values_of xs env')
      (λ vs. clauses.from_built_in number ys (rest bodies) env (apply_at number vs store)) (λ vs. from_built_in number ys (onward scope) (scope.failure h) env' (apply_at number vs store))
      (values_worth p base env env' agrees xs)
      (λ vs. both_built j c t k f scope h fails p base number ys env env' (apply_at number vs store) (rest bodies) (onward scope) fresh agrees
      (λ e e' st ag. goes j (omega arith) e e' st ag)));
}

pub equal_carries : (h : Continuation) (s t : ℕ) (p : ℕ → Bool) (x y : ℕ) → t ≤ clause.equal_weight + s → Carries h s p t p (old_stmt (Clause-F.Equal x y)) (new_equal x y h)
equal_carries h s t p x y le = record {
  by = λ vals olds news i below j ij c k f bodies scope base fails rest onward goes env env' store agrees.
      old_weight j c k (step f) s clause.equal_weight t
      (λ n. with_value (look x env) (λ v. with_value (look y env) (λ w m. if same v w then rest bodies env store m else No untraced m)) n)
      (with_known (look x env') (λ v. with_known (look y env') (λ w m. if same v w then onward scope env' store m else fails_to (scope.failure h) m))) le
      (both_known j c k (step f) (more_weighed t c) (look x env) (look x env') _ _ (look_worth p base env env' agrees x)
      (λ v. both_known j c k (step f) (more_weighed t c) (look y env) (look y env') _ _ (look_worth p base env env' agrees y)
      (λ w. both_if j c k (step f) (more_weighed t c) (same v w) (rest bodies env store) (No untraced) (onward scope env' store) (fails_to (scope.failure h))
      (goes j (omega arith) env env' store agrees) (both_fail j c t k f scope h fails))));
}

-- what was named is found
success_found : (n : ℕ) (k : OnAnswer) (scope : Scope) → (with_success n k scope).success (continuation.Named n) ≡ Some k
success_found n k scope = ap (λ (b : Bool). if b then Some k else scope.success (continuation.Named n)) (eq-eqb n n refl)

pub failure_found : (n : ℕ) (f : Rest) (scope : Scope) → (with_failure n f scope).failure (continuation.Named n) ≡ Some f
failure_found n f scope = ap (λ (b : Bool). if b then Some f else scope.failure (continuation.Named n)) (eq-eqb n n refl)

-- and what was named before, if it has another number
pub failure_kept : (n : ℕ) (f g : Rest) (scope : Scope) (h : Continuation) → is_named n h ≡ false → scope.failure h ≡ Some g → (with_failure n f scope).failure h ≡ Some g
failure_kept n f g scope h other e = ap (λ (b : Bool). if b then Some f else scope.failure h) other ∙ e

-- the same credit
pub regroup : (j u v : ℕ) (c : Credit) (f g : Rest) → Simulates j (more_weighed u (more_weighed v c)) f g → Simulates j (more_weighed (u + v) c) f g
regroup j u v c f g w = weaken j j _ _ f g (omega arith) (record { steps = omega arith; made = omega arith; weighed = omega arith }) w

-- what takes the failure of a `not`
unless_taken : (w : Partial Given) (go : ℕ → Partial Given) (k : Given → Rest) (h : Rest) → followed w (λ a. h) (step (λ l. followed (go l) k h)) ≡ followed (unless w (take_step go)) k h
unless_taken (Yes a t n) go k h = refl
unless_taken (No t n) go k h = ap (traced t) (sym (followed_step go k h n)) ∙ sym (followed_after t (take_step go n) k h)
unless_taken (CutOff t) go k h = refl
unless_taken (GoneWrong t) go k h = refl

pub call_carries : (h : Continuation) (s t : ℕ) (p : ℕ → Bool) (n : ℕ) (callee : Callee) (xs ys : List ℕ) → AreNew ys p → cps.entry_weight (length ys) + t ≤ clause.entry_weight (length ys) + (clause.call_weight + s)
    → Carries h s p t (take_all ys p) (old_stmt (Clause-F.Call callee xs ys)) (new_call n callee xs ys h)
call_carries h s t p n callee xs ys fresh le = record {
  by = λ vals olds news i below j ij c k f bodies scope base fails rest onward goes env env' store agrees.
      let spare : Credit = more_weighed (clause.call_weight + s) c in
      let after_answer : Answer → ℕ → Partial Given = λ a m. weighing (clause.entry_weight (length ys)) (clauses.received ys (rest bodies) env a m) in
      let onward_answer : OnAnswer = success_of ys onward scope env' in
      old_weight j c k (step f) s clause.call_weight (clause.call_weight + s)
      (λ m. with_value (values_of xs env) (λ vs m. then_go (clauses.call olds (relation_of callee env) vs store m) after_answer) m)
      (with_known (values_of xs env') (λ vs. with_known ((with_success n onward_answer scope).success (continuation.Named n)) (λ answered. with_known (scope.failure h) (λ failed.
      call news (relation_of callee env') answered failed (record { values = vs; store = store }))))) (omega arith)
      (both_known j c k (step f) spare (values_of xs env) (values_of xs env') _ _ (values_worth p base env env' agrees xs)
      (λ vs.
      let called : Called = record { values = vs; store = store } in
      let follows : Answer → Rest = λ a m. followed (after_answer a m) k (step f) in
      subst (λ (o : Option OnAnswer). Simulates j spare (λ m. followed (then_go (clauses.call olds (relation_of callee env) vs store m) after_answer) k (step f))
      (with_known o (λ answered. with_known (scope.failure h) (λ failed. call news (relation_of callee env') answered failed called)))) (sym (success_found n onward_answer scope))
      (subst (λ (o : Option Rest). Simulates j spare (λ m. followed (then_go (clauses.call olds (relation_of callee env) vs store m) after_answer) k (step f))
      (with_known o (λ failed. call news (relation_of callee env') onward_answer failed called))) (sym fails.is)
      (equal j spare (step (λ m. followed (with_value (relation_of callee env) (λ r. olds r called) m) follows (step f))) _ _ _
      (λ m. sym (followed_then (clauses.call olds (relation_of callee env) vs store m) after_answer k (step f) ∙ followed_step (with_value (relation_of callee env) (λ r. olds r called)) follows (step f) m)) (λ m le. refl)
      (both_step j spare (λ m. followed (with_value (relation_of callee env) (λ r. olds r called) m) follows (step f)) (with_known (relation_of callee env') (λ r. news r onward_answer fails.failed called)) (λ l less.
      both_known l spare follows (step f) spare (relation_of callee env) (relation_of callee env') (λ r. olds r called) (λ r. news r onward_answer fails.failed called) (relation_worth p base env env' agrees callee)
      (λ r. (below l (omega arith) r).at l spare follows onward_answer f fails.failed (omega arith)
      (λ a. both_weights l c k (step f) (clause.call_weight + s) (clause.entry_weight (length ys)) t (cps.entry_weight (length ys)) (clauses.received ys (rest bodies) env a) (received ys (onward scope) env' a) le
      (both_received l k (step f) (more_weighed t c) p base ys env env' a (rest bodies) (onward scope) fresh agrees (λ e e' ag. goes l (omega arith) e e' a.store ag)))
      (with_spare l c (clause.call_weight + s) f fails.failed (lower j l c f fails.failed (omega arith) fails.follows)) called)))))));
}

-- a `not`: its goal is told what follows its failure, which is what follows the `not`
pub not_carries : (h : Continuation) (s u v t : ℕ) (p : ℕ → Bool) (n : ℕ) (block : Vals → RelationCalls → List clauses.Action) (goal : Vals → RelationActs → Doing) → is_named n h ≡ false
    → cps.failure_weight + (u + v) ≤ clause.not_weight + s → cps.entry_weight 0 + t ≤ clause.entry_weight 0 + v
    → GoalCarries h (continuation.Named n) u p (λ vals olds. clauses.in_turn (block vals olds)) goal
    → Carries h s p t p (λ vals olds. clauses.act vals olds (Clause-F.Not (block vals olds))) (new_not n goal)
not_carries h s u v t p n block goal other le enough inner = record {
  by = λ vals olds news i below j ij c k f bodies scope base fails rest onward goes env env' store agrees.
      let kept : Credit = more_weighed v c in
      let taker : Rest = λ m. followed (weighing (clause.entry_weight 0) (rest bodies env store m)) k (step f) in
      let back : Rest = failure_of onward scope env' store in
      let scope' : Scope = with_failure n back scope in
      both_weights j c k (step f) s clause.not_weight (u + v) cps.failure_weight
      (λ m. unless (clauses.in_turn (block vals olds) no_bodies env store m) (retried (rest bodies env store))) (goal vals news scope' env' store) le
      (equal j (more_weighed (u + v) c) (λ m. followed (clauses.in_turn (block vals olds) no_bodies env store m) (λ a. step f) (step taker)) _ (goal vals news scope' env' store) (goal vals news scope' env' store)
      (λ m. unless_taken (clauses.in_turn (block vals olds) no_bodies env store m) (λ l. weighing (clause.entry_weight 0) (rest bodies env store l)) k (step f)) (λ m less. refl)
      (regroup j u v c _ _
      (inner.by vals olds news i below j ij kept f taker scope' base
      (record { failed = fails.failed; is = failure_kept n back fails.failed scope h other fails.is; follows = with_spare j c v f fails.failed fails.follows })
      (record { failed = back; is = failure_found n back scope; follows = both_weights j c k (step f) v (clause.entry_weight 0) t (cps.entry_weight 0) (rest bodies env store) (onward scope env' store) enough (goes j (omega arith) env env' store agrees) })
      env env' store agrees)));
}
