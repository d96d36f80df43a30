-- The moves of the pass: a weight, a value that is looked up, a failure, and what an answer binds, in both forms.
use Rattle.std.proofs.Common.{ℕ, ◌+◌, ◌≤◌, Bool, true, false, List, Option, Some, None, refl, sym, subst, ◌∙◌, arith}
use Rattle.std.specs.Prelude.{if◌then◌else◌}
use Rattle.rml_base.specs.Run.{Rest, step, weigh}
use Rattle.rml_simulation.specs.declared.partial.Partial.{Partial}
use Rattle.rml_simulation.specs.declared.partial.Partial.TheVariants.{No}
use Rattle.rml_simulation.specs.Partial.{untraced, followed, traced}
use Rattle.rml_simulation.specs.Simulates.{Credit, Simulates}
use Rattle.rml_simulation.specs.Moves.{more_weighed}
use Rattle.rml_simulation.proofs.Callers.{both_step_here, both_traced, equal, followed_after, lower, new_weigh, old_weigh, old_wrong, traced_none, traced_weight, weaken}
use Rattle.rml_builtin.specs.declared.applied.Answer.{Answer}
use Rattle.rml_builtin.specs.declared.applied.Applied.{Applied}
use Rattle.rml_builtin.specs.declared.applied.Applied.TheVariants as applied
use Rattle.rml_builtin.specs.Applied.{Store}
use Rattle.rml_terms.specs.Env.{Env}
use Rattle.rml_terms.specs.Calling.{with_value, trace_of_built_in}
use Rattle.rml_terms.proofs.Callers.{Worth}
use Rattle.rml_fol.specs.Statements as clause
use Rattle.rml_fol.specs.Statements.{Given, weight_alone, weighing, bind_all}
use Rattle.rml_cps.specs.declared.statements.Continuation.{Continuation}
use Rattle.rml_cps.specs.Statements.{Scope, with_known, fails_to, received, from_built_in}
use Rattle.rml_tocps.specs.Carries.{Agrees, take_all, AreNew, Fails}
use Rattle.rml_tocps.proofs.Environments.{BothBound, bind_all_agrees}

-- more to spare is no harm
pub richer : (i : ℕ) (c : Credit) (s t : ℕ) (f g : Rest) → t ≤ s → Simulates i (more_weighed t c) f g → Simulates i (more_weighed s c) f g
richer i c s t f g le u = weaken i i (more_weighed t c) (more_weighed s c) f g (omega arith) (record { steps = omega arith; made = omega arith; weighed = omega arith }) u

pub with_spare : (i : ℕ) (c : Credit) (s : ℕ) (f g : Rest) → Simulates i c f g → Simulates i (more_weighed s c) f g
with_spare i c s f g u = weaken i i c (more_weighed s c) f g (omega arith) (record { steps = omega arith; made = omega arith; weighed = omega arith }) u

pub fails_lower : (l j : ℕ) (c : Credit) (f : Rest) (scope : Scope) (h : Continuation) → l ≤ j → Fails j c f scope h → Fails l c f scope h
fails_lower l j c f scope h le u = record { failed = u.failed; is = u.is; follows = lower j l c f u.failed le u.follows }

pub fails_richer : (j : ℕ) (c : Credit) (s : ℕ) (f : Rest) (scope : Scope) (h : Continuation) → Fails j c f scope h → Fails j (more_weighed s c) f scope h
fails_richer j c s f scope h u = record { failed = u.failed; is = u.is; follows = with_spare j c s f u.failed u.follows }

module _ {B : Type 0} (i : ℕ) (c : Credit) (k : B → Rest) (h : Rest) where
  -- a weight in clause form, and none in continuation form
  pub old_weight : (s a t : ℕ) (w : ℕ → Partial B) (g : Rest) → t ≤ a + s
      → Simulates i (more_weighed t c) (λ n. followed (w n) k h) g → Simulates i (more_weighed s c) (λ n. followed (weighing a (w n)) k h) g
  old_weight s a t w g le u =
      equal i (more_weighed s c) (λ n. weigh a (followed (w n) k h)) (λ n. followed (weighing a (w n)) k h) g g
      (λ n. sym (followed_after (weight_alone a) (w n) k h ∙ traced_weight a (followed (w n) k h))) (λ m below. refl)
      (old_weigh i (more_weighed s c) a (λ n. followed (w n) k h) g
      (weaken i i (more_weighed t c) (more_weighed a (more_weighed s c)) (λ n. followed (w n) k h) g (omega arith) (record { steps = omega arith; made = omega arith; weighed = omega arith }) u))

  -- one in both
  pub both_weights : (s a t b : ℕ) (w : ℕ → Partial B) (g : Rest) → b + t ≤ a + s
      → Simulates i (more_weighed t c) (λ n. followed (w n) k h) g → Simulates i (more_weighed s c) (λ n. followed (weighing a (w n)) k h) (λ n. weigh b (g n))
  both_weights s a t b w g le u =
      old_weight s a (b + t) w (λ n. weigh b (g n)) le
      (new_weigh i (more_weighed (b + t) c) b (λ n. followed (w n) k h) g (omega arith)
      (weaken i i (more_weighed t c) _ (λ n. followed (w n) k h) g (omega arith) (record { steps = omega arith; made = omega arith; weighed = omega arith }) u))

  -- what is looked up
  pub both_known : {A : Type 0} (d : Credit) (o o' : Option A) (go : A → ℕ → Partial B) (on : A → Rest) → Worth o o' → ((a : A) → Simulates i d (λ n. followed (go a n) k h) (on a))
      → Simulates i d (λ n. followed (with_value o go n) k h) (with_known o' on)
  both_known d None o' go on w each = old_wrong i d (λ n. followed (with_value None go n) k h) (with_known o' on) 0 refl
  both_known {A = A} d (Some a) o' go on w each = subst (λ (p : Option A). Simulates i d (λ n. followed (go a n) k h) (with_known p on)) (sym w) (each a)

  pub both_if : (d : Credit) (b : Bool) (u v : ℕ → Partial B) (g g' : Rest) → Simulates i d (λ n. followed (u n) k h) g → Simulates i d (λ n. followed (v n) k h) g'
      → Simulates i d (λ n. followed (if b then u n else v n) k h) (λ n. if b then g n else g' n)
  both_if d true u v g g' p q = p
  both_if d false u v g g' p q = q

module _ (i : ℕ) (k : Given → Rest) (h : Rest) where
  pub both_bound : (d : Credit) (taken : ℕ → Bool) (base : Env) (o o' : Option Env) (store : Store) (go : Env → Store → ℕ → Partial Given) (on : Env → Store → Rest) → BothBound taken base o o'
      → ((e e' : Env) → Agrees taken base e e' → Simulates i d (λ n. followed (go e store n) k h) (on e' store))
      → Simulates i d (λ n. followed (with_value o (λ next. go next store) n) k h) (with_known o' (λ next. on next store))
  both_bound d taken base None o' store go on b each = old_wrong i d _ _ 0 refl
  both_bound d taken base (Some e) None store go on b each = absurd b
  both_bound d taken base (Some e) (Some e') store go on b each = each e e' b

  -- what an answer binds
  pub both_received : (d : Credit) (taken : ℕ → Bool) (base : Env) (ys : List ℕ) (env env' : Env) (a : Answer) (go : Env → Store → ℕ → Partial Given) (on : Env → Store → Rest) → AreNew ys taken → Agrees taken base env env'
      → ((e e' : Env) → Agrees (take_all ys taken) base e e' → Simulates i d (λ n. followed (go e a.store n) k h) (on e' a.store))
      → Simulates i d (λ n. followed (clause.received ys go env a n) k h) (received ys on env' a)
  both_received d taken base ys env env' a go on fresh agrees each =
      both_bound d (take_all ys taken) base (bind_all ys a.values env) (bind_all ys a.values env') a.store go on (bind_all_agrees ys a.values taken base env env' fresh agrees) each

-- a failure is a step of both
pub both_fail : (i : ℕ) (c : Credit) (s : ℕ) (k : Given → Rest) (f : Rest) (scope : Scope) (h : Continuation) → Fails i c f scope h
    → Simulates i (more_weighed s c) (λ n. followed (No untraced n) k (step f)) (fails_to (scope.failure h))
both_fail i c s k f scope h u =
    subst (λ (o : Option Rest). Simulates i (more_weighed s c) (λ n. followed (No untraced n) k (step f)) (fails_to o)) (sym u.is)
    (equal i (more_weighed s c) (step f) (λ n. followed (No untraced n) k (step f)) (step u.failed) (step u.failed) (λ n. sym (traced_none (step f n))) (λ m le. refl)
    (both_step_here i (more_weighed s c) f u.failed (with_spare i c s f u.failed u.follows)))

pub both_built : (i : ℕ) (c : Credit) (s : ℕ) (k : Given → Rest) (f : Rest) (scope : Scope) (h : Continuation) → Fails i c f scope h
    → (taken : ℕ → Bool) (base : Env) (number : ℕ) (ys : List ℕ) (env env' : Env) (x : Applied) (go : Env → Store → ℕ → Partial Given) (on : Env → Store → Rest) → AreNew ys taken → Agrees taken base env env'
    → ((e e' : Env) (store : Store) → Agrees (take_all ys taken) base e e' → Simulates i (more_weighed s c) (λ n. followed (go e store n) k (step f)) (on e' store))
    → Simulates i (more_weighed s c) (λ n. followed (clause.from_built_in number ys go env x n) k (step f)) (from_built_in number ys on (scope.failure h) env' x)
both_built i c s k f scope h u taken base number ys env env' (applied.Yes a t) go on fresh agrees each =
    equal i (more_weighed s c) (λ n. traced (trace_of_built_in number a.values t) (followed (clause.received ys go env a n) k (step f))) _ _ _
    (λ n. sym (followed_after (trace_of_built_in number a.values t) (clause.received ys go env a n) k (step f))) (λ m le. refl)
    (both_traced i (more_weighed s c) (trace_of_built_in number a.values t) (λ n. followed (clause.received ys go env a n) k (step f)) (received ys on env' a)
    (both_received i k (step f) (more_weighed s c) taken base ys env env' a go on fresh agrees (λ e e' ag. each e e' a.store ag)))
both_built i c s k f scope h u taken base number ys env env' applied.No go on fresh agrees each = both_fail i c s k f scope h u
both_built i c s k f scope h u taken base number ys env env' applied.Wrong go on fresh agrees each = old_wrong i (more_weighed s c) _ _ 0 refl
