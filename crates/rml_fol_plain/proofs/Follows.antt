-- A statement in a block: what it does alone, and then what follows it; or, where nothing may follow it, what it does alone; or it
-- names a body.
use Rattle.std.proofs.Common.{◌≡◌, ℕ, zero, suc, List, length, Option, Some, None, refl, sym, ap, subst, ◌∙◌}
use Rattle.std.specs.Prelude.{Bool, true, false, if◌then◌else◌}
use Rattle.rml_simulation.specs.declared.partial.Trace.{Trace}
use Rattle.rml_simulation.specs.declared.partial.Partial.{Partial}
use Rattle.rml_simulation.specs.declared.partial.Partial.TheVariants.{Yes, No, CutOff, GoneWrong}
use Rattle.rml_simulation.specs.Partial.{untraced, after, take_step, then_go, unless}
use Rattle.rml_value.specs.Same.{same}
use Rattle.rml_builtin.specs.declared.applied.Answer.{Answer}
use Rattle.rml_builtin.specs.declared.applied.Applied.{Applied}
use Rattle.rml_builtin.specs.declared.applied.Applied.TheVariants as applied
use Rattle.rml_builtin.specs.Applied.{Store}
use Rattle.rml_builtin.specs.BuiltIns.{apply_at}
use Rattle.rml_terms.specs.declared.state.Matched.{Matched}
use Rattle.rml_terms.specs.declared.state.Matched.TheVariants as matched
use Rattle.rml_terms.specs.Env.{Env, bind, look}
use Rattle.rml_terms.specs.Calling.{RelationCalls, with_value, trace_of_built_in}
use Rattle.rml_evaluation.proofs.Callers.{after_nothing, after_joined}
use Rattle.rml_fol.specs.declared.statements.Stmt.{Stmt, map-Stmt, roll-Stmt, out-Stmt, roll-out-Stmt, fold-roll-Stmt}
use Rattle.rml_fol.specs.declared.statements.Stmt.TheVariants as stmt
use Rattle.rml_fol.specs.declared.statements.Stmt.TheVariants.{rolls-Body}
use Rattle.rml_fol.specs.declared.statements.Stmt.TheOpen.{Stmt-F}
use Rattle.rml_fol.specs.declared.statements.Alternative.{Alternative}
use Rattle.rml_fol.specs.declared.statements.Case.{Case}
use Rattle.rml_fol.specs.Patterns.{matching, binds}
use Rattle.rml_fol.specs.Expressions.{Vals, value_of, cells_of}
use Rattle.rml_fol.specs.Weights.{entry_weight, match_weight, set_weight, built_in_weight, equal_weight, call_weight, not_weight}
use Rattle.rml_fol.specs.Statements.{Given, Bodies, Scoped, Action, Choice, no_bodies, weight_alone, weighing, retried, values_of, bind_all, from_match, received, from_built_in, call, relation_of, with_body, body_of, act, alternative_at, choice_at, action, alternative, choice, block}
use Rattle.rml_fol.specs.Acts.{acts-Body}
use Rattle.rml_fol_plain.specs.Given.{ends, is_last_at}

-- ---- the ways to go on, and what follows them

module _ (k : Given → ℕ → Partial Given) where
  then_after : (t : Trace) (w : Partial Given) → then_go (after t w) k ≡ after t (then_go w k)
  then_after t (Yes g u n) = after_joined t u (k g n)
  then_after t (No u n) = refl
  then_after t (CutOff u) = refl
  then_after t (GoneWrong u) = refl

  by_trace : (t : Trace) (w v : Partial Given) → v ≡ then_go w k → after t v ≡ then_go (after t w) k
  by_trace t w v h = ap (λ (x : Partial Given). after t x) h ∙ sym (then_after t w)

  by_value : {A : Type 0} (o : Option A) (f h : A → ℕ → Partial Given) (n : ℕ) → ((a : A) (m : ℕ) → h a m ≡ then_go (f a m) k) → with_value o h n ≡ then_go (with_value o f n) k
  by_value None f h n each = refl
  by_value (Some a) f h n each = each a n

  by_step : (f h : ℕ → Partial Given) (n : ℕ) → ((m : ℕ) → h m ≡ then_go (f m) k) → take_step h n ≡ then_go (take_step f n) k
  by_step f h zero each = refl
  by_step f h (suc n) each = each n

  by_answer : {A : Type 0} (w : Partial A) (f h : A → ℕ → Partial Given) → ((a : A) (m : ℕ) → h a m ≡ then_go (f a m) k) → then_go w h ≡ then_go (then_go w f) k
  by_answer (Yes a t n) f h each = by_trace t (f a n) (h a n) (each a n)
  by_answer (No t n) f h each = refl
  by_answer (CutOff t) f h each = refl
  by_answer (GoneWrong t) f h each = refl

  by_failure : (w : Partial Given) (f h : ℕ → Partial Given) → ((m : ℕ) → h m ≡ then_go (f m) k) → unless w h ≡ then_go (unless w f) k
  by_failure (Yes g t n) f h each = refl
  by_failure (No t n) f h each = by_trace t (f n) (h n) (each n)
  by_failure (CutOff t) f h each = refl
  by_failure (GoneWrong t) f h each = refl

  by_match : (m : Matched) (f h : Env → ℕ → Partial Given) (n : ℕ) → ((e : Env) → h e n ≡ then_go (f e n) k) → from_match m h n ≡ then_go (from_match m f n) k
  by_match (matched.Yes e) f h n each = each e
  by_match matched.No f h n each = refl
  by_match matched.Wrong f h n each = refl

  by_test : (b : Bool) (w v : Partial Given) (n : ℕ) → v ≡ then_go w k → (if b then v else No untraced n) ≡ then_go (if b then w else No untraced n) k
  by_test true w v n h = h
  by_test false w v n h = refl

-- ---- statements that others may follow

module _ (vals : Vals) (calls : RelationCalls) (next : Scoped) (bodies : Bodies) where
  -- what follows
  abbrev on : Given → ℕ → Partial Given
  on g n = next bodies g.env g.store n

  goes_on : (env : Env) (store : Store) (n : ℕ) → next bodies env store n ≡ then_go (ends no_bodies env store n) on
  goes_on env store n = sym (after_nothing (next bodies env store n))

  results : (ys : List ℕ) (env : Env) (a : Answer) (n : ℕ) → received ys (next bodies) env a n ≡ then_go (received ys (ends no_bodies) env a n) on
  results ys env a n = by_value on (bind_all ys a.values env) (λ e. ends no_bodies e a.store) (λ e. next bodies e a.store) n (λ e m. goes_on e a.store m)

  built : (number : ℕ) (ys : List ℕ) (env : Env) (x : Applied) (n : ℕ) → from_built_in number ys (next bodies) env x n ≡ then_go (from_built_in number ys (ends no_bodies) env x n) on
  built number ys env (applied.Yes a t) n =
      by_trace on (trace_of_built_in number a.values t) (received ys (ends no_bodies) env a n) (received ys (next bodies) env a n) (results ys env a n)
  built number ys env applied.No n = refl
  built number ys env applied.Wrong n = refl

  abbrev Follows : Action → Type 0
  Follows a = (env : Env) (store : Store) (n : ℕ) → a next bodies env store n ≡ then_go (a ends no_bodies env store n) on

  opened : (y : Stmt-F Stmt Alternative Case) → Follows (act vals calls (map-Stmt Stmt Alternative Case Action Scoped Choice (action vals calls) (alternative vals calls) (choice vals calls) y))
      → Follows (action vals calls (roll-Stmt y))
  opened y h = subst Follows (sym (fold-roll-Stmt Action Scoped Choice (act vals calls) (alternative_at vals calls) (choice_at vals calls) y)) h

  follows_at : (y : Stmt-F Stmt Alternative Case) → is_last_at y ≡ false → ((j : ℕ) (xs : List ℕ) (b : List Stmt) → y ≡ Stmt-F.Body j xs b → ⊥) → Follows (action vals calls (roll-Stmt y))
  follows_at (Stmt-F.Match x p) e none = opened (Stmt-F.Match x p) (λ env store n.
      by_trace on (weight_alone (match_weight (binds p))) _ _ (by_value on (look x env) _ _ n (λ v m. by_match on (matching p v env) _ _ m (λ w. goes_on w store m))))
  follows_at (Stmt-F.Set x e) last none = opened (Stmt-F.Set x e) (λ env store n.
      by_trace on (weight_alone (set_weight (cells_of e))) _ _ (by_value on (value_of vals e env) _ _ n (λ v m. goes_on (bind x v env) store m)))
  follows_at (Stmt-F.Call f xs ys) e none = opened (Stmt-F.Call f xs ys) (λ env store n.
      by_trace on (weight_alone call_weight) _ _ (by_value on (values_of xs env) _ _ n (λ vs m. by_answer on (call calls (relation_of f env) vs store m) _ _
      (λ a l. by_trace on (weight_alone (entry_weight (length ys))) _ _ (results ys env a l)))))
  follows_at (Stmt-F.Builtin number xs ys) e none = opened (Stmt-F.Builtin number xs ys) (λ env store n.
      by_trace on (weight_alone (built_in_weight number (length ys))) _ _ (by_value on (values_of xs env) _ _ n (λ vs m. built number ys env (apply_at number vs store) m)))
  follows_at (Stmt-F.Equal x y) e none = opened (Stmt-F.Equal x y) (λ env store n.
      by_trace on (weight_alone equal_weight) _ _ (by_value on (look x env) _ _ n (λ v m. by_value on (look y env) _ _ m (λ w l. by_test on (same v w) _ _ l (goes_on env store l)))))
  follows_at (Stmt-F.Not b) e none = opened (Stmt-F.Not b) (λ env store n.
      by_trace on (weight_alone not_weight) _ _ (by_failure on (block vals calls b no_bodies env store n) (retried (ends no_bodies env store)) (retried (next bodies env store)) (λ m.
      by_step on (λ l. weighing (entry_weight 0) (ends no_bodies env store l)) (λ l. weighing (entry_weight 0) (next bodies env store l)) m (λ l.
      by_trace on (weight_alone (entry_weight 0)) (ends no_bodies env store l) (next bodies env store l) (goes_on env store l)))))
  follows_at (Stmt-F.Or all) e none = absurd (cc)
  follows_at (Stmt-F.Cond a b c) e none = absurd (cc)
  follows_at (Stmt-F.Switch x all b) e none = absurd (cc)
  follows_at (Stmt-F.Body j xs b) e none = absurd (none j xs b refl)
  follows_at (Stmt-F.Goto j xs) e none = absurd (cc)
  follows_at (Stmt-F.Give xs) e none = absurd (cc)
  follows_at Stmt-F.Fail e none = absurd (cc)

  pub follows : (s : Stmt) → is_last_at (out-Stmt s) ≡ false → ((j : ℕ) (xs : List ℕ) (b : List Stmt) → s ≡ stmt.Body j xs b → ⊥) → Follows (action vals calls s)
  follows s last none =
      subst (λ (x : Stmt). Follows (action vals calls x)) (roll-out-Stmt s)
      (follows_at (out-Stmt s) last (λ j xs b e. none j xs b (sym (roll-out-Stmt s) ∙ ap roll-Stmt e ∙ rolls-Body j xs b)))

  -- ---- statements that nothing may follow

  abbrev Last : Action → Type 0
  Last a = (env : Env) (store : Store) (n : ℕ) → a next bodies env store n ≡ a ends bodies env store n

  last_opened : (y : Stmt-F Stmt Alternative Case) → Last (act vals calls (map-Stmt Stmt Alternative Case Action Scoped Choice (action vals calls) (alternative vals calls) (choice vals calls) y))
      → Last (action vals calls (roll-Stmt y))
  last_opened y h = subst Last (sym (fold-roll-Stmt Action Scoped Choice (act vals calls) (alternative_at vals calls) (choice_at vals calls) y)) h

  last_at : (y : Stmt-F Stmt Alternative Case) → is_last_at y ≡ true → Last (action vals calls (roll-Stmt y))
  last_at (Stmt-F.Or all) e = last_opened (Stmt-F.Or all) (λ env store n. refl)
  last_at (Stmt-F.Cond a b c) e = last_opened (Stmt-F.Cond a b c) (λ env store n. refl)
  last_at (Stmt-F.Switch x all b) e = last_opened (Stmt-F.Switch x all b) (λ env store n. refl)
  last_at (Stmt-F.Goto j xs) e = last_opened (Stmt-F.Goto j xs) (λ env store n. refl)
  last_at (Stmt-F.Give xs) e = last_opened (Stmt-F.Give xs) (λ env store n. refl)
  last_at Stmt-F.Fail e = last_opened Stmt-F.Fail (λ env store n. refl)
  last_at (Stmt-F.Match x p) e = absurd (cc)
  last_at (Stmt-F.Set x v) e = absurd (cc)
  last_at (Stmt-F.Call f xs ys) e = absurd (cc)
  last_at (Stmt-F.Builtin number xs ys) e = absurd (cc)
  last_at (Stmt-F.Equal x y) e = absurd (cc)
  last_at (Stmt-F.Not b) e = absurd (cc)
  last_at (Stmt-F.Body j xs b) e = absurd (cc)

  pub is_last : (s : Stmt) → is_last_at (out-Stmt s) ≡ true → Last (action vals calls s)
  is_last s e = subst (λ (x : Stmt). Last (action vals calls x)) (roll-out-Stmt s) (last_at (out-Stmt s) e)

  -- ---- a body that is named

  pub names : (j : ℕ) (xs : List ℕ) (b : List Stmt) (env : Env) (store : Store) (n : ℕ)
      → action vals calls (stmt.Body j xs b) next bodies env store n ≡ next (with_body j (body_of xs (block vals calls b) bodies env) bodies) env store n
  names j xs b env store n = ap (λ (a : Action). a next bodies env store n) (acts-Body vals calls j xs b)
