-- A search uses its steps exactly. So at the step at which a run ends it has taken as many steps, and weighs as much.
use Rattle.std.proofs.Common.{◌≡◌, ◌≢◌, ℕ, zero, suc, ◌+◌, ◌-◌, ◌*◌, ◌<◌, ◌≤◌, List, [], ◌∷◌, refl, ap, subst, arith}
use Rattle.rml_base.specs.declared.outcome.Outcome.TheVariants as outcome
use Rattle.rml_base.specs.Run.{Observed, Wrong, seen, goes}
use Rattle.rml_base.specs.Same.{EndsAt}
use Rattle.rml_simulation.specs.declared.partial.Trace.{Trace}
use Rattle.rml_simulation.specs.declared.partial.Partial.{Partial}
use Rattle.rml_simulation.specs.declared.partial.Partial.TheVariants.{Yes, No, CutOff, GoneWrong}
use Rattle.rml_simulation.specs.Partial.{untraced, after}
use Rattle.rml_simulation.specs.Exact.{Spends, UsesExactly, SpendsWithCalls}
use Rattle.rml_simulation.specs.ExactLaws.{spends_yes, spends_no, spends_wrong, spends_after, spends_step, spends_then, spends_else, spends_unless, calls_spend}
use Rattle.rml_value.specs.declared.value.Value.{Value}
use Rattle.rml_builtin.specs.declared.applied.Answer.{Answer}
use Rattle.rml_resolved.specs.declared.program.Program.{Program}
use Rattle.rml_search.specs.Context.{Context}
use Rattle.rml_builtin.specs.Called.{Called}
use Rattle.rml_terms.specs.Calling.{RelationCalls, trace_of_built_in}
use Rattle.rml_terms.specs.Running.{argument}
use Rattle.rml_search.specs.Search.{step_trace, weighted_step, Rules, relation_body, relations, search_in}
use Rattle.rml_search.specs.Whole.{context_of, rules_of}
use Rattle.rml_search.specs.Walk.{EachWay, body_walk}
use Rattle.rml_search.specs.Weights.{WeighsSteps}
use Rattle.rml_search.specs.Runs.{main_called, run_from, run_of, runs_of}
use Rattle.rml_search.proofs.Depth.{steps_to_call}
use Rattle.rml_search.proofs.Weighing.{main_weighs}

spends_weighed : {A : Type 0} (weight k n : ℕ) (go next : ℕ → Partial A) → ((m : ℕ) → Spends k m (go m) (next (m - k)))
    → Spends k n (weighted_step weight go n) (weighted_step weight next (n - k))
spends_weighed weight k n go next each =
    spends_step k n (λ m. after (step_trace weight) (go m)) (λ m. after (step_trace weight) (next m)) (λ m. spends_after k m (step_trace weight) (go m) (next (m - k)) (each m))

spends_each_way : (c : Context) (k : ℕ) (f g : RelationCalls) → ((r : ℕ) (s : Called) (m : ℕ) → Spends k m (f r s m) (g r s (m - k)))
    → EachWay c (λ n. n - k) f g (λ A n w v. Spends k n w v)
spends_each_way c k f g spend = record {
  answers = λ A a n. spends_yes k n a untraced;
  fails = λ A n. spends_no k n untraced;
  goes_wrong = λ A n. spends_wrong k n untraced;
  by_built_in = λ A n number vs t w v h. spends_after k n (trace_of_built_in number vs t) w v h;
  by_step = λ A n go next each. spends_weighed c.step_weight k n go next each;
  by_call = λ r s n. spends_weighed c.step_weight k n (f r s) (g r s) (spend r s);
  on_answer = λ A C n w v go next h each. spends_then k n w v go next h each;
  on_failure = λ A n w v go next h each. spends_else k n w v go next h each;
  on_failure_alone = λ A C n w v go next h each. spends_unless k n w v go next h each;
}

spends_body : (c : Context) (rules : Rules) → SpendsWithCalls (relation_body c rules)
spends_body c rules = record {
  at = λ k f g spend r s m. body_walk c (λ n. n - k) f g (λ A n w v. Spends k n w v) (spends_each_way c k f g spend) rules r s m;
}

pub search_spends : (c : Context) (rules : Rules) (r : ℕ) (vs : List Value) → UsesExactly (search_in c rules r vs)
search_spends c rules r vs =
    let s : Called = record { values = vs; store = [] } in
    record {
      at = λ k n. spends_weighed c.step_weight k n (relations c rules r s) (relations c rules r s)
          (λ m. (calls_spend (relation_body c rules) (steps_to_call c rules) (spends_body c rules) r s).at k m);
    }

-- ---- at the step at which a run ends

-- what a caller sees of a call of `main` that went so
abbrev observed : Partial Answer → Observed
observed w = record { outcome = seen (run_from w).outcome; text = (run_from w).text }

-- with a step left, it had ended a step before
none_left : (w v : Partial Answer) (n l : ℕ) → Spends 1 n w v → 1 ≤ n → 1 ≤ l → ((observed v).outcome ≡ outcome.Cut) → (a : Answer) (t : Trace) → (w ≡ Yes a t l → ⊥) × (w ≡ No t l → ⊥)
none_left w v n l h some more cut a t = (
  (λ e. let g : Spends 1 n (Yes a t l) v = subst (λ (x : Partial Answer). Spends 1 n x v) e h in
      let is : v ≡ Yes a t (l - 1) = (g.fewer some).0 more in
      let ended : (observed (Yes a t (l - 1))).outcome ≡ outcome.Cut = subst (λ (x : Partial Answer). (observed x).outcome ≡ outcome.Cut) is cut in cc),
  (λ e. let g : Spends 1 n (No t l) v = subst (λ (x : Partial Answer). Spends 1 n x v) e h in
      let is : v ≡ No t (l - 1) = (g.fewer some).0 more in
      let ended : (observed (No t (l - 1))).outcome ≡ outcome.Cut = subst (λ (x : Partial Answer). (observed x).outcome ≡ outcome.Cut) is cut in cc),
)

all_taken : (k n steps l weighed : ℕ) → steps + l ≡ n → weighed ≡ k * steps → (1 ≤ l → ⊥) → weighed + 0 ≡ k * n
all_taken k n steps zero weighed took weighs none = let e : steps ≡ n = omega arith in omega (arith, weighs, ap (λ (m : ℕ). k * m) e)
all_taken k n steps (suc l) weighed took weighs none = absurd (none (omega arith))

weighs_at_end : (k n : ℕ) (w : Partial Answer) (part : ℕ → Partial Answer) → part n ≡ w → UsesExactly part → WeighsSteps k n w
    → ((observed w).outcome ≢ outcome.Cut) → ((m : ℕ) → m < n → (observed (part m)).outcome ≡ outcome.Cut) → (run_from w).outcome ≢ Wrong → (run_from w).weighed ≡ k * n
weighs_at_end k n (Yes a t l) part is exact h ended before right =
    let took : h.steps + l ≡ n = h.took in
    all_taken k n h.steps l t.weighed took h.weighs
    (λ more. (none_left (part n) (part (n - 1)) n l (exact.at 1 n) (omega arith) more (before (n - 1) (omega arith)) a t).0 is)
weighs_at_end k n (No t l) part is exact h ended before right =
    let took : h.steps + l ≡ n = h.took in
    all_taken k n h.steps l t.weighed took h.weighs
    (λ more. (none_left (part n) (part (n - 1)) n l (exact.at 1 n) (omega arith) more (before (n - 1) (omega arith)) (record { values = []; store = [] }) t).1 is)
weighs_at_end k n (CutOff t) part is exact h ended before right = absurd (ended refl)
weighs_at_end k n (GoneWrong t) part is exact h ended before right = absurd (right refl)

pub ends_weigh : (p : Program) (args : List (List ℕ)) (cells n : ℕ) → EndsAt (goes (runs_of p) args cells) n → (run_of p args n).outcome ≢ Wrong
    → (run_of p args n).weighed ≡ (context_of p).step_weight * n
ends_weigh p args cells n ends right =
    weighs_at_end (context_of p).step_weight n (main_called p args n) (main_called p args) refl
    (search_spends (context_of p) (rules_of p.rels) p.main (argument args ∷ [])) (main_weighs p args n) ends.ended ends.before right
