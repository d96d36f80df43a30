-- A search weighs as much as the steps that it takes.
use Rattle.std.proofs.Common.{◌≡◌, ℕ, zero, suc, ◌+◌, ◌*◌, ◌<◌, ◌≤◌, List, [], ◌∷◌, refl, sym, subst, arith}
use Rattle.rml_simulation.specs.declared.partial.Trace.{Trace}
use Rattle.rml_simulation.specs.declared.partial.Partial.{Partial}
use Rattle.rml_simulation.specs.declared.partial.Partial.TheVariants.{Yes, No, CutOff, GoneWrong}
use Rattle.rml_simulation.specs.Partial.{untraced, after, then_go, or_else, unless}
use Rattle.rml_value.specs.declared.value.Value.{Value}
use Rattle.rml_builtin.specs.declared.applied.Answer.{Answer}
use Rattle.rml_resolved.specs.declared.program.Program.{Program}
use Rattle.rml_search.specs.Context.{Context}
use Rattle.rml_builtin.specs.Called.{Called}
use Rattle.rml_terms.specs.Calling.{RelationCalls, trace_of_built_in}
use Rattle.rml_terms.specs.Running.{argument}
use Rattle.rml_search.specs.Search.{step_trace, weighted_step, Rules, relations, search_in}
use Rattle.rml_search.specs.Whole.{context_of, rules_of}
use Rattle.rml_search.specs.Walk.{EachWay, body_walk}
use Rattle.rml_search.specs.Runs.{main_called, run_from, run_of}
use Rattle.rml_search.specs.Weights.{WeighsSteps, RunWeighsSteps}
use Rattle.rml_search.proofs.Depth.{calls_unroll}

weights_add : (k i j a b : ℕ) → a ≡ k * i → b ≡ k * j → a + b ≡ k * (i + j)
weights_add k i j a b e q = omega (arith, e, q)

module _ (k : ℕ) where
  weighs_after : {A : Type 0} (i m n : ℕ) (t : Trace) (w : Partial A) → t.weighed ≡ k * i → i + m ≡ n → WeighsSteps k m w → WeighsSteps k n (after t w)
  weighs_after i m n t (Yes a u l) e q h =
      let took : h.steps + l ≡ m = h.took in record { steps = i + h.steps; took = omega arith; weighs = weights_add k i h.steps t.weighed u.weighed e h.weighs }
  weighs_after i m n t (No u l) e q h =
      let took : h.steps + l ≡ m = h.took in record { steps = i + h.steps; took = omega arith; weighs = weights_add k i h.steps t.weighed u.weighed e h.weighs }
  weighs_after i m n t (CutOff u) e q h =
      let took : h.steps ≡ m = h.took in record { steps = i + h.steps; took = omega arith; weighs = weights_add k i h.steps t.weighed u.weighed e h.weighs }
  weighs_after i m n t (GoneWrong u) e q h =
      let took : h.steps ≤ m = h.took in record { steps = i + h.steps; took = omega arith; weighs = weights_add k i h.steps t.weighed u.weighed e h.weighs }

  weighs_none : (t : Trace) → t.weighed ≡ 0 → t.weighed ≡ k * 0
  weighs_none t e = omega arith

  weighs_then : {A C : Type 0} (n : ℕ) (w : Partial A) (go : A → ℕ → Partial C) → WeighsSteps k n w → ((a : A) (m : ℕ) → m ≤ n → WeighsSteps k m (go a m)) → WeighsSteps k n (then_go w go)
  weighs_then n (Yes a t m) go h each =
      let took : h.steps + m ≡ n = h.took in weighs_after h.steps m n t (go a m) h.weighs took (each a m (omega arith))
  weighs_then n (No t m) go h each = record { steps = h.steps; took = h.took; weighs = h.weighs }
  weighs_then n (CutOff t) go h each = record { steps = h.steps; took = h.took; weighs = h.weighs }
  weighs_then n (GoneWrong t) go h each = record { steps = h.steps; took = h.took; weighs = h.weighs }

  weighs_else : {A : Type 0} (n : ℕ) (w : Partial A) (go : ℕ → Partial A) → WeighsSteps k n w → ((m : ℕ) → m ≤ n → WeighsSteps k m (go m)) → WeighsSteps k n (or_else w go)
  weighs_else n (Yes a t m) go h each = h
  weighs_else n (No t m) go h each =
      let took : h.steps + m ≡ n = h.took in weighs_after h.steps m n t (go m) h.weighs took (each m (omega arith))
  weighs_else n (CutOff t) go h each = h
  weighs_else n (GoneWrong t) go h each = h

  weighs_unless : {A C : Type 0} (n : ℕ) (w : Partial A) (go : ℕ → Partial C) → WeighsSteps k n w → ((m : ℕ) → m ≤ n → WeighsSteps k m (go m)) → WeighsSteps k n (unless w go)
  weighs_unless n (Yes a t m) go h each = record { steps = h.steps; took = h.took; weighs = h.weighs }
  weighs_unless n (No t m) go h each =
      let took : h.steps + m ≡ n = h.took in weighs_after h.steps m n t (go m) h.weighs took (each m (omega arith))
  weighs_unless n (CutOff t) go h each = record { steps = h.steps; took = h.took; weighs = h.weighs }
  weighs_unless n (GoneWrong t) go h each = record { steps = h.steps; took = h.took; weighs = h.weighs }

weighs_step : {A : Type 0} (k n : ℕ) (go : ℕ → Partial A) → ((m : ℕ) → m < n → WeighsSteps k m (go m)) → WeighsSteps k n (weighted_step k go n)
weighs_step k zero go each = record { steps = 0; took = refl; weighs = weighs_none k untraced refl }
weighs_step k (suc n) go each = weighs_after k 1 n (suc n) (step_trace k) (go n) (omega arith) (omega arith) (each n (omega arith))

weighs_each_way : (c : Context) (b : ℕ) (f : RelationCalls) → ((r : ℕ) (s : Called) (m : ℕ) → m < b → WeighsSteps c.step_weight m (f r s m))
    → EachWay c (λ n. n) f f (λ A n w v. n ≤ b → WeighsSteps c.step_weight n w)
weighs_each_way c b f weigh =
    let k = c.step_weight in
    record {
      answers = λ A a n le. record { steps = 0; took = omega arith; weighs = weighs_none k untraced refl };
      fails = λ A n le. record { steps = 0; took = omega arith; weighs = weighs_none k untraced refl };
      goes_wrong = λ A n le. record { steps = 0; took = omega arith; weighs = weighs_none k untraced refl };
      by_built_in = λ A n number vs t w v h le. weighs_after k 0 n n (trace_of_built_in number vs t) w (weighs_none k (trace_of_built_in number vs t) refl) (omega arith) (h le);
      by_step = λ A n go next each le. weighs_step k n go (λ m less. each m (omega arith));
      by_call = λ r s n le. weighs_step k n (f r s) (λ m less. weigh r s m (omega arith));
      on_answer = λ A C n w v go next h each le. weighs_then k n w go (h le) (λ a m less. each a m (omega arith));
      on_failure = λ A n w v go next h each le. weighs_else k n w go (h le) (λ m less. each m (omega arith));
      on_failure_alone = λ A C n w v go next h each le. weighs_unless k n w go (h le) (λ m less. each m (omega arith));
    }

module _ (c : Context) (rules : Rules) where
  -- by the steps: a call's own calls have fewer
  relations_weigh : (b r : ℕ) (s : Called) (n : ℕ) → n < b → WeighsSteps c.step_weight n (relations c rules r s n)
  relations_weigh zero r s n less = absurd (omega arith)
  relations_weigh (suc b) r s n less =
      subst (λ (w : Partial Answer). WeighsSteps c.step_weight n w) (sym (calls_unroll c rules r s n))
      (body_walk c (λ m. m) (relations c rules) (relations c rules) (λ A m w v. m ≤ b → WeighsSteps c.step_weight m w) (weighs_each_way c b (relations c rules) (relations_weigh b)) rules r s n (omega arith))

  pub search_weighs : (r : ℕ) (vs : List Value) (n : ℕ) → WeighsSteps c.step_weight n (search_in c rules r vs n)
  search_weighs r vs n =
      let s : Called = record { values = vs; store = [] } in
      weighs_step c.step_weight n (relations c rules r s) (λ m less. relations_weigh (suc m) r s m (omega arith))

run_weighs : (k n : ℕ) (w : Partial Answer) → WeighsSteps k n w → RunWeighsSteps k n (run_from w)
run_weighs k n (Yes a t m) h =
    let took : h.steps + m ≡ n = h.took in record { steps = h.steps; within = omega arith; cut = λ e. absurd (cc); weighs = (let e : t.weighed ≡ k * h.steps = h.weighs in omega arith) }
run_weighs k n (No t m) h =
    let took : h.steps + m ≡ n = h.took in record { steps = h.steps; within = omega arith; cut = λ e. absurd (cc); weighs = (let e : t.weighed ≡ k * h.steps = h.weighs in omega arith) }
run_weighs k n (CutOff t) h =
    let took : h.steps ≡ n = h.took in record { steps = h.steps; within = omega arith; cut = λ e. took; weighs = h.weighs }
run_weighs k n (GoneWrong t) h =
    let took : h.steps ≤ n = h.took in record { steps = h.steps; within = took; cut = λ e. absurd (cc); weighs = h.weighs }

pub main_weighs : (p : Program) (args : List (List ℕ)) (n : ℕ) → WeighsSteps (context_of p).step_weight n (main_called p args n)
main_weighs p args n = search_weighs (context_of p) (rules_of p.rels) p.main (argument args ∷ []) n

pub runs_weigh : (p : Program) (args : List (List ℕ)) (n : ℕ) → RunWeighsSteps (context_of p).step_weight n (run_of p args n)
runs_weigh p args n = run_weighs (context_of p).step_weight n (main_called p args n) (main_weighs p args n)
