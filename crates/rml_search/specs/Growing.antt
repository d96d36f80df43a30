-- The search with more steps: an end stays, and a trace only grows.
use Rattle.std.specs.Prelude.{ℕ, suc, ◌+◌, List, [], ◌∷◌}
use Rattle.std.proofs.Common.{refl, arith}
use Rattle.rml_base.specs.Run.{Answer as Answered, Failure, bare}
use Rattle.rml_base.specs.Monotone.{IsMonotone}
use Rattle.rml_base.specs.MonotoneLaws.{longer_is_monotone, longer_always}
use Rattle.rml_simulation.specs.declared.partial.Partial.{Partial}
use Rattle.rml_simulation.specs.Partial.{after}
use Rattle.rml_simulation.specs.Growing.{Grows}
use Rattle.rml_simulation.specs.GrowingLaws.{grows_after, grows_step, grows_then, grows_else, grows_unless, grows_followed}
use Rattle.rml_simulation.specs.Calls.{GrowsWithCalls}
use Rattle.rml_simulation.specs.CallsLaws.{calls_grow}
use Rattle.rml_value.specs.declared.value.Value.{Value}
use Rattle.rml_resolved.specs.declared.program.Program.{Program}
use Rattle.rml_search.specs.Context.{Context}
use Rattle.rml_builtin.specs.Called.{Called}
use Rattle.rml_terms.specs.Calling.{RelationCalls, trace_of_built_in}
use Rattle.rml_terms.specs.Running.{integer_in, argument}
use Rattle.rml_search.specs.Search.{step_trace, weighted_step, Rules, relation_body, search_in}
use Rattle.rml_search.specs.Whole.{context_of, rules_of}
use Rattle.rml_search.specs.Walk.{EachWay, body_walk}
use Rattle.rml_search.specs.Runs.{main_called, runs_of}

grows_weighed : {A : Type 0} (weight j n : ℕ) (go next : ℕ → Partial A) → ((m : ℕ) → Grows j (go m) (next (m + j)))
    → Grows j (weighted_step weight go n) (weighted_step weight next (n + j))
grows_weighed weight j n go next each =
    grows_step j n (λ m. after (step_trace weight) (go m)) (λ m. after (step_trace weight) (next m)) (λ m. grows_after j (step_trace weight) (go m) (next (m + j)) (each m))

grows_each_way : (c : Context) (j : ℕ) (f g : RelationCalls) → ((r : ℕ) (s : Called) (m : ℕ) → Grows j (f r s m) (g r s (m + j)))
    → EachWay c (λ n. n + j) f g (λ A n w v. Grows j w v)
grows_each_way c j f g grow = record {
  answers = λ A a n. refl;
  fails = λ A n. refl;
  goes_wrong = λ A n. refl;
  by_built_in = λ A n number vs t w v h. grows_after j (trace_of_built_in number vs t) w v h;
  by_step = λ A n go next each. grows_weighed c.step_weight j n go next each;
  by_call = λ r s n. grows_weighed c.step_weight j n (f r s) (g r s) (grow r s);
  on_answer = λ A C n w v go next h each. grows_then j w v go next h each;
  on_failure = λ A n w v go next h each. grows_else j w v go next h each;
  on_failure_alone = λ A C n w v go next h each. grows_unless j w v go next h each;
}

grows_body : (c : Context) (rules : Rules) → GrowsWithCalls (relation_body c rules)
grows_body c rules = record {
  at = λ j f g grow r s m. body_walk c (λ n. n + j) f g (λ A n w v. Grows j w v) (grows_each_way c j f g grow) rules r s m;
}

pub search_grows : (c : Context) (rules : Rules) (j r : ℕ) (vs : List Value) (n : ℕ) → Grows j (search_in c rules r vs n) (search_in c rules r vs (n + j))
search_grows c rules j r vs n =
    grows_weighed c.step_weight j n _ _
    (λ m. calls_grow (relation_body c rules) (grows_body c rules) j (suc m) (suc (m + j)) (omega arith) r (record { values = vs; store = [] }) m)

pub runs_are_monotone : (p : Program) (args : List (List ℕ)) (cells : ℕ) → IsMonotone (runs_of p args cells)
runs_are_monotone p args cells =
    longer_is_monotone (runs_of p args cells) (λ j. record {
      at = λ n. grows_followed j (main_called p args n) (main_called p args (n + j)) _ _ _ _ (search_grows (context_of p) (rules_of p.rels) j p.main (argument args ∷ []) n)
          (λ a. longer_always j (bare (Answered (integer_in a.values)))) (longer_always j (bare Failure));
    })
