-- A relation looks at its calls with fewer steps alone, and leaves no more than it got. So a depth of calls that is more
-- than the steps changes nothing, and calls unroll.
use Rattle.std.proofs.Common.{◌≡◌, ℕ, ◌+◌, ◌<◌, ◌≤◌, refl, arith}
use Rattle.rml_simulation.specs.declared.partial.Partial.{Partial}
use Rattle.rml_simulation.specs.Partial.{after}
use Rattle.rml_simulation.specs.Alike.{Alike}
use Rattle.rml_simulation.specs.AlikeLaws.{alike_more, alike_after, alike_step, alike_then, alike_else, alike_unless}
use Rattle.rml_simulation.specs.Calls.{AlikeCalls, StepsToCall}
use Rattle.rml_simulation.specs.CallsLaws.{deep_calls, unroll_calls}
use Rattle.rml_search.specs.Context.{Context}
use Rattle.rml_builtin.specs.Called.{Called}
use Rattle.rml_terms.specs.Calling.{RelationCalls, trace_of_built_in}
use Rattle.rml_search.specs.Search.{step_trace, weighted_step, Rules, relation_body, relations_to, relations}
use Rattle.rml_search.specs.Walk.{EachWay, body_walk}

alike_weighed : {A : Type 0} (weight b n : ℕ) (go next : ℕ → Partial A) → ((m : ℕ) → m < n → Alike b (go m) (next m))
    → Alike b (weighted_step weight go n) (weighted_step weight next n)
alike_weighed weight b n go next each =
    alike_step b n (λ m. after (step_trace weight) (go m)) (λ m. after (step_trace weight) (next m)) (λ m less. alike_after b (step_trace weight) (go m) (next m) (each m less))

alike_each_way : (c : Context) (b : ℕ) (f g : RelationCalls) → AlikeCalls b f g → EachWay c (λ n. n) f g (λ A n w v. n ≤ b → Alike n w v)
alike_each_way c b f g alike = record {
  answers = λ A a n le. (refl, omega arith);
  fails = λ A n le. (refl, omega arith);
  goes_wrong = λ A n le. (refl, tt);
  by_built_in = λ A n number vs t w v h le. alike_after n (trace_of_built_in number vs t) w v (h le);
  by_step = λ A n go next each le. alike_weighed c.step_weight n n go next (λ m less. alike_more m n (go m) (next m) (omega arith) (each m (omega arith)));
  by_call = λ r s n le. alike_weighed c.step_weight n n (f r s) (g r s) (λ m less. alike_more m n (f r s m) (g r s m) (omega arith) (alike r s m (omega arith)));
  on_answer = λ A C n w v go next h each le. alike_then n w v go next (h le) (λ a m less. alike_more m n (go a m) (next a m) less (each a m (omega arith)));
  on_failure = λ A n w v go next h each le. alike_else n w v go next (h le) (λ m less. alike_more m n (go m) (next m) less (each m (omega arith)));
  on_failure_alone = λ A C n w v go next h each le. alike_unless n w v go next (h le) (λ m less. alike_more m n (go m) (next m) less (each m (omega arith)));
}

pub steps_to_call : (c : Context) (rules : Rules) → StepsToCall (relation_body c rules)
steps_to_call c rules = record {
  at = λ n f g alike r s. body_walk c (λ m. m) f g (λ A m w v. m ≤ n → Alike m w v) (alike_each_way c n f g alike) rules r s n (omega arith);
}

pub depth_is_no_bound : (c : Context) (rules : Rules) (depth more r : ℕ) (s : Called) (n : ℕ) → n < depth
    → relations_to c rules depth r s n ≡ relations_to c rules (depth + more) r s n
depth_is_no_bound c rules depth more r s n h =
    (deep_calls (relation_body c rules) (steps_to_call c rules) depth (depth + more) depth (omega arith) (omega arith) r s n h).0

pub calls_unroll : (c : Context) (rules : Rules) (r : ℕ) (s : Called) (n : ℕ) → relations c rules r s n ≡ relation_body c rules (relations c rules) r s n
calls_unroll c rules = unroll_calls (relation_body c rules) (steps_to_call c rules)
