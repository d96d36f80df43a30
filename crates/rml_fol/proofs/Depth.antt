-- A relation looks at its calls with fewer steps alone, and leaves no more than it got. So a depth of calls that is more than the steps
-- changes nothing, and calls unroll.
use Rattle.std.proofs.Common.{◌≡◌, ℕ, ◌+◌, ◌<◌, ◌≤◌, List, refl, arith}
use Rattle.rml_simulation.specs.Alike.{Alike}
use Rattle.rml_simulation.specs.AlikeLaws.{alike_more, alike_after, alike_step, alike_then, alike_else, alike_unless, alike_either}
use Rattle.rml_simulation.specs.Calls.{AlikeCalls, StepsToCall}
use Rattle.rml_simulation.specs.CallsLaws.{deep_calls, unroll_calls}
use Rattle.rml_builtin.specs.Called.{Called}
use Rattle.rml_terms.specs.Calling.{RelationCalls}
use Rattle.rml_fol.specs.declared.parts.Relation.{Relation}
use Rattle.rml_fol.specs.Expressions.{Vals}
use Rattle.rml_fol.specs.Relations.{relation_body, relations, relations_to}
use Rattle.rml_fol.specs.Ways.{EachWay, relation_walk}

alike_each_way : (b : ℕ) (f g : RelationCalls) → AlikeCalls b f g → EachWay (λ n. n) f g (λ A n w v. n ≤ b → Alike n w v)
alike_each_way b f g alike = record {
  answers = λ A a n le. (refl, omega arith);
  fails = λ A n le. (refl, omega arith);
  goes_wrong = λ A n le. (refl, tt);
  by_trace = λ A n t w v h le. alike_after n t w v (h le);
  by_step = λ A n go next each le. alike_step n n go next (λ m less. alike_more m n (go m) (next m) (omega arith) (each m (omega arith)));
  by_call = λ r s n le. alike_step n n (f r s) (g r s) (λ m less. alike_more m n (f r s m) (g r s m) (omega arith) (alike r s m (omega arith)));
  on_answer = λ A C n w v go next h each le. alike_then n w v go next (h le) (λ a m less. alike_more m n (go a m) (next a m) less (each a m (omega arith)));
  on_failure = λ A n w v go next h each le. alike_else n w v go next (h le) (λ m less. alike_more m n (go m) (next m) less (each m (omega arith)));
  on_failure_alone = λ A C n w v go next h each le. alike_unless n w v go next (h le) (λ m less. alike_more m n (go m) (next m) less (each m (omega arith)));
  on_either = λ A C n w v go next other last h each each' le. alike_either n w v go next other last (h le)
      (λ a m less. alike_more m n (go a m) (next a m) less (each a m (omega arith))) (λ m less. alike_more m n (other m) (last m) less (each' m (omega arith)));
}

pub steps_to_call : (vals : Vals) (rels : List Relation) → StepsToCall (relation_body vals rels)
steps_to_call vals rels = record {
  at = λ n f g alike r s. relation_walk vals rels (λ m. m) f g (λ A m w v. m ≤ n → Alike m w v) (alike_each_way n f g alike) r s n (omega arith);
}

pub depth_is_no_bound : (vals : Vals) (rels : List Relation) (depth more r : ℕ) (s : Called) (n : ℕ) → n < depth
    → relations_to vals rels depth r s n ≡ relations_to vals rels (depth + more) r s n
depth_is_no_bound vals rels depth more r s n h =
    (deep_calls (relation_body vals rels) (steps_to_call vals rels) depth (depth + more) depth (omega arith) (omega arith) r s n h).0

pub calls_unroll : (vals : Vals) (rels : List Relation) (r : ℕ) (s : Called) (n : ℕ) → relations vals rels r s n ≡ relation_body vals rels (relations vals rels) r s n
calls_unroll vals rels = unroll_calls (relation_body vals rels) (steps_to_call vals rels)
