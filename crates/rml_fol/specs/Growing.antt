-- Clause form with more steps: an end stays, and a trace only grows.
use Rattle.std.specs.Prelude.{ℕ, suc, ◌+◌, List}
use Rattle.std.proofs.Common.{refl, arith}
use Rattle.rml_base.specs.Run.{Answer as Answered, Failure, bare}
use Rattle.rml_base.specs.Monotone.{IsMonotone}
use Rattle.rml_base.specs.MonotoneLaws.{longer_is_monotone, longer_always, longer_step}
use Rattle.rml_simulation.specs.Growing.{Grows}
use Rattle.rml_simulation.specs.GrowingLaws.{grows_after, grows_step, grows_then, grows_else, grows_unless, grows_either, grows_followed}
use Rattle.rml_simulation.specs.Calls.{GrowsWithCalls}
use Rattle.rml_simulation.specs.CallsLaws.{calls_grow}
use Rattle.rml_builtin.specs.Called.{Called}
use Rattle.rml_terms.specs.Calling.{RelationCalls}
use Rattle.rml_terms.specs.Running.{opening, integer_in}
use Rattle.rml_fol.specs.declared.parts.Parts.{Parts}
use Rattle.rml_fol.specs.declared.parts.Relation.{Relation}
use Rattle.rml_fol.specs.Expressions.{Vals, values_of_vals}
use Rattle.rml_fol.specs.Relations.{relation_body}
use Rattle.rml_fol.specs.Runs.{main_called, runs_of}
use Rattle.rml_fol.specs.Ways.{EachWay, relation_walk}

grows_each_way : (j : ℕ) (f g : RelationCalls) → ((r : ℕ) (s : Called) (m : ℕ) → Grows j (f r s m) (g r s (m + j))) → EachWay (λ n. n + j) f g (λ A n w v. Grows j w v)
grows_each_way j f g grow = record {
  answers = λ A a n. refl;
  fails = λ A n. refl;
  goes_wrong = λ A n. refl;
  by_trace = λ A n t w v h. grows_after j t w v h;
  by_step = λ A n go next each. grows_step j n go next each;
  by_call = λ r s n. grows_step j n (f r s) (g r s) (grow r s);
  on_answer = λ A C n w v go next h each. grows_then j w v go next h each;
  on_failure = λ A n w v go next h each. grows_else j w v go next h each;
  on_failure_alone = λ A C n w v go next h each. grows_unless j w v go next h each;
  on_either = λ A C n w v go next other last h each each'. grows_either j w v go next other last h each each';
}

pub body_grows : (vals : Vals) (rels : List Relation) → GrowsWithCalls (relation_body vals rels)
body_grows vals rels = record { at = λ j f g grow r s m. relation_walk vals rels (λ n. n + j) f g (λ A n w v. Grows j w v) (grows_each_way j f g grow) r s m }

pub main_grows : (vals : Vals) (rels : List Relation) (main : ℕ) (args : List (List ℕ)) (j n : ℕ) → Grows j (main_called vals rels main args n) (main_called vals rels main args (n + j))
main_grows vals rels main args j n =
    grows_step j n _ _ (λ m. calls_grow (relation_body vals rels) (body_grows vals rels) j (suc m) (suc (m + j)) (omega arith) main (opening args) m)

pub runs_are_monotone : (p : Parts) (args : List (List ℕ)) (cells : ℕ) → IsMonotone (runs_of p args cells)
runs_are_monotone p args cells =
    longer_is_monotone (runs_of p args cells) (λ j. record {
      at = λ n. grows_followed j (main_called (values_of_vals p.vals) p.rels p.main args n) (main_called (values_of_vals p.vals) p.rels p.main args (n + j)) _ _ _ _
          (main_grows (values_of_vals p.vals) p.rels p.main args j n)
          (λ a. longer_always j (bare (Answered (integer_in a.values)))) (longer_step (longer_always j (bare Failure)));
    })
