-- Continuation form with more steps: an end stays, and a trace only grows.
use Rattle.std.specs.Prelude.{ℕ, suc, ◌+◌, List}
use Rattle.std.proofs.Common.{arith}
use Rattle.rml_base.specs.Run.{Rest, Wrong, bare}
use Rattle.rml_base.specs.Monotone.{IsMonotone, Longer}
use Rattle.rml_base.specs.MonotoneLaws.{later_prepend, later_make, later_weigh, longer_step, longer_always, longer_is_monotone}
use Rattle.rml_simulation.specs.Acts.{LongerWithActs}
use Rattle.rml_simulation.specs.ActsLaws.{acts_longer}
use Rattle.rml_builtin.specs.declared.applied.Answer.{Answer}
use Rattle.rml_builtin.specs.Called.{Called}
use Rattle.rml_terms.specs.Running.{opening}
use Rattle.rml_fol.specs.Expressions.{Vals, values_of_vals}
use Rattle.rml_cps.specs.declared.parts.Relation.{Relation}
use Rattle.rml_cps.specs.declared.parts.Parts.{Parts}
use Rattle.rml_cps.specs.Statements.{OnAnswer, RelationActs}
use Rattle.rml_cps.specs.Relations.{relation_body}
use Rattle.rml_cps.specs.Runs.{last_success, last_failure, runs_of}
use Rattle.rml_cps.specs.Ways.{EachWay, relation_walk}

longer_each_way : (j : ℕ) (f g : RelationActs)
    → ((r : ℕ) (k l : OnAnswer) (h i : Rest) → ((a : Answer) → Longer j (k a) (l a)) → Longer j h i → (s : Called) → Longer j (f r k h s) (g r l i s))
    → EachWay f g (Longer j) (Longer j)
longer_each_way j f g longer = record {
  goes_wrong = longer_always j (bare Wrong);
  by_trace = λ t a b h. record { at = λ n. later_prepend t.text (later_make t.made (later_weigh t.weighed (h.at n))) };
  by_weight = λ w a b h. record { at = λ n. later_weigh w (h.at n) };
  by_step = λ a b h. longer_step h;
  by_call = λ r k l h i s ks hs. longer_step (longer r k l h i ks hs s);
  after_step = λ a b h. h;
}

pub body_is_longer : (vals : Vals) (rels : List Relation) → LongerWithActs (relation_body vals rels)
body_is_longer vals rels = record {
  at = λ j f g longer r k l h i ks hs s. relation_walk vals rels f g (Longer j) (Longer j) (longer_each_way j f g longer) r k l h i s ks hs;
}

pub runs_are_monotone : (p : Parts) (args : List (List ℕ)) (cells : ℕ) → IsMonotone (runs_of p args cells)
runs_are_monotone p args cells =
    let vals : Vals = values_of_vals p.vals in
    longer_is_monotone (runs_of p args cells) (λ j. longer_step (record {
      at = λ n. (acts_longer (relation_body vals p.rels) (body_is_longer vals p.rels) j (suc n) (suc (n + j)) (omega arith) p.main last_success last_success last_failure last_failure
          (λ a. longer_always j (last_success a 0)) (longer_always j (last_failure 0)) (opening args)).at n;
    }))
