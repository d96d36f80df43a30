-- Clause form uses its steps exactly.
use Rattle.std.proofs.Common.{ℕ, ◌-◌, List}
use Rattle.rml_simulation.specs.Exact.{Spends, UsesExactly, SpendsWithCalls}
use Rattle.rml_simulation.specs.Partial.{untraced}
use Rattle.rml_simulation.specs.ExactLaws.{spends_yes, spends_no, spends_wrong, spends_after, spends_step, spends_then, spends_else, spends_unless, spends_either, calls_spend}
use Rattle.rml_builtin.specs.Called.{Called}
use Rattle.rml_terms.specs.Calling.{RelationCalls}
use Rattle.rml_fol.specs.declared.parts.Relation.{Relation}
use Rattle.rml_fol.specs.Expressions.{Vals}
use Rattle.rml_fol.specs.Relations.{relation_body, relations}
use Rattle.rml_fol.specs.Ways.{EachWay, relation_walk}
use Rattle.rml_fol.proofs.Depth.{steps_to_call}

spends_each_way : (k : ℕ) (f g : RelationCalls) → ((r : ℕ) (s : Called) (m : ℕ) → Spends k m (f r s m) (g r s (m - k))) → EachWay (λ n. n - k) f g (λ A n w v. Spends k n w v)
spends_each_way k f g spend = record {
  answers = λ A a n. spends_yes k n a untraced;
  fails = λ A n. spends_no k n untraced;
  goes_wrong = λ A n. spends_wrong k n untraced;
  by_trace = λ A n t w v h. spends_after k n t w v h;
  by_step = λ A n go next each. spends_step k n go next each;
  by_call = λ r s n. spends_step k n (f r s) (g r s) (spend r s);
  on_answer = λ A C n w v go next h each. spends_then k n w v go next h each;
  on_failure = λ A n w v go next h each. spends_else k n w v go next h each;
  on_failure_alone = λ A C n w v go next h each. spends_unless k n w v go next h each;
  on_either = λ A C n w v go next other last h each each'. spends_either k n w v go next other last h each each';
}

pub body_spends : (vals : Vals) (rels : List Relation) → SpendsWithCalls (relation_body vals rels)
body_spends vals rels = record {
  at = λ k f g spend r s m. relation_walk vals rels (λ n. n - k) f g (λ A n w v. Spends k n w v) (spends_each_way k f g spend) r s m;
}

pub relations_spend : (vals : Vals) (rels : List Relation) (r : ℕ) (s : Called) → UsesExactly (relations vals rels r s)
relations_spend vals rels r s = calls_spend (relation_body vals rels) (steps_to_call vals rels) (body_spends vals rels) r s
