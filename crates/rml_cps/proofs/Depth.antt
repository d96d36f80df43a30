-- A relation looks at its calls, and at what follows, with fewer steps alone. So calls unroll.
use Rattle.std.proofs.Common.{◌≡◌, ℕ, ◌≤◌, List, refl, ap, arith}
use Rattle.rml_base.specs.Run.{Rest, weigh}
use Rattle.rml_simulation.specs.Partial.{traced}
use Rattle.rml_simulation.specs.Acts.{AlikeRest, AlikeAct, StepsToAct}
use Rattle.rml_simulation.specs.ActsLaws.{step_alike, unroll_acts}
use Rattle.rml_builtin.specs.Called.{Called}
use Rattle.rml_fol.specs.Expressions.{Vals}
use Rattle.rml_cps.specs.declared.parts.Relation.{Relation}
use Rattle.rml_cps.specs.Statements.{OnAnswer, RelationActs}
use Rattle.rml_cps.specs.Relations.{relation_body, relations}
use Rattle.rml_cps.specs.Ways.{EachWay, relation_walk}

-- with at most i steps they are the same
abbrev AlikeTo : ℕ → Rest → Rest → Type 0
AlikeTo i a b = (m : ℕ) → m ≤ i → a m ≡ b m

alike_each_way : (i : ℕ) (f g : RelationActs) → ((r : ℕ) → AlikeAct i (f r) (g r)) → EachWay f g (AlikeTo i) (AlikeRest i)
alike_each_way i f g alike = record {
  goes_wrong = λ m le. refl;
  by_trace = λ t a b h m le. ap (traced t) (h m le);
  by_weight = λ w a b h m le. ap (weigh w) (h m le);
  by_step = λ a b h m le. step_alike i m a b le h;
  by_call = λ r k l h j s ks hs m le. step_alike i m (f r k h s) (g r l j s) le ((alike r).at k l h j ks hs s);
  after_step = λ a b h. record { at = λ m lt. h m (omega arith) };
}

pub steps_to_act : (vals : Vals) (rels : List Relation) → StepsToAct (relation_body vals rels)
steps_to_act vals rels = record {
  at = λ n f g alike r k l h i ks hs s.
      relation_walk vals rels f g (AlikeTo n) (AlikeRest n) (alike_each_way n f g alike) r k l h i s ks hs n (omega arith);
}

pub acts_unroll : (vals : Vals) (rels : List Relation) (r : ℕ) (k : OnAnswer) (h : Rest) (s : Called) (n : ℕ)
    → relations vals rels r k h s n ≡ relation_body vals rels (relations vals rels) r k h s n
acts_unroll vals rels = unroll_acts (relation_body vals rels) (steps_to_act vals rels)
