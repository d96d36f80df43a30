-- Relations, and programs.
use Rattle.std.proofs.Common.{◌≡◌, ℕ, zero, suc, ◌+◌, ◌≤◌, Bool, true, false, List, [], ◌∷◌, length, Option, Some, None, refl, sym, ap, subst, ◌∙◌, arith}
use Rattle.std.specs.Prelude.{◌==◌, if◌then◌else◌, slice_get}
use Rattle.std.proofs.lemmas.Bool.{eqb-true, ne_eqb, ltb-false}
use Rattle.rml_base.specs.Run.{Rest, Wrong, Answer as Answered, Failure, bare, step, weigh}
use Rattle.rml_base.specs.MonotoneLaws.{longer_always, longer_is_monotone}
use Rattle.rml_base.specs.Light.{Light, NoWrong}
use Rattle.rml_simulation.specs.declared.partial.Partial.{Partial}
use Rattle.rml_simulation.specs.declared.partial.Partial.TheVariants.{Yes, No, CutOff, GoneWrong}
use Rattle.rml_simulation.specs.Partial.{untraced, then_go, followed, traced}
use Rattle.rml_simulation.specs.Carries.{SimulatesAct, kept, acted_before, CarriesTold}
use Rattle.rml_simulation.specs.Simulates.{Credit, nothing, Simulates}
use Rattle.rml_simulation.specs.Moves.{more_weighed}
use Rattle.rml_simulation.proofs.Callers.{both_step_here, equal, followed_after, followed_step, itself, light, old_wrong, told_simulate, traced_none, weaken}
use Rattle.rml_value.specs.declared.value.Value.{Value}
use Rattle.rml_builtin.specs.declared.applied.Answer.{Answer}
use Rattle.rml_terms.specs.Env.{look}
use Rattle.rml_terms.specs.Running.{opening, integer_in}
use Rattle.rml_fol.specs.declared.parts.Relation as clause_relation
use Rattle.rml_fol.specs.declared.parts.Parts as clause_parts
use Rattle.rml_fol.specs.Expressions.{Vals, values_of_vals}
use Rattle.rml_fol.specs.Weights as clause
use Rattle.rml_fol.specs.Statements as clauses
use Rattle.rml_fol.specs.Statements.{Given, no_bodies, weighing}
use Rattle.rml_fol.specs.Relations as clause_relations
use Rattle.rml_fol.specs.Relations.{bound_from, answered}
use Rattle.rml_fol.specs.Runs as clause_runs
use Rattle.rml_fol.proofs.Callers as clause_laws
use Rattle.rml_cps.specs.declared.statements.Continuation.TheVariants as continuation
use Rattle.rml_cps.specs.declared.parts.Relation.{Relation}
use Rattle.rml_cps.specs.declared.parts.Parts.{Parts}
use Rattle.rml_cps.specs.Weights as cps
use Rattle.rml_cps.specs.Statements.{OnAnswer, own, block}
use Rattle.rml_cps.specs.Relations.{does_if_there, relation_body, relations}
use Rattle.rml_cps.specs.Runs.{last_success, last_failure, runs_of}
use Rattle.rml_cps.proofs.Callers.{steps_to_act}
use Rattle.rml_tocps.specs.Carries.{told, done, Agrees}
use Rattle.rml_tocps.specs.Blocks.{BlockCarries, first_taken, RelationCarries, BothCarry, AreCarried}
use Rattle.rml_tocps.proofs.Moves.{both_weights}

-- ---- where a relation begins

none_but : (t : Bool) (u : Value) (o : Option Value) → t ≡ false → o ≡ None → (if t then Some u else o) ≡ None
none_but true u o e h = absurd (cc)
none_but false u o e h = h

bound_below : (k : ℕ) (vs : List Value) (x : ℕ) → k + length vs ≤ x → look x (bound_from k vs) ≡ None
bound_below k [] x le = refl
bound_below k (v ∷ vs) x le = none_but (x == k) v (look x (bound_from (suc k) vs)) (ne_eqb x k (λ e. absurd (omega (arith, e)))) (bound_below (suc k) vs x (omega arith))

begins : (params : ℕ) (vs : List Value) → params ≡ length vs → Agrees (first_taken params) [] (bound_from 0 vs) (bound_from 0 vs)
begins params vs e = record {
  keeps = λ x v h. absurd (cc);
  looks = λ x v h. h;
  new = λ x fresh. let le : params ≤ x = ltb-false x params fresh in bound_below 0 vs x (omega arith);
}

-- what a block gives is the answer of its relation
told_block : (w : Partial Given) (k : OnAnswer) (f : Rest) → followed w (done k) f ≡ followed (then_go w answered) k f
told_block (Yes g t n) k f = sym (followed_after t (answered g n) k f ∙ ap (traced t) (one_step n))
  where
    one_step : (m : ℕ) → followed (answered g m) k f ≡ done k g m
    one_step zero = refl
    one_step (suc m) = traced_none _
told_block (No t n) k f = refl
told_block (CutOff t) k f = refl
told_block (GoneWrong t) k f = refl

-- a relation whose block carries, with what an entry spares
pub relation_carries : (vals : Vals) (old : clause_relation.Relation) (new : Relation) (s : ℕ) → new.params ≡ old.params → cps.entry_weight 0 + s ≤ clause.entry_weight 0
    → BlockCarries continuation.Own s (first_taken old.params) (λ vals olds. clauses.block vals olds old.body.stmts) (λ vals news. block vals news new.body.stmts)
    → RelationCarries vals old new
relation_carries vals old new s same enough carries = record {
  by = λ i olds news below.
      record {
        at = λ j c k k' h h' ij answers fails called.
            let w : ℕ → Partial Given = λ n. clauses.block vals olds old.body.stmts no_bodies (bound_from 0 called.values) called.store n in
            let g : Rest = block vals news new.body.stmts (own k' h') (bound_from 0 called.values) called.store in
            subst (λ (params : ℕ). Simulates j c (λ n. followed (clause_relations.relation_does vals olds old called n) k (step h)) (λ n. if params == length called.values then weigh (cps.entry_weight params) (g n) else bare Wrong)) (sym same)
            (in_case (old.params == length called.values) j c (λ n. then_go (w n) answered) g k h old.params
            (λ e. lighter j c _ _ (both_weights j c k (step h) 0 (clause.entry_weight old.params) s (cps.entry_weight old.params) (λ n. then_go (w n) answered) g (omega arith)
            (equal j (more_weighed s c) (λ n. followed (w n) (done k) (step h)) _ g g (λ n. told_block (w n) k (step h)) (λ m le. refl)
            (carries.by vals olds news i below j ij c k h no_bodies (own k' h') []
            (record { answered = k'; is = refl; answers = answers; jumps = λ n. tt }) (record { failed = h'; is = refl; follows = fails })
            (bound_from 0 called.values) (bound_from 0 called.values) called.store (begins old.params called.values (eqb-true old.params (length called.values) e)))))));
      };
}
  where
    lighter : (j : ℕ) (c : Credit) (f g : Rest) → Simulates j (more_weighed 0 c) f g → Simulates j c f g
    lighter j c f g u = weaken j j (more_weighed 0 c) c f g (omega arith) (record { steps = omega arith; made = omega arith; weighed = omega arith }) u

    in_case : (b : Bool) (j : ℕ) (c : Credit) (w : ℕ → Partial Answer) (g : Rest) (k : OnAnswer) (h : Rest) (params : ℕ)
        → (b ≡ true → Simulates j c (λ n. followed (weighing (clause.entry_weight params) (w n)) k (step h)) (λ n. weigh (cps.entry_weight params) (g n)))
        → Simulates j c (λ n. followed (if b then weighing (clause.entry_weight params) (w n) else GoneWrong untraced) k (step h)) (λ n. if b then weigh (cps.entry_weight params) (g n) else bare Wrong)
    in_case true j c w g k h params each = each refl
    in_case false j c w g k h params each = old_wrong j c _ _ 0 refl

-- ---- programs

both_there : (vals : Vals) (o : Option clause_relation.Relation) (p : Option Relation) → BothCarry vals o p
    → CarriesTold told (λ calls s n. clause_relations.does_if_there vals calls o s n) (λ calls k h s n. does_if_there vals calls p k h s n)
both_there vals None None h = record {
  by = λ i olds news below.
      record {
        at = λ j c k k' h h' ij answers fails s.
            equal j c (step h) (λ n. followed (No untraced n) k (step h)) (step h') (step h') (λ n. sym (traced_none (step h n))) (λ m le. refl) (both_step_here j c h h' fails);
      };
}
both_there vals (Some old) (Some new) h = record { by = h.by }
both_there vals None (Some new) h = absurd h
both_there vals (Some old) None h = absurd h

pub carried_is_light : (p : clause_parts.Parts) (q : Parts) → NoWrong (clause_runs.runs_of p) → AreCarried p q → Light (clause_runs.runs_of p) (runs_of q)
carried_is_light p q right h =
    let vals : Vals = values_of_vals p.vals in
    light (clause_runs.runs_of p) (runs_of q) right (λ args cells i bytes.
    let follows : (a : Answer) → Simulates i nothing (λ n. bare (Answered (integer_in a.values))) (last_success a) = λ a. itself i nothing (last_success a) (longer_is_monotone (last_success a) (λ j. longer_always j (last_success a 0))) in
    let ends : Simulates i nothing (λ n. bare Failure) last_failure = itself i nothing last_failure (longer_is_monotone last_failure (λ j. longer_always j (last_failure 0))) in
    let by_numbers : SimulatesAct kept i (acted_before told (clause_relations.relations vals p.rels p.main)) (relations vals q.rels p.main) =
    told_simulate told (clause_relations.relation_body vals p.rels) (relation_body vals q.rels) (clause_laws.steps_to_call vals p.rels) (steps_to_act vals q.rels)
    (λ r. record { by = (both_there vals (slice_get p.rels r) (slice_get q.rels r) (h.each r)).by }) i p.main in
    let whole : Simulates i nothing (λ n. followed (clause_relations.relations vals p.rels p.main (opening args) n) (λ a m. bare (Answered (integer_in a.values))) (step (λ m. bare Failure))) (relations vals q.rels p.main last_success last_failure (opening args)) =
    by_numbers.at i nothing (λ a m. bare (Answered (integer_in a.values))) last_success (λ m. bare Failure) last_failure (omega arith) follows ends (opening args) in
    equal i nothing (step (λ n. followed (clause_relations.relations vals p.rels p.main (opening args) n) (λ a m. bare (Answered (integer_in a.values))) (step (λ m. bare Failure)))) (clause_runs.runs_of p args cells)
    (step (relations vals q.rels p.main last_success last_failure (opening args))) (runs_of q args cells)
    (λ n. sym (followed_step (clause_relations.relations vals p.rels p.main (opening args)) (λ a m. bare (Answered (integer_in a.values))) (step (λ m. bare Failure)) n))
    (λ m le. same_runs args m)
    (both_step_here i nothing _ _ whole))
  where
    same_runs : (args : List (List ℕ)) (m : ℕ) → step (relations (values_of_vals p.vals) q.rels p.main last_success last_failure (opening args)) m ≡ step (relations (values_of_vals q.vals) q.rels q.main last_success last_failure (opening args)) m
    same_runs args m = ap (λ vs. step (relations (values_of_vals vs) q.rels p.main last_success last_failure (opening args)) m) (sym h.vals)
        ∙ ap (λ main. step (relations (values_of_vals q.vals) q.rels main last_success last_failure (opening args)) m) (sym h.main)
