-- Rules and relations: what is in plain form carries the rules.
use Rattle.std.proofs.Common.{◌≡◌, ℕ, zero, suc, ◌+◌, ◌<◌, ◌≤◌, Bool, true, false, List, [], ◌∷◌, ◌++◌, map, length, Option, refl, sym, ap, subst, ◌∙◌, arith, IsTrue}
use Rattle.std.specs.Prelude.{◌==◌, ◌&&◌, if◌then◌else◌}
use Rattle.std.specs.List.{list_all}
use Rattle.std.proofs.lemmas.Bool.{eqb-true, eq-eqb}
use Rattle.std.proofs.lemmas.List.{length-map}
use Rattle.rml_base.specs.Run.{Rest, step, weigh}
use Rattle.rml_simulation.specs.declared.partial.Partial.{Partial}
use Rattle.rml_simulation.specs.declared.partial.Partial.TheVariants.{Yes, GoneWrong}
use Rattle.rml_simulation.specs.Partial.{untraced, after, then_go, or_else, followed}
use Rattle.rml_simulation.specs.Simulates.{Credit, Simulates}
use Rattle.rml_simulation.specs.Moves.{AtMost, more_steps}
use Rattle.rml_simulation.specs.Carries.{SimulatesAct, kept, acted}
use Rattle.rml_simulation.proofs.Callers.{equal, followed_else, followed_step, followed_then, old_step, old_weigh, old_wrong, traced_none, weaken}
use Rattle.rml_value.specs.declared.value.Value.{Value}
use Rattle.rml_builtin.specs.declared.applied.Answer.{Answer}
use Rattle.rml_builtin.specs.Applied.{Store}
use Rattle.rml_builtin.specs.Called.{Called}
use Rattle.rml_terms.specs.declared.state.Matched.{Matched}
use Rattle.rml_terms.specs.declared.state.Matched.TheVariants as matched
use Rattle.rml_terms.specs.Env.{Env, values_in}
use Rattle.rml_terms.specs.Matching.{match_in_turn}
use Rattle.rml_terms.specs.Calling.{RelationCalls, with_value}
use Rattle.rml_terms.proofs.Callers.{Worth, worth_from}
use Rattle.rml_resolved.specs.declared.parts.Counts.{Counts}
use Rattle.rml_resolved.specs.declared.tables.ConDef.{ConDef}
use Rattle.rml_resolved.specs.declared.tables.RRule.{RRule}
use Rattle.rml_resolved.specs.declared.trees.RExp.{RExp}
use Rattle.rml_resolved.specs.Fits.{exps_fit, patterns_fit, goals_fit, rule_fits}
use Rattle.rml_resolved.proofs.Callers.{both}
use Rattle.rml_search.specs.declared.state.State.{State}
use Rattle.rml_search.specs.Context.{Context}
use Rattle.rml_search.specs.Matching as searched
use Rattle.rml_search.specs.Values as searched_values
use Rattle.rml_search.specs.Search.{weighted_step, step_trace, going_all, answer, past_head, by_rule, try}
use Rattle.rml_fol.specs.declared.parts.Relation.{Relation}
use Rattle.rml_fol.specs.declared.statements.Stmt.{Stmt}
use Rattle.rml_fol.specs.declared.statements.Stmt.TheVariants as stmt
use Rattle.rml_fol.specs.declared.statements.Alternative.{Alternative, out-Alternative, roll-out-Alternative}
use Rattle.rml_fol.specs.Weights.{entry_weight}
use Rattle.rml_fol.specs.Expressions.{Vals}
use Rattle.rml_fol.specs.Statements.{Given, Scoped, Action, no_bodies, weighing, retried, in_order, in_turn, alternative, block}
use Rattle.rml_fol.specs.Relations.{bound_from, answered}
use Rattle.rml_fol.specs.Acts.{acts-Give, acts-Or, acts-Alternative}
use Rattle.rml_clause.specs.Plain.{numbers_from, AreIn, AreMatched, IsRule, AreRules}
use Rattle.rml_clause.specs.Fresh.{AreFresh, EachFresh, fresh_in}
use Rattle.rml_clause.specs.Narrow.{ended, heavier, weight_of_sets, weight_of_matches, before_all, path_of, EachNarrow}
use Rattle.rml_clause.specs.Made.{IsMadeOf}
use Rattle.rml_clause.specs.Carries.{Carries}
use Rattle.rml_clause.proofs.Environments.{StandFor, Stands, stands_as, stands_first, stand_from}
use Rattle.rml_clause.proofs.Budget.{followed_weighed_step, followed_weighing, Affords, afford_less, afford_equal, afford_weigh, afford_step}
use Rattle.rml_clause.proofs.Steps.{fresh_append, fresh_split, fresh_matches, fresh-Give, bindings_there, after_match, onto, onto_append, onto_block, afford_with, told, afford_sets, afford_matches}
use Rattle.rml_clause.proofs.Premises.{counts_matched, step_each, premises_do}

pub counts_from : (x n : ℕ) → length (numbers_from x n) ≡ n
counts_from x zero = refl
counts_from x (suc n) = ap suc (counts_from (suc x) n)

-- the search past the head of a rule, by what the head's match gives
past_is : (c : Context) (olds : RelationCalls) (r : RRule) (m : Matched) (store : Store) (k : Answer → Rest) (h : Rest) (n : ℕ)
    → after_match m (λ e l. followed (then_go (going_all c olds r.goals e store l) (answer c r.results)) k h) h n ≡ followed (past_head c olds r m store n) k h
unfolding after_match
past_is c olds r (matched.Yes e) store k h n = refl
past_is c olds r matched.No store k h n = sym (traced_none (h n))
past_is c olds r matched.Wrong store k h n = refl

module _ (c : Context) (vals : Vals) (agree : (k : ℕ) → Worth (c.vals k) (vals k)) (counts : Counts) (cons : List ConDef) (i : ℕ) (olds news : RelationCalls)
    (below : (j : ℕ) → j < i → (r : ℕ) → SimulatesAct kept j (acted (olds r)) (acted (news r))) (base : Credit) (params : ℕ) where
  abbrev Aff : ℕ → ℕ → Rest → Rest → Type 0
  Aff = Affords base c.step_weight

  -- what follows the block of a relation: its answer is a step
  abbrev to_answer : (Answer → Rest) → Rest → Given → Rest
  to_answer k h g m = followed (answered g m) k h

  -- ---- the results

  give_is : (xs : List ℕ) (vs : List Value) (last : Env) (store : Store) (k : Answer → Rest) (h h' : Rest) → StandFor xs vs last → (m : ℕ)
      → step (k (record { values = vs; store = store })) m ≡ followed (block vals news (stmt.Give xs ∷ []) no_bodies last store m) (to_answer k h) h'
  give_is xs vs last store k h h' there m =
      let r = bindings_there xs vs last there in
      let g : Given = record { env = r.0; store = store } in
      sym (ap (λ (a : Action). followed (a (in_turn []) no_bodies last store m) (to_answer k h) h') (acts-Give vals news xs)
      ∙ ap (λ (o : Option Env). followed (with_value o (λ e. Yes (record { env = e; store = store }) untraced) m) (to_answer k h) h') r.1
      ∙ traced_none (followed (answered g m) k h)
      ∙ followed_step (λ l. Yes (record { values = values_in r.0; store = store }) untraced l) k h m
      ∙ step_each _ _ m (λ l. traced_none (k (record { values = values_in r.0; store = store }) l))
      ∙ ap (λ (ws : List Value). step (k (record { values = ws; store = store })) m) r.2)

  results_do : {es : List RExp} {xs : List ℕ} {sets : List Stmt} (vars : ℕ) → AreIn c.names params es xs sets → (j : ℕ) (k k' : Answer → Rest) (h h' h'' : Rest) → ((l : ℕ) → l ≤ j → (a : Answer) → Aff l 0 (k a) (k' a))
      → (env new : Env) (store : Store) → Stands params vars (fresh_in sets ++ []) env new
      → Aff j (weight_of_sets c.names params es + 0) (λ m. followed (answer c es (record { env = env; store = store }) m) k h)
      (told c vals agree counts cons news base params vars no_bodies (to_answer k' h') h'' (onto c vals agree counts cons news base params vars sets (block vals news (stmt.Give xs ∷ []))) new store)
  results_do {es} {xs} {sets} vars ins j k k' h h' h'' ks env new store st =
      afford_with c vals agree counts cons news base params vars (searched_values.values_of c es env) (λ vs. weighted_step c.step_weight (λ m. Yes (record { values = vs; store = store }) untraced m)) k h j _ _
      (λ vs is.
      let a : Answer = record { values = vs; store = store } in
      let old : Rest = λ m. followed (weighted_step c.step_weight (λ l. Yes a untraced l) m) k h in
      afford_sets c vals agree counts cons news base params vars no_bodies (to_answer k' h') h'' ins (block vals news (stmt.Give xs ∷ [])) j 0 old [] env new store vs is st
      (λ last st' there kept'. afford_equal base c.step_weight j 0 (step (λ m. weigh c.step_weight (k a m))) old (step (k' a)) _
      (λ n. sym (followed_weighed_step c.step_weight (λ l. Yes a untraced l) k h n ∙ step_each _ _ n (λ l. ap (weigh c.step_weight) (traced_none (k a l)))))
      (give_is xs vs last store k' h' h'' there)
      (afford_step base c.step_weight j 0 0 (k a) (k' a) (omega arith) (λ l lt. ks l (omega arith) a))))

  -- ---- a rule

  rule_does : (r : RRule) (stmts : List Stmt) → IsRule c.names params r stmts → IsTrue (rule_fits counts cons r) → AreFresh (params + r.vars) (fresh_in stmts) → (path_of c.names params r).later ≤ c.step_weight
      → (s : Called) → length s.values ≡ params → (j : ℕ) → j ≤ i → (k k' : Answer → Rest) (h h' h'' : Rest) → ((l : ℕ) → l ≤ j → (a : Answer) → Aff l 0 (k a) (k' a)) → Aff j 0 h h''
      → Aff j (weight_of_matches c.names params r.inputs + (before_all c.names params r.goals (heavier (weight_of_sets c.names params r.results) ended)).first)
      (λ m. followed (by_rule c olds r s m) k h) (λ m. followed (block vals news stmts no_bodies (bound_from 0 s.values) s.store m) (to_answer k' h') h'')
  rule_does r stmts plain fit fresh light s count j within k k' h h' h'' ks hs =
      let vars = r.vars in
      let give = stmt.Give plain.results ∷ [] in
      let new = bound_from 0 s.values in
      let path = heavier (weight_of_sets c.names params r.results) ended in
      let first = before_all c.names params r.goals path in
      let two = both (patterns_fit counts cons vars r.inputs && goals_fit counts cons vars r.goals) (exps_fit counts cons vars r.results) fit in
      let one = both (patterns_fit counts cons vars r.inputs) (goals_fit counts cons vars r.goals) two.first in
      let ends = block vals news give in
      let behind_sets = onto c vals agree counts cons news base params vars plain.sets ends in
      let behind_premises = onto c vals agree counts cons news base params vars plain.premises behind_sets in
      let order : block vals news stmts ≡ onto c vals agree counts cons news base params vars plain.head behind_premises =
      ap (block vals news) plain.is
      ∙ onto_block c vals agree counts cons news base params vars (plain.head ++ plain.premises ++ plain.sets) give
      ∙ onto_append c vals agree counts cons news base params vars (plain.head ++ plain.premises) plain.sets ends
      ∙ onto_append c vals agree counts cons news base params vars plain.head plain.premises behind_sets in
      let variables : fresh_in stmts ≡ fresh_in plain.premises ++ (fresh_in plain.sets ++ []) =
      ap fresh_in plain.is
      ∙ fresh_append (plain.head ++ plain.premises ++ plain.sets) give
      ∙ ap (λ (zs : List ℕ). fresh_in (plain.head ++ plain.premises ++ plain.sets) ++ (zs ++ [])) (fresh-Give plain.results)
      ∙ fresh_split (plain.head ++ plain.premises) plain.sets []
      ∙ ap (λ (zs : List ℕ). zs ++ (fresh_in plain.sets ++ [])) (fresh_append plain.head plain.premises ∙ ap (λ (zs : List ℕ). zs ++ fresh_in plain.premises) (fresh_matches plain.matched)) in
      let st : Stands params vars (fresh_in plain.premises ++ (fresh_in plain.sets ++ [])) [] new =
      stands_as params vars _ _ [] new variables (stands_first params vars s.values (fresh_in stmts) count fresh) in
      let there : StandFor (numbers_from 0 params) s.values new = subst (λ (n : ℕ). StandFor (numbers_from 0 n) s.values new) count (stand_from 0 s.values) in
      let patterns = map (searched.matching c.names) r.inputs in
      let many : length patterns ≡ length s.values = length-map r.inputs (searched.matching c.names) ∙ counts_matched plain.matched ∙ counts_from 0 params ∙ sym count in
      let head_is : searched.matching_all c.names r.inputs s.values [] ≡ match_in_turn patterns s.values [] =
      ap (λ (b : Bool). if b then match_in_turn patterns s.values [] else matched.Wrong) (eq-eqb (length patterns) (length s.values) many) in
      let past : Env → Rest = λ e l. followed (then_go (going_all c olds r.goals e s.store l) (answer c r.results)) k h in
      let next : State → Rest = λ t m. followed (answer c r.results t m) k h in
      afford_equal base c.step_weight j _ (after_match (match_in_turn patterns s.values []) past h) _ (told c vals agree counts cons news base params vars no_bodies (to_answer k' h') h'' (onto c vals agree counts cons news base params vars plain.head behind_premises) new s.store) _
      (λ n. past_is c olds r (match_in_turn patterns s.values []) s.store k h n ∙ ap (λ (m : Matched). followed (past_head c olds r m s.store n) k h) (sym head_is))
      (λ n. ap (λ (t : Scoped). followed (t no_bodies new s.store n) (to_answer k' h') h'') (sym order))
      (afford_matches c vals agree counts cons news base params vars no_bodies (to_answer k' h') h'' plain.matched behind_premises j first.first past h (fresh_in plain.premises ++ (fresh_in plain.sets ++ [])) [] new s.store s.values one.first st there
      (λ e f st'. afford_equal base c.step_weight j _ (λ m. followed (going_all c olds r.goals e s.store m) next h) (past e) _ _
      (λ n. sym (followed_then (going_all c olds r.goals e s.store n) (answer c r.results) k h)) (λ n. refl)
      (premises_do c vals agree counts cons i olds news below base params vars plain.searched no_bodies (to_answer k' h') h'' behind_sets j path (fresh_in plain.sets ++ []) next h within light one.second
      (λ l le e' f' store' st''. results_do vars plain.given l k k' h h' h'' (λ q less. ks q (omega arith)) e' f' store' st'')
      hs e f s.store st'))
      hs)

  -- ---- rules, each begun where a failure was taken

  alternative_is : (a : Alternative) → alternative vals news a ≡ block vals news (out-Alternative a).block
  alternative_is a = ap (alternative vals news) (sym (roll-out-Alternative a)) ∙ acts-Alternative vals news (out-Alternative a)

  abbrev first_of_rule : RRule → ℕ
  first_of_rule r = weight_of_matches c.names params r.inputs + (before_all c.names params r.goals (heavier (weight_of_sets c.names params r.results) ended)).first

  rules_do : {rules : List RRule} {alternatives : List Alternative} → AreRules c.names params rules alternatives → (r : RRule) (a : Alternative) → IsRule c.names params r (out-Alternative a).block
      → IsTrue (list_all (rule_fits counts cons) (r ∷ rules)) → EachFresh params (r ∷ rules) (a ∷ alternatives) → EachNarrow c.names params c.step_weight (r ∷ rules)
      → (s : Called) → length s.values ≡ params → (j : ℕ) → j ≤ i → (k k' : Answer → Rest) (h h' : Rest) → ((l : ℕ) → l ≤ j → (b : Answer) → Aff l 0 (k b) (k' b)) → Aff j 0 h h'
      → Aff j (first_of_rule r) (λ m. followed (or_else (by_rule c olds r s m) (try c olds rules s)) k h)
      (λ m. followed (in_order (map (alternative vals news) (a ∷ alternatives)) no_bodies (bound_from 0 s.values) s.store m) (to_answer k' h') h')
  rules_do AreRules.none r a plain fit fresh narrow s count j within k k' h h' ks hs =
      let new = bound_from 0 s.values in
      let left : Rest = λ n. followed (try c olds [] s n) k h in
      let two = both (rule_fits counts cons r) (list_all (rule_fits counts cons) []) fit in
      afford_equal base c.step_weight j _ (λ m. followed (by_rule c olds r s m) k left) _ (λ m. followed (block vals news (out-Alternative a).block no_bodies new s.store m) (to_answer k' h') h') _
      (λ n. sym (followed_else (by_rule c olds r s n) (try c olds [] s) k h)) (λ n. ap (λ (t : Scoped). followed (t no_bodies new s.store n) (to_answer k' h') h') (sym (alternative_is a)))
      (rule_does r (out-Alternative a).block plain two.first fresh.0 narrow.1 s count j within k k' left h' h' ks
      (afford_equal base c.step_weight j 0 h left h' h' (λ n. sym (traced_none (h n))) (λ n. refl) hs))
  rules_do (AreRules.more r' rules a' alternatives plain' others) r a plain fit fresh narrow s count j within k k' h h' ks hs =
      let new = bound_from 0 s.values in
      let rest = in_order (map (alternative vals news) (a' ∷ alternatives)) no_bodies new s.store in
      let old_left : Rest = λ n. followed (try c olds (r' ∷ rules) s n) k h in
      let new_left : Rest = λ n. followed (retried rest n) (to_answer k' h') h' in
      let begun : Rest = λ m. followed (or_else (by_rule c olds r' s m) (try c olds rules s)) k h in
      let tried : Rest = λ m. followed (rest m) (to_answer k' h') h' in
      let two = both (rule_fits counts cons r) (list_all (rule_fits counts cons) (r' ∷ rules)) fit in
      let light : (entry_weight params + weight_of_matches c.names params r'.inputs) + (before_all c.names params r'.goals (heavier (weight_of_sets c.names params r'.results) ended)).first ≤ c.step_weight = narrow.2.0 in
      let lost : Aff j 0 old_left new_left =
      afford_equal base c.step_weight j 0 (step (λ m. weigh c.step_weight (begun m))) old_left (step (λ m. weigh (entry_weight 0) (tried m))) new_left
      (λ n. sym (followed_weighed_step c.step_weight (λ m. or_else (by_rule c olds r' s m) (try c olds rules s)) k h n))
      (λ n. sym (followed_step (λ m. weighing (entry_weight 0) (rest m)) (to_answer k' h') h' n ∙ step_each _ _ n (λ m. followed_weighing (entry_weight 0) (rest m) (to_answer k' h') h')))
      (afford_step base c.step_weight j 0 (entry_weight 0 + first_of_rule r') begun (λ m. weigh (entry_weight 0) (tried m)) (omega arith)
      (λ l lt. afford_weigh base c.step_weight l (entry_weight 0) (first_of_rule r') begun tried
      (rules_do others r' a' plain' two.second fresh.1 narrow.2 s count l (omega arith) k k' h h' (λ q le. ks q (omega arith)) (afford_less base c.step_weight j l 0 0 h h' (omega arith) (omega arith) hs)))) in
      afford_equal base c.step_weight j _ (λ m. followed (by_rule c olds r s m) k old_left) _ (λ m. followed (block vals news (out-Alternative a).block no_bodies new s.store m) (to_answer k' h') new_left) _
      (λ n. sym (followed_else (by_rule c olds r s n) (try c olds (r' ∷ rules) s) k h))
      (λ n. ap (λ (t : Scoped). followed (t no_bodies new s.store n) (to_answer k' h') new_left) (sym (alternative_is a)) ∙ sym (followed_else (alternative vals news a no_bodies new s.store n) (retried rest) (to_answer k' h') h'))
      (rule_does r (out-Alternative a).block plain two.first fresh.0 narrow.1 s count j within k k' old_left h' new_left ks lost)

-- ---- relations

module _ (c : Context) (vals : Vals) (agree : (k : ℕ) → Worth (c.vals k) (vals k)) (counts : Counts) (cons : List ConDef) (rel : Relation) where
  -- where there are as many values as parameters, or not: the head of a rule is then Wrong
  head_wrong : (r : RRule) {head : List Stmt} → AreMatched c.names rel.params r.inputs (numbers_from 0 rel.params) head → (values : List Value) → (rel.params == length values) ≡ false → searched.matching_all c.names r.inputs values [] ≡ matched.Wrong
  head_wrong r a values e =
      let patterns = map (searched.matching c.names) r.inputs in
      let many : length patterns ≡ rel.params = length-map r.inputs (searched.matching c.names) ∙ counts_matched a ∙ counts_from 0 rel.params in
      ap (λ (b : Bool). if b then match_in_turn patterns values [] else matched.Wrong) (ap (λ (n : ℕ). n == length values) many ∙ e)

  module _ (r : RRule) (rules : List RRule) (a : Alternative) (alternatives : List Alternative) (plain : IsRule c.names rel.params r (out-Alternative a).block) (others : AreRules c.names rel.params rules alternatives)
      (fit : IsTrue (list_all (rule_fits counts cons) (r ∷ rules))) (fresh : EachFresh rel.params (r ∷ rules) (a ∷ alternatives)) (narrow : EachNarrow c.names rel.params c.step_weight (r ∷ rules))
      (body : rel.body.stmts ≡ stmt.Or (a ∷ alternatives) ∷ []) (i : ℕ) (olds news : RelationCalls) (below : (j : ℕ) → j < i → (q : ℕ) → SimulatesAct kept j (acted (olds q)) (acted (news q)))
      (j : ℕ) (d : Credit) (k k' : Answer → Rest) (h h' : Rest) (within : j ≤ i) (ks : (b : Answer) → Simulates j (more_steps 1 d) (k b) (k' b)) (hs : Simulates j (more_steps 1 d) h h') (s : Called) where
    abbrev base : Credit
    base = more_steps 1 d

    at_most : (w : ℕ) → d.weighed + 0 ≤ w → AtMost base (record base { weighed = w })
    at_most w le = record { steps = omega arith; made = omega arith; weighed = omega arith }

    abbrev entered : Rest
    entered m = followed (in_order (map (alternative vals news) (a ∷ alternatives)) no_bodies (bound_from 0 s.values) s.store m) (to_answer c vals agree counts cons i olds news below base rel.params k' h') h'

    body_is : (m : ℕ) → weigh (entry_weight rel.params) (entered m) ≡ followed (weighing (entry_weight rel.params) (then_go (block vals news rel.body.stmts no_bodies (bound_from 0 s.values) s.store m) answered)) k' h'
    body_is m =
        let new = bound_from 0 s.values in
        let blocks : block vals news rel.body.stmts no_bodies new s.store m ≡ in_order (map (alternative vals news) (a ∷ alternatives)) no_bodies new s.store m =
        ap (λ (stmts : List Stmt). block vals news stmts no_bodies new s.store m) body ∙ ap (λ (x : Action). x (in_turn []) no_bodies new s.store m) (acts-Or vals news (a ∷ alternatives)) in
        sym (followed_weighing (entry_weight rel.params) (then_go (block vals news rel.body.stmts no_bodies new s.store m) answered) k' h'
        ∙ ap (weigh (entry_weight rel.params)) (followed_then (block vals news rel.body.stmts no_bodies new s.store m) answered k' h'
        ∙ ap (λ (w : Partial Given). followed w (to_answer c vals agree counts cons i olds news below base rel.params k' h') h') blocks))

    begun : Rest
    begun m = followed (or_else (by_rule c olds r s m) (try c olds rules s)) k h

    by_count : (b : Bool) → (rel.params == length s.values) ≡ b
        → Simulates j d (λ n. followed (try c olds (r ∷ rules) s n) k h)
        (λ n. followed (if b then weighing (entry_weight rel.params) (then_go (block vals news rel.body.stmts no_bodies (bound_from 0 s.values) s.store n) answered) else GoneWrong untraced) k' h')
    unfolding begun
    by_count true e =
        let light : (entry_weight rel.params + weight_of_matches c.names rel.params r.inputs) + (before_all c.names rel.params r.goals (heavier (weight_of_sets c.names rel.params r.results) ended)).first ≤ c.step_weight = narrow.0 in
        let count : length s.values ≡ rel.params = sym (eqb-true rel.params (length s.values) e) in
        let new : Rest = λ m. weigh (entry_weight rel.params) (entered m) in
        let first = first_of_rule c vals agree counts cons i olds news below base rel.params r in
        let pays : Affords base c.step_weight j (entry_weight rel.params + first) begun new =
        afford_weigh base c.step_weight j (entry_weight rel.params) first begun entered
        (rules_do c vals agree counts cons i olds news below base rel.params others r a plain fit fresh narrow s count j within k k' h h'
        (λ l le b. record { at = λ w enough. weaken j l base (record base { weighed = w }) (k b) (k' b) le (at_most w enough) (ks b) })
        (record { at = λ w enough. weaken j j base (record base { weighed = w }) h h' (omega arith) (at_most w enough) hs })) in
        equal j d (step (λ m. weigh c.step_weight (begun m))) (λ n. followed (try c olds (r ∷ rules) s n) k h) new _
        (λ n. sym (followed_weighed_step c.step_weight (λ m. or_else (by_rule c olds r s m) (try c olds rules s)) k h n)) (λ m le. body_is m)
        (old_step j d (λ m. weigh c.step_weight (begun m)) new (old_weigh j base c.step_weight begun new (pays.at (c.step_weight + d.weighed) (omega arith))))
    by_count false e =
        old_wrong j d _ _ (suc zero)
        (ap (λ (m : Matched). (followed (after (step_trace c.step_weight) (or_else (past_head c olds r m s.store zero) (try c olds rules s))) k h).outcome) (head_wrong r plain.matched s.values e))

  earns : {rules : List RRule} {alternatives : List Alternative} → AreRules c.names rel.params rules alternatives → 0 < length rules → IsTrue (list_all (rule_fits counts cons) rules) → EachFresh rel.params rules alternatives
      → EachNarrow c.names rel.params c.step_weight rules → rel.body.stmts ≡ stmt.Or alternatives ∷ [] → Carries (more_steps 1) c vals rules rel
  earns AreRules.none some fit fresh narrow body = absurd (omega arith)
  earns (AreRules.more r rules a alternatives plain others) some fit fresh narrow body = record {
    by = λ i olds news below. record {
      at = λ j d k k' h h' within ks hs s. by_count r rules a alternatives plain others fit fresh narrow body i olds news below j d k k' h h' within ks hs s (rel.params == length s.values) refl;
    };
  }

more_credit : (d : Credit) → AtMost d (more_steps 1 d)
more_credit d = record { steps = omega arith; made = omega arith; weighed = omega arith }

module _ (c : Context) (vals : Vals) (counts : Counts) (cons : List ConDef) (rules : List RRule) (r : Relation) (made : IsMadeOf c vals counts cons rules r) where
  pub made_earns : Carries (more_steps 1) c vals rules r
  made_earns = earns c vals (λ k. worth_from (c.vals k) (vals k) (made.vals_agree k)) counts cons r made.plain.each made.some made.fit made.fresh made.narrow made.plain.is

  -- and what it has earned may be given up
  pub made_keeps : Carries kept c vals rules r
  made_keeps = record {
    by = λ i olds news below. record {
      at = λ j d k k' h h' within ks hs s.
          (made_earns.by i olds news below).at j d k k' h h' within
          (λ b. weaken j j d (more_steps 1 d) (k b) (k' b) (omega arith) (more_credit d) (ks b))
          (weaken j j d (more_steps 1 d) h h' (omega arith) (more_credit d) hs) s;
    };
  }
