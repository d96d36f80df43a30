-- Premises, one after another: each does in clause form what its goal does in the search.
use Rattle.std.proofs.Common.{◌≡◌, ℕ, zero, suc, ◌+◌, ◌<◌, ◌≤◌, Bool, true, false, List, [], ◌∷◌, ◌++◌, map, length, Option, Some, None, refl, sym, ap, subst, ◌∙◌, arith, IsTrue}
use Rattle.std.specs.Prelude.{◌==◌, ◌&&◌, if◌then◌else◌, option_and_then}
use Rattle.std.proofs.lemmas.Bool.{eqb-true}
use Rattle.std.proofs.lemmas.List.{append-nil, length-map}
use Rattle.rml_base.specs.Run.{Rest, step, weigh}
use Rattle.rml_simulation.specs.declared.partial.Partial.{Partial}
use Rattle.rml_simulation.specs.declared.partial.Partial.TheVariants.{No}
use Rattle.rml_simulation.specs.Partial.{untraced, take_step, then_go, unless, traced, followed}
use Rattle.rml_simulation.specs.Simulates.{Credit}
use Rattle.rml_simulation.specs.Carries.{SimulatesAct, kept, acted}
use Rattle.rml_simulation.proofs.Callers.{followed_after, followed_step, followed_then, followed_unless, traced_none}
use Rattle.rml_value.specs.declared.value.Value.{Value}
use Rattle.rml_value.specs.Same.{same}
use Rattle.rml_builtin.specs.declared.applied.Answer.{Answer}
use Rattle.rml_builtin.specs.declared.applied.Applied.{Applied}
use Rattle.rml_builtin.specs.declared.applied.Applied.TheVariants as applied
use Rattle.rml_builtin.specs.Applied.{Store}
use Rattle.rml_builtin.specs.Called.{Called}
use Rattle.rml_builtin.specs.BuiltIns.{apply_at}
use Rattle.rml_terms.specs.declared.state.Matched.TheVariants as matched
use Rattle.rml_terms.specs.Env.{Env, bind, look}
use Rattle.rml_terms.specs.Evaluating.{Evaluation}
use Rattle.rml_terms.specs.Matching.{match_in_turn}
use Rattle.rml_terms.specs.Calling.{RelationCalls, with_value, relation_in, trace_of_built_in}
use Rattle.rml_terms.proofs.Callers.{Worth, worth_same, look_new, worth_then}
use Rattle.rml_resolved.specs.declared.parts.Counts.{Counts}
use Rattle.rml_resolved.specs.declared.tables.ConDef.{ConDef}
use Rattle.rml_resolved.specs.declared.trees.RPat.{RPat}
use Rattle.rml_resolved.specs.declared.trees.RExp.{RExp}
use Rattle.rml_resolved.specs.declared.trees.Callee.TheVariants as called
use Rattle.rml_resolved.specs.declared.trees.RGoal.{RGoal, map-RGoal, roll-RGoal, fold-roll-RGoal, ind-RGoal}
use Rattle.rml_resolved.specs.declared.trees.RGoal.TheOpen.{RGoal-F}
use Rattle.rml_resolved.specs.declared.trees.RGoal.TheVariants as goal
use Rattle.rml_resolved.specs.Fits.{callee_fits, exp_fits, exps_fit, pattern_fits, patterns_fit, goal_fits_at, goal_fits, goals_fit}
use Rattle.rml_resolved.proofs.Callers.{both}
use Rattle.rml_search.specs.declared.state.State.{State}
use Rattle.rml_search.specs.Context.{Context}
use Rattle.rml_search.specs.Matching as searched
use Rattle.rml_search.specs.Values as searched_values
use Rattle.rml_search.specs.Search as search_of
use Rattle.rml_search.specs.Search.{weighted_step, step_trace, goes_on, taken, relation_called, goal_action, going, going_all}
use Rattle.rml_fol.specs.declared.statements.Stmt.{Stmt}
use Rattle.rml_fol.specs.declared.statements.Stmt.TheVariants as stmt
use Rattle.rml_fol.specs.declared.statements.Callee.{Callee}
use Rattle.rml_fol.specs.declared.statements.Callee.TheVariants as callee
use Rattle.rml_fol.specs.declared.terms.Expression.{fold-roll-Expression}
use Rattle.rml_fol.specs.declared.terms.Expression.TheOpen.{Expression-F}
use Rattle.rml_fol.specs.declared.terms.Expression.TheVariants as expression
use Rattle.rml_fol.specs.Weights.{entry_weight, set_weight, built_in_weight, equal_weight, call_weight, not_weight}
use Rattle.rml_fol.specs.Expressions.{Vals, value_at, value_of, cells_at, cells_of}
use Rattle.rml_fol.specs.Statements.{Given, Bodies, Scoped, Action, no_bodies, weighing, retried, values_of, relation_of, call, received, from_built_in, in_turn, block}
use Rattle.rml_fol.specs.Acts.{acts-Call, acts-Builtin, acts-Equal, acts-Not, acts-Give}
use Rattle.rml_clause.specs.Plain.{pattern_of, IsIn, AreIn, AreMatched, IsPremise, ArePremises}
use Rattle.rml_clause.specs.Fresh.{fresh, fresh_in}
use Rattle.rml_clause.specs.Narrow.{Path, ended, heavier, round_step, weight_of_set, weight_of_sets, weight_of_match, weight_of_matches, Before, befores_in_turn, before_at, before, before_all}
use Rattle.rml_clause.proofs.Environments.{keeps_bound, StandFor, stand_kept, Stands, stands_set, stands_as, stands_front, stands_back}
use Rattle.rml_clause.proofs.Budget.{followed_weighed_step, followed_weighing, Affords, afford_less, afford_equal, afford_weigh, afford_step, afford_traced, afford_wrong, afford_call}
use Rattle.rml_clause.proofs.Steps.{fresh_append, fresh_split, fresh-Set, fresh-Match, fresh-Call, fresh-Builtin, fresh-Equal, fresh-Not, fresh-Give, fresh_matches, values_there, all_received, after_match, matched_state, onto, onto_append, onto_block, afford_with, told, afford_weighing, afford_set, afford_in, afford_sets, afford_pattern, afford_matches}

-- ---- paths: what is met later is part of what is met before a goal

module _ (names : List (List ℕ)) (params : ℕ) where
  abbrev KeepsLater : RGoal → Type 0
  KeepsLater g = (p : Path) → p.later ≤ (before names params g p).later

  later_rolled : (y : RGoal-F RGoal) → ((p : Path) → p.later ≤ (before_at names params (map-RGoal RGoal Before (before names params) y) p).later) → KeepsLater (roll-RGoal y)
  later_rolled y each p = subst (λ (b : Before). p.later ≤ (b p).later) (sym (fold-roll-RGoal Before (before_at names params) y)) (each p)

  inner_later : (es : List ((x : RGoal) × KeepsLater x)) (p : Path) → p.later ≤ (befores_in_turn (map (before names params) (map (λ e. e.0) es)) p).later
  inner_later [] p = omega arith
  inner_later (e ∷ es) p =
      let q = befores_in_turn (map (before names params) (map (λ e. e.0) es)) p in
      omega (arith, e.1 q, inner_later es p)

  later_layer : (y : RGoal-F ((x : RGoal) × KeepsLater x)) → KeepsLater (roll-RGoal (map-RGoal ((x : RGoal) × KeepsLater x) RGoal (λ e. e.0) y))
  later_layer (RGoal-F.Call (called.Built k) es ps) = later_rolled (RGoal-F.Call (called.Built k) es ps) (λ p. omega arith)
  later_layer (RGoal-F.Call (called.Rel r) es ps) = later_rolled (RGoal-F.Call (called.Rel r) es ps) (λ p. omega arith)
  later_layer (RGoal-F.Call (called.Var x) es ps) = later_rolled (RGoal-F.Call (called.Var x) es ps) (λ p. omega arith)
  later_layer (RGoal-F.Call (called.Val k) es ps) = later_rolled (RGoal-F.Call (called.Val k) es ps) (λ p. omega arith)
  later_layer (RGoal-F.Equal a b) = later_rolled (RGoal-F.Equal a b) (λ p. omega arith)
  later_layer (RGoal-F.Let q e) = later_rolled (RGoal-F.Let q e) (λ p. omega arith)
  later_layer (RGoal-F.Not e) = later_rolled (RGoal-F.Not e.0) (λ p. omega arith)
  later_layer (RGoal-F.All es) = later_rolled (RGoal-F.All (map (λ e. e.0) es)) (inner_later es)

  pub later_kept : (g : RGoal) → KeepsLater g
  later_kept = ind-RGoal KeepsLater (λ x y is. subst (λ z. KeepsLater (roll-RGoal z)) is (later_layer y))

-- ---- counts

pub counts_matched : {names : List (List ℕ)} {params : ℕ} {ps : List RPat} {ys : List ℕ} {matches : List Stmt} → AreMatched names params ps ys matches → length ps ≡ length ys
counts_matched AreMatched.none = refl
counts_matched (AreMatched.more p ps y ys rest a) = ap suc (counts_matched a)

pub step_each : (f g : Rest) (n : ℕ) → ((m : ℕ) → f m ≡ g m) → step f n ≡ step g n
step_each f g zero e = refl
step_each f g (suc n) e = e n

module _ (c : Context) (vals : Vals) (agree : (k : ℕ) → Worth (c.vals k) (vals k)) (counts : Counts) (cons : List ConDef) (i : ℕ) (olds news : RelationCalls)
    (below : (j : ℕ) → j < i → (r : ℕ) → SimulatesAct kept j (acted (olds r)) (acted (news r))) (base : Credit) (params vars : ℕ) where
  abbrev Aff : ℕ → ℕ → Rest → Rest → Type 0
  Aff = Affords base c.step_weight

  abbrev Stand : List ℕ → Env → Env → Type 0
  Stand = Stands params vars

  abbrev on : List Stmt → Scoped → Scoped
  on = onto c vals agree counts cons news base params vars

  abbrev tells : Bodies → (Given → Rest) → Rest → Scoped → Env → Store → Rest
  tells = told c vals agree counts cons news base params vars

  -- what follows is simulated, whatever comes to stand, with j steps or fewer
  abbrev GoesOn : ℕ → ℕ → List ℕ → (State → Rest) → (Env → Store → Rest) → Type 0
  GoesOn j p more go new = (l : ℕ) → l ≤ j → (e f : Env) (s : Store) → Stand more e f → Aff l p (go (record { env = e; store = s })) (new f s)

  lower_on : (j l p : ℕ) (more : List ℕ) (go : State → Rest) (new : Env → Store → Rest) → l ≤ j → GoesOn j p more go new → GoesOn l p more go new
  lower_on j l p more go new le each m less e f s st = each m (omega arith) e f s st

  -- ---- results of a call or a built-in

  taken_counted : {ps : List RPat} {ys : List ℕ} {matches : List Stmt} → AreMatched c.names params ps ys matches → (b : Bool) (values : List Value) → (length ys == length values) ≡ b
      → (bodies : Bodies) (answers : Given → Rest) (fails : Rest) (next : Scoped) (j p : ℕ) (more : List ℕ) (go : Env → Rest) (other : Rest) (env new : Env) (store : Store) → IsTrue (patterns_fit counts cons vars ps)
      → Stand (ys ++ more) env new → ((e f : Env) → Stand more e f → Aff j p (go e) (tells bodies answers fails next f store)) → Aff j 0 other fails
      → Aff j (weight_of_matches c.names params ps + p) (after_match (if b then match_in_turn (map (searched.matching c.names) ps) values env else matched.Wrong) go other)
      (λ m. followed (received ys (on matches next bodies) new (record { values = values; store = store }) m) answers fails)
  unfolding after_match
  taken_counted {ps} {ys} {matches} a true values e bodies answers fails next j p more go other env new store fit st each lost =
      let r = all_received params vars ys values more env new (eqb-true (length ys) (length values) e) st in
      afford_equal base c.step_weight j _ _ _ (tells bodies answers fails (on matches next) r.last store) _ (λ n. refl)
      (λ n. sym (ap (λ (o : Option Env). followed (with_value o (λ f. on matches next bodies f store) n) answers fails) r.bound))
      (afford_matches c vals agree counts cons news base params vars bodies answers fails a next j p go other more env r.last store values fit r.stands r.there each lost)
  taken_counted a false values e bodies answers fails next j p more go other env new store fit st each lost = afford_wrong base c.step_weight j _ _ _ zero refl

  results : {ps : List RPat} {ys : List ℕ} {matches : List Stmt} → AreMatched c.names params ps ys matches → (answer : Answer)
      → (bodies : Bodies) (answers : Given → Rest) (fails : Rest) (next : Scoped) (j p : ℕ) (more : List ℕ) (go : State → Rest) (other : Rest) (env new : Env) → IsTrue (patterns_fit counts cons vars ps)
      → Stand (ys ++ more) env new → ((e f : Env) → Stand more e f → Aff j p (go (record { env = e; store = answer.store })) (tells bodies answers fails next f answer.store)) → Aff j 0 other fails
      → Aff j (weight_of_matches c.names params ps + p) (λ m. followed (taken c ps env answer m) go other) (λ m. followed (received ys (on matches next bodies) new answer m) answers fails)
  results {ps} {ys} {matches} a answer bodies answers fails next j p more go other env new fit st each lost =
      let count : length (map (searched.matching c.names) ps) ≡ length ys = length-map ps (searched.matching c.names) ∙ counts_matched a in
      let old = λ (e : Env). go (record { env = e; store = answer.store }) in
      afford_equal base c.step_weight j _ (after_match (if length ys == length answer.values then match_in_turn (map (searched.matching c.names) ps) answer.values env else matched.Wrong) old other) _ _ _
      (λ n. ap (λ (k : ℕ). after_match (if k == length answer.values then match_in_turn (map (searched.matching c.names) ps) answer.values env else matched.Wrong) old other n) (sym count)
      ∙ matched_state (searched.matching_all c.names ps answer.values env) answer.store go other n)
      (λ n. refl)
      (taken_counted a (length ys == length answer.values) answer.values refl bodies answers fails next j p more old other env new answer.store fit st each lost)

  -- ---- calls

  -- the new relation, after the weight of the call
  called_new : (f : Callee) (xs ys : List ℕ) (matches : List Stmt) (vs : List Value) (r : ℕ) (bodies : Bodies) (next : Scoped) (last : Env) (store : Store) → values_of xs last ≡ Some vs → relation_of f last ≡ Some r → (m : ℕ)
      → on (stmt.Call f xs ys ∷ matches) next bodies last store m
      ≡ weighing call_weight (then_go (take_step (news r (record { values = vs; store = store })) m) (λ a l. weighing (entry_weight (length ys)) (received ys (on matches next bodies) last a l)))
  called_new f xs ys matches vs r bodies next last store there is m =
      ap (λ (a : Action). a (on matches next) bodies last store m) (acts-Call vals news f xs ys)
      ∙ ap (λ (o : Option (List Value)). weighing call_weight (with_value o (λ ws l. then_go (call news (relation_of f last) ws store l) (λ a q. weighing (entry_weight (length ys)) (received ys (on matches next bodies) last a q))) m)) there
      ∙ ap (λ (o : Option ℕ). weighing call_weight (then_go (call news o vs store m) (λ a l. weighing (entry_weight (length ys)) (received ys (on matches next bodies) last a l)))) is

  calls : {ps : List RPat} {ys : List ℕ} {matches : List Stmt} → AreMatched c.names params ps ys matches → (o : Option ℕ) (f : Callee) (xs : List ℕ) (vs : List Value)
      → (bodies : Bodies) (answers : Given → Rest) (fails : Rest) (next : Scoped) (j p : ℕ) (more : List ℕ) (go : State → Rest) (other : Rest) (env last : Env) (store : Store) → j ≤ i
      → (entry_weight (length ps) + weight_of_matches c.names params ps) + p ≤ c.step_weight → IsTrue (patterns_fit counts cons vars ps) → Stand (ys ++ more) env last → StandFor xs vs last → Worth o (relation_of f last)
      → GoesOn j p more go (tells bodies answers fails next) → Aff j 0 other fails
      → Aff j call_weight (λ m. followed (relation_called c olds o vs ps env store m) go other) (tells bodies answers fails (on (stmt.Call f xs ys ∷ matches) next) last store)
  calls a None f xs vs bodies answers fails next j p more go other env last store within light fit st there is each lost = afford_wrong base c.step_weight j _ _ _ (suc zero) refl
  calls {ps} {ys} {matches} a (Some r) f xs vs bodies answers fails next j p more go other env last store within light fit st there is each lost =
      let s : Called = record { values = vs; store = store } in
      let gives : Answer → Rest = λ b m. followed (taken c ps env b m) go other in
      let gets : Answer → Rest = λ b m. followed (weighing (entry_weight (length ys)) (received ys (on matches next bodies) last b m)) answers fails in
      let count : length ps ≡ length ys = counts_matched a in
      let q : ℕ = entry_weight (length ys) + (weight_of_matches c.names params ps + p) in
      let after_call : (l : ℕ) → l < j → Aff l q (λ m. followed (olds r s m) gives other) (λ m. followed (news r s m) gets fails) =
      λ l lt. afford_call base c.step_weight i olds news below l q (omega arith) r s gives gets other fails
      (λ b. afford_equal base c.step_weight l q (gives b) (gives b) (λ m. weigh (entry_weight (length ys)) (followed (received ys (on matches next bodies) last b m) answers fails)) (gets b) (λ n. refl)
      (λ n. sym (followed_weighing (entry_weight (length ys)) (received ys (on matches next bodies) last b n) answers fails))
      (afford_weigh base c.step_weight l (entry_weight (length ys)) (weight_of_matches c.names params ps + p) (gives b) (λ m. followed (received ys (on matches next bodies) last b m) answers fails)
      (results a b bodies answers fails next l p more go other env last fit st (λ e f' st'. each l (omega arith) e f' b.store st') (afford_less base c.step_weight j l 0 0 other fails (omega arith) (omega arith) lost))))
      (afford_less base c.step_weight j l 0 q other fails (omega arith) (omega arith) lost) in
      afford_less base c.step_weight j j (call_weight + 0) call_weight (λ m. followed (relation_called c olds (Some r) vs ps env store m) go other) (tells bodies answers fails (on (stmt.Call f xs ys ∷ matches) next) last store) (omega arith) (omega arith)
      (afford_weighing c vals agree counts cons news base params vars bodies answers fails j 0 call_weight (λ m. followed (relation_called c olds (Some r) vs ps env store m) go other) (on (stmt.Call f xs ys ∷ matches) next)
      (λ m. then_go (take_step (news r s) m) (λ b l. weighing (entry_weight (length ys)) (received ys (on matches next bodies) last b l))) last store
      (called_new f xs ys matches vs r bodies next last store (values_there xs vs last there) is)
      (afford_equal base c.step_weight j 0 (step (λ m. weigh c.step_weight (followed (olds r s m) gives other))) _ (step (λ m. followed (news r s m) gets fails)) _
      (λ n. sym (followed_then (weighted_step c.step_weight (olds r s) n) (taken c ps env) go other ∙ followed_weighed_step c.step_weight (olds r s) gives other n))
      (λ n. sym (followed_then (take_step (news r s) n) (λ b l. weighing (entry_weight (length ys)) (received ys (on matches next bodies) last b l)) answers fails ∙ followed_step (news r s) gets fails n))
      (afford_step base c.step_weight j 0 q (λ m. followed (olds r s m) gives other) (λ m. followed (news r s m) gets fails) (omega arith) after_call)))

  -- ---- built-ins

  built_new : (k : ℕ) (xs ys : List ℕ) (matches : List Stmt) (vs : List Value) (bodies : Bodies) (next : Scoped) (last : Env) (store : Store) → values_of xs last ≡ Some vs → (m : ℕ)
      → on (stmt.Builtin k xs ys ∷ matches) next bodies last store m ≡ weighing (built_in_weight k (length ys)) (from_built_in k ys (on matches next bodies) last (apply_at k vs store) m)
  built_new k xs ys matches vs bodies next last store there m =
      ap (λ (a : Action). a (on matches next) bodies last store m) (acts-Builtin vals news k xs ys)
      ∙ ap (λ (o : Option (List Value)). weighing (built_in_weight k (length ys)) (with_value o (λ ws. from_built_in k ys (on matches next bodies) last (apply_at k ws store)) m)) there

  from_built : {ps : List RPat} {ys : List ℕ} {matches : List Stmt} → AreMatched c.names params ps ys matches → (k : ℕ) (x : Applied)
      → (bodies : Bodies) (answers : Given → Rest) (fails : Rest) (next : Scoped) (j p : ℕ) (more : List ℕ) (go : State → Rest) (other : Rest) (env last : Env) → IsTrue (patterns_fit counts cons vars ps) → Stand (ys ++ more) env last
      → GoesOn j p more go (tells bodies answers fails next) → Aff j 0 other fails
      → Aff j (weight_of_matches c.names params ps + p) (λ m. followed (search_of.from_built_in c k ps env x m) go other) (λ m. followed (from_built_in k ys (on matches next bodies) last x m) answers fails)
  from_built {ps} {ys} {matches} a k (applied.Yes b t) bodies answers fails next j p more go other env last fit st each lost =
      let trace = trace_of_built_in k b.values t in
      afford_equal base c.step_weight j _ (λ n. traced trace (followed (taken c ps env b n) go other)) _ (λ n. traced trace (followed (received ys (on matches next bodies) last b n) answers fails)) _
      (λ n. sym (followed_after trace (taken c ps env b n) go other)) (λ n. sym (followed_after trace (received ys (on matches next bodies) last b n) answers fails))
      (afford_traced base c.step_weight j _ trace (λ n. followed (taken c ps env b n) go other) (λ n. followed (received ys (on matches next bodies) last b n) answers fails)
      (results a b bodies answers fails next j p more go other env last fit st (λ e f st'. each j (omega arith) e f b.store st') lost))
  from_built {ps} {ys} {matches} a k applied.No bodies answers fails next j p more go other env last fit st each lost =
      afford_equal base c.step_weight j _ other _ fails _ (λ n. sym (traced_none (other n))) (λ n. sym (traced_none (fails n))) (afford_less base c.step_weight j j 0 (weight_of_matches c.names params ps + p) other fails (omega arith) (omega arith) lost)
  from_built a k applied.Wrong bodies answers fails next j p more go other env last fit st each lost = afford_wrong base c.step_weight j _ _ _ zero refl

  built_ins : {ps : List RPat} {ys : List ℕ} {matches : List Stmt} → AreMatched c.names params ps ys matches → (k : ℕ) (xs : List ℕ) (vs : List Value)
      → (bodies : Bodies) (answers : Given → Rest) (fails : Rest) (next : Scoped) (j p : ℕ) (more : List ℕ) (go : State → Rest) (other : Rest) (env last : Env) (store : Store)
      → IsTrue (patterns_fit counts cons vars ps) → Stand (ys ++ more) env last → StandFor xs vs last → GoesOn j p more go (tells bodies answers fails next) → Aff j 0 other fails
      → Aff j ((built_in_weight k (length ps) + weight_of_matches c.names params ps) + p) (λ m. followed (search_of.from_built_in c k ps env (apply_at k vs store) m) go other)
      (tells bodies answers fails (on (stmt.Builtin k xs ys ∷ matches) next) last store)
  built_ins {ps} {ys} {matches} a k xs vs bodies answers fails next j p more go other env last store fit st there each lost =
      let old : Rest = λ m. followed (search_of.from_built_in c k ps env (apply_at k vs store) m) go other in
      subst (λ (count : ℕ). Aff j ((built_in_weight k count + weight_of_matches c.names params ps) + p) old (tells bodies answers fails (on (stmt.Builtin k xs ys ∷ matches) next) last store)) (sym (counts_matched a))
      (afford_less base c.step_weight j j (built_in_weight k (length ys) + (weight_of_matches c.names params ps + p)) ((built_in_weight k (length ys) + weight_of_matches c.names params ps) + p) old (tells bodies answers fails (on (stmt.Builtin k xs ys ∷ matches) next) last store) (omega arith) (omega arith)
      (afford_weighing c vals agree counts cons news base params vars bodies answers fails j _ (built_in_weight k (length ys)) old (on (stmt.Builtin k xs ys ∷ matches) next)
      (from_built_in k ys (on matches next bodies) last (apply_at k vs store)) last store (built_new k xs ys matches vs bodies next last store (values_there xs vs last there))
      (from_built a k (apply_at k vs store) bodies answers fails next j p more go other env last fit st each lost)))

  -- ---- a goal, a layer deep

  -- what a block does where an action goes on, given what is asked of the goal
  abbrev Does : (Env → Store → ℕ → Partial State) → Before → Bool → List Stmt → Type 0
  Does old path fits stmts = (bodies : Bodies) (answers : Given → Rest) (fails : Rest) (next : Scoped) (j : ℕ) (p : Path) (more : List ℕ) (go : State → Rest) (other : Rest) → j ≤ i → (path p).later ≤ c.step_weight → IsTrue fits
      → GoesOn j p.first more go (tells bodies answers fails next) → Aff j 0 other fails → (env new : Env) (store : Store) → Stand (fresh_in stmts ++ more) env new
      → Aff j (path p).first (λ m. followed (old env store m) go other) (tells bodies answers fails (on stmts next) new store)

  abbrev PremiseDoes : RGoal → List Stmt → Type 0
  PremiseDoes g stmts = Does (going c olds g) (before c.names params g) (goal_fits counts cons vars g) stmts

  abbrev PremisesDo : List RGoal → List Stmt → Type 0
  PremisesDo gs stmts = Does (going_all c olds gs) (before_all c.names params gs) (goals_fit counts cons vars gs) stmts

  opened : (g : RGoal) (y : RGoal-F RGoal) (stmts : List Stmt) → g ≡ roll-RGoal y
      → Does (goal_action c olds (map-RGoal RGoal search_of.Action (going c olds) y)) (before_at c.names params (map-RGoal RGoal Before (before c.names params) y)) (goal_fits_at counts cons vars (map-RGoal RGoal Bool (goal_fits counts cons vars) y)) stmts
      → PremiseDoes g stmts
  opened g y stmts e does =
      subst (λ (z : RGoal). PremiseDoes z stmts) (sym e)
      (subst (λ (b : Bool). Does (going c olds (roll-RGoal y)) (before c.names params (roll-RGoal y)) b stmts) (sym (fold-roll-RGoal Bool (goal_fits_at counts cons vars) y))
      (subst (λ (b : Before). Does (going c olds (roll-RGoal y)) b (goal_fits_at counts cons vars (map-RGoal RGoal Bool (goal_fits counts cons vars) y)) stmts) (sym (fold-roll-RGoal Before (before_at c.names params) y))
      (subst (λ (a : search_of.Action). Does a (before_at c.names params (map-RGoal RGoal Before (before c.names params) y)) (goal_fits_at counts cons vars (map-RGoal RGoal Bool (goal_fits counts cons vars) y)) stmts) (sym (fold-roll-RGoal search_of.Action (goal_action c olds) y)) does)))

  -- the variables of sets, and then those of a call and its matches
  fresh_of_call : {ps : List RPat} {ys : List ℕ} {matches : List Stmt} → AreMatched c.names params ps ys matches → (sets : List Stmt) (x : Stmt) (more : List ℕ) → fresh x ≡ ys
      → fresh_in (sets ++ x ∷ matches) ++ more ≡ fresh_in sets ++ (ys ++ more)
  fresh_of_call {ps} {ys} {matches} a sets x more e =
      fresh_split sets (x ∷ matches) more
      ∙ ap (λ (zs : List ℕ). fresh_in sets ++ (zs ++ more)) (ap (λ (zs : List ℕ). zs ++ fresh_in matches) e ∙ ap (λ (zs : List ℕ). ys ++ zs) (fresh_matches a) ∙ append-nil ys)

  -- ---- a call of a relation, by number or through a variable

  call_does : {es : List RExp} {xs : List ℕ} {sets : List Stmt} {ps : List RPat} {ys : List ℕ} {matches : List Stmt} → AreIn c.names params es xs sets → AreMatched c.names params ps ys matches → (fits : Bool) → (IsTrue fits → IsTrue (patterns_fit counts cons vars ps))
      → (o : Env → Option ℕ) (f : Callee) → ((more : List ℕ) (e g : Env) → Stand more e g → Worth (o e) (relation_of f g))
      → Does (λ env store. with_value (searched_values.values_of c es env) (λ vs. relation_called c olds (o env) vs ps env store))
      (round_step (weight_of_sets c.names params es + (set_weight 0 + call_weight)) (entry_weight (length ps) + weight_of_matches c.names params ps)) fits (sets ++ stmt.Call f xs ys ∷ matches)
  call_does {es} {xs} {sets} {ps} {ys} {matches} ins outs fits fitting o f worth bodies answers fails next j p more go other within light fit each lost env new store st =
      let tail = stmt.Call f xs ys ∷ matches in
      afford_with c vals agree counts cons news base params vars (searched_values.values_of c es env) (λ vs. relation_called c olds (o env) vs ps env store) go other j _ _
      (λ vs is.
      subst (λ (s : Scoped). Aff j (weight_of_sets c.names params es + (set_weight 0 + call_weight)) (λ m. followed (relation_called c olds (o env) vs ps env store m) go other) (tells bodies answers fails s new store))
      (sym (onto_append c vals agree counts cons news base params vars sets tail next))
      (afford_sets c vals agree counts cons news base params vars bodies answers fails ins (on tail next) j (set_weight 0 + call_weight) (λ m. followed (relation_called c olds (o env) vs ps env store m) go other) (ys ++ more) env new store vs is
      (stands_as params vars _ _ env new (fresh_of_call outs sets (stmt.Call f xs ys) more (fresh-Call f xs ys)) st)
      (λ last st' there k. afford_less base c.step_weight j j call_weight (set_weight 0 + call_weight) (λ m. followed (relation_called c olds (o env) vs ps env store m) go other) (tells bodies answers fails (on tail next) last store) (omega arith) (omega arith)
      (calls outs (o env) f xs vs bodies answers fails next j p.first more go other env last store within (omega arith) (fitting fit) st' there (worth (ys ++ more) env last st') each lost))))

  -- ---- a call of a val

  value-Val : (k : ℕ) (new : Env) → value_of vals (expression.Val k) new ≡ vals k
  value-Val k new = ap (λ (m : Evaluation). m new) (ap (value_of vals) (sym (expression.rolls-Val k)) ∙ fold-roll-Expression Evaluation (value_at vals) (Expression-F.Val k))

  cells-Val : (k : ℕ) → cells_of (expression.Val k) ≡ 0
  cells-Val k = ap cells_of (sym (expression.rolls-Val k)) ∙ fold-roll-Expression ℕ cells_at (Expression-F.Val k)

  val_called : {ps : List RPat} {ys : List ℕ} {matches : List Stmt} → AreMatched c.names params ps ys matches → (k y : ℕ) (w : Option Value) → Worth w (vals k) → (xs : List ℕ) (vs : List Value)
      → (bodies : Bodies) (answers : Given → Rest) (fails : Rest) (next : Scoped) (j p : ℕ) (more : List ℕ) (go : State → Rest) (other : Rest) (env last : Env) (store : Store) → j ≤ i
      → (entry_weight (length ps) + weight_of_matches c.names params ps) + p ≤ c.step_weight → IsTrue (patterns_fit counts cons vars ps) → Stand (y ∷ (ys ++ more)) env last → StandFor xs vs last
      → GoesOn j p more go (tells bodies answers fails next) → Aff j 0 other fails
      → Aff j (set_weight 0 + call_weight) (λ m. followed (relation_called c olds (option_and_then relation_in w) vs ps env store m) go other)
      (tells bodies answers fails (on (stmt.Set y (expression.Val k) ∷ stmt.Call (callee.Var y) xs ys ∷ matches) next) last store)
  val_called outs k y None e xs vs bodies answers fails next j p more go other env last store within light fit st there each lost = afford_wrong base c.step_weight j _ _ _ (suc zero) refl
  val_called {ps} {ys} {matches} outs k y (Some v) e xs vs bodies answers fails next j p more go other env last store within light fit st there each lost =
      let none : cells_of (expression.Val k) ≡ 0 = cells-Val k in
      let old : Rest = λ m. followed (relation_called c olds (option_and_then relation_in (Some v)) vs ps env store m) go other in
      let looks : look y (bind y v last) ≡ Some v = look_new y v last st.awaited.1 in
      afford_less base c.step_weight j j (set_weight (cells_of (expression.Val k)) + call_weight) (set_weight 0 + call_weight) old (tells bodies answers fails (on (stmt.Set y (expression.Val k) ∷ stmt.Call (callee.Var y) xs ys ∷ matches) next) last store) (omega arith) (omega (arith, none))
      (afford_set c vals agree counts cons news base params vars bodies answers fails y (expression.Val k) (on (stmt.Call (callee.Var y) xs ys ∷ matches) next) j call_weight old last store v (value-Val k last ∙ e)
      (calls outs (option_and_then relation_in (Some v)) (callee.Var y) xs vs bodies answers fails next j p more go other env (bind y v last) store within light fit
      (stands_set params vars y v (ys ++ more) env last st) (stand_kept xs vs last (bind y v last) (keeps_bound y v last) there)
      (worth_same (option_and_then relation_in (Some v)) (option_and_then relation_in (look y (bind y v last))) (sym (ap (option_and_then relation_in) looks))) each lost))

  val_does : {es : List RExp} {xs : List ℕ} {sets : List Stmt} {ps : List RPat} {ys : List ℕ} {matches : List Stmt} → AreIn c.names params es xs sets → AreMatched c.names params ps ys matches → (fits : Bool) → (IsTrue fits → IsTrue (patterns_fit counts cons vars ps)) → (k y : ℕ)
      → Does (λ env store. with_value (searched_values.values_of c es env) (λ vs. relation_called c olds (option_and_then relation_in (c.vals k)) vs ps env store))
      (round_step (weight_of_sets c.names params es + (set_weight 0 + call_weight)) (entry_weight (length ps) + weight_of_matches c.names params ps)) fits
      (sets ++ stmt.Set y (expression.Val k) ∷ stmt.Call (callee.Var y) xs ys ∷ matches)
  val_does {es} {xs} {sets} {ps} {ys} {matches} ins outs fits fitting k y bodies answers fails next j p more go other within light fit each lost env new store st =
      let set = stmt.Set y (expression.Val k) in
      let tail = stmt.Call (callee.Var y) xs ys ∷ matches in
      let order : fresh_in (sets ++ set ∷ tail) ++ more ≡ fresh_in sets ++ (y ∷ (ys ++ more)) =
      fresh_split sets (set ∷ tail) more
      ∙ ap (λ (zs : List ℕ). fresh_in sets ++ ((zs ++ fresh_in tail) ++ more)) (fresh-Set y (expression.Val k))
      ∙ ap (λ (zs : List ℕ). fresh_in sets ++ (y ∷ (zs ++ more))) (ap (λ (zs : List ℕ). zs ++ fresh_in matches) (fresh-Call (callee.Var y) xs ys) ∙ ap (λ (zs : List ℕ). ys ++ zs) (fresh_matches outs) ∙ append-nil ys) in
      afford_with c vals agree counts cons news base params vars (searched_values.values_of c es env) (λ vs. relation_called c olds (option_and_then relation_in (c.vals k)) vs ps env store) go other j _ _
      (λ vs is.
      let old : Rest = λ m. followed (relation_called c olds (option_and_then relation_in (c.vals k)) vs ps env store m) go other in
      subst (λ (s : Scoped). Aff j (weight_of_sets c.names params es + (set_weight 0 + call_weight)) old (tells bodies answers fails s new store))
      (sym (onto_append c vals agree counts cons news base params vars sets (set ∷ tail) next))
      (afford_sets c vals agree counts cons news base params vars bodies answers fails ins (on (set ∷ tail) next) j (set_weight 0 + call_weight) old (y ∷ (ys ++ more)) env new store vs is
      (stands_as params vars _ _ env new order st)
      (λ last st' there kept'. val_called outs k y (c.vals k) (agree k) xs vs bodies answers fails next j p.first more go other env last store within (omega arith) (fitting fit) st' there each lost)))

  -- ---- built-ins

  built_does : {es : List RExp} {xs : List ℕ} {sets : List Stmt} {ps : List RPat} {ys : List ℕ} {matches : List Stmt} → AreIn c.names params es xs sets → AreMatched c.names params ps ys matches → (fits : Bool) → (IsTrue fits → IsTrue (patterns_fit counts cons vars ps)) → (k : ℕ)
      → Does (λ env store. with_value (searched_values.values_of c es env) (λ vs n. search_of.from_built_in c k ps env (apply_at k vs store) n))
      (heavier (weight_of_sets c.names params es + (built_in_weight k (length ps) + weight_of_matches c.names params ps))) fits (sets ++ stmt.Builtin k xs ys ∷ matches)
  built_does {es} {xs} {sets} {ps} {ys} {matches} ins outs fits fitting k bodies answers fails next j p more go other within light fit each lost env new store st =
      let tail = stmt.Builtin k xs ys ∷ matches in
      afford_with c vals agree counts cons news base params vars (searched_values.values_of c es env) (λ vs n. search_of.from_built_in c k ps env (apply_at k vs store) n) go other j _ _
      (λ vs is.
      let old : Rest = λ m. followed (search_of.from_built_in c k ps env (apply_at k vs store) m) go other in
      subst (λ (s : Scoped). Aff j ((weight_of_sets c.names params es + (built_in_weight k (length ps) + weight_of_matches c.names params ps)) + p.first) old (tells bodies answers fails s new store))
      (sym (onto_append c vals agree counts cons news base params vars sets tail next))
      (afford_less base c.step_weight j j (weight_of_sets c.names params es + ((built_in_weight k (length ps) + weight_of_matches c.names params ps) + p.first)) ((weight_of_sets c.names params es + (built_in_weight k (length ps) + weight_of_matches c.names params ps)) + p.first) old (tells bodies answers fails (on sets (on tail next)) new store) (omega arith) (omega arith)
      (afford_sets c vals agree counts cons news base params vars bodies answers fails ins (on tail next) j ((built_in_weight k (length ps) + weight_of_matches c.names params ps) + p.first) old (ys ++ more) env new store vs is
      (stands_as params vars _ _ env new (fresh_of_call outs sets (stmt.Builtin k xs ys) more (fresh-Builtin k xs ys)) st)
      (λ last st' there kept'. built_ins outs k xs vs bodies answers fails next j p.first more go other env last store (fitting fit) st' there each lost))))

  -- ---- equality

  equal_case : (b : Bool) (bodies : Bodies) (answers : Given → Rest) (fails : Rest) (next : Scoped) (j p : ℕ) (more : List ℕ) (go : State → Rest) (other : Rest) (env last : Env) (store : Store) → Stand more env last
      → GoesOn j p more go (tells bodies answers fails next) → Aff j 0 other fails
      → Aff j p (λ m. followed (if b then goes_on env store m else No untraced m) go other) (λ m. followed (if b then next bodies last store m else No untraced m) answers fails)
  equal_case true bodies answers fails next j p more go other env last store st each lost =
      afford_equal base c.step_weight j p (go (record { env = env; store = store })) _ (tells bodies answers fails next last store) _ (λ n. sym (traced_none (go (record { env = env; store = store }) n))) (λ n. refl)
      (each j (omega arith) env last store st)
  equal_case false bodies answers fails next j p more go other env last store st each lost =
      afford_equal base c.step_weight j p other _ fails _ (λ n. sym (traced_none (other n))) (λ n. sym (traced_none (fails n))) (afford_less base c.step_weight j j 0 p other fails (omega arith) (omega arith) lost)

  equal_does : {a b : RExp} {x y : ℕ} {first second : List Stmt} → IsIn c.names params a x first → IsIn c.names params b y second
      → Does (goal_action c olds (RGoal-F.Equal a b)) (before_at c.names params (RGoal-F.Equal a b)) (goal_fits_at counts cons vars (RGoal-F.Equal a b)) (first ++ second ++ stmt.Equal x y ∷ [])
  equal_does {a} {b} {x} {y} {first} {second} ins outs bodies answers fails next j p more go other within light fit each lost env new store st =
      let tail = stmt.Equal x y ∷ [] in
      let order : fresh_in (first ++ second ++ tail) ++ more ≡ fresh_in first ++ (fresh_in second ++ more) =
      fresh_split (first ++ second) tail more ∙ ap (λ (zs : List ℕ). fresh_in (first ++ second) ++ ((zs ++ []) ++ more)) (fresh-Equal x y) ∙ fresh_split first second more in
      let onto_is : on (first ++ second ++ tail) next ≡ on first (on second (on tail next)) =
      onto_append c vals agree counts cons news base params vars (first ++ second) tail next ∙ onto_append c vals agree counts cons news base params vars first second (on tail next) in
      let va = weight_of_set c.names params a in
      let vb = weight_of_set c.names params b in
      afford_with c vals agree counts cons news base params vars (searched_values.value_of c a env) (λ v. with_value (searched_values.value_of c b env) (λ w m. if same v w then goes_on env store m else No untraced m)) go other j _ _
      (λ v is. afford_with c vals agree counts cons news base params vars (searched_values.value_of c b env) (λ w m. if same v w then goes_on env store m else No untraced m) go other j _ _
      (λ w is'.
      let old : Rest = λ m. followed (if same v w then goes_on env store m else No untraced m) go other in
      subst (λ (s : Scoped). Aff j ((va + (vb + equal_weight)) + p.first) old (tells bodies answers fails s new store)) (sym onto_is)
      (afford_less base c.step_weight j j (va + (vb + (equal_weight + p.first))) ((va + (vb + equal_weight)) + p.first) old (tells bodies answers fails (on first (on second (on tail next))) new store) (omega arith) (omega arith)
      (afford_in c vals agree counts cons news base params vars bodies answers fails ins (on second (on tail next)) j (vb + (equal_weight + p.first)) old (fresh_in second ++ more) env new store v is (stands_as params vars _ _ env new order st)
      (λ mid st' there k. afford_in c vals agree counts cons news base params vars bodies answers fails outs (on tail next) j (equal_weight + p.first) old more env mid store w is' st'
      (λ last st'' there' k'. afford_weighing c vals agree counts cons news base params vars bodies answers fails j p.first equal_weight old (on tail next)
      (λ m. if same v w then next bodies last store m else No untraced m) last store
      (λ m. ap (λ (d : Action). d next bodies last store m) (acts-Equal vals news x y)
      ∙ ap (λ (o : Option Value). weighing equal_weight (with_value o (λ t. with_value (look y last) (λ u l. if same t u then next bodies last store l else No untraced l)) m)) (k'.at x v there)
      ∙ ap (λ (o : Option Value). weighing equal_weight (with_value o (λ u l. if same v u then next bodies last store l else No untraced l) m)) there')
      (equal_case (same v w) bodies answers fails next j p.first more go other env last store st'' each lost)))))))

  -- ---- a value against a pattern

  let_does : (q : RPat) {e : RExp} {y : ℕ} {first : List Stmt} → IsIn c.names params e y first
      → Does (goal_action c olds (RGoal-F.Let q e)) (before_at c.names params (RGoal-F.Let q e)) (goal_fits_at counts cons vars (RGoal-F.Let q e)) (first ++ stmt.Match y (pattern_of c.names params q) ∷ [])
  let_does q {e} {y} {first} ins bodies answers fails next j p more go other within light fit each lost env new store st =
      let tail = stmt.Match y (pattern_of c.names params q) ∷ [] in
      let order : fresh_in (first ++ tail) ++ more ≡ fresh_in first ++ more =
      fresh_split first tail more ∙ ap (λ (zs : List ℕ). fresh_in first ++ ((zs ++ []) ++ more)) (fresh-Match y (pattern_of c.names params q)) in
      let two = both (pattern_fits counts cons vars q) (exp_fits counts cons vars e) fit in
      afford_with c vals agree counts cons news base params vars (searched_values.value_of c e env) (λ v m. search_of.from_match (searched.matching c.names q v env) store m) go other j _ _
      (λ v is.
      let old : Rest = λ m. followed (search_of.from_match (searched.matching c.names q v env) store m) go other in
      subst (λ (s : Scoped). Aff j ((weight_of_set c.names params e + weight_of_match c.names params q) + p.first) old (tells bodies answers fails s new store)) (sym (onto_append c vals agree counts cons news base params vars first tail next))
      (afford_less base c.step_weight j j (weight_of_set c.names params e + (weight_of_match c.names params q + p.first)) ((weight_of_set c.names params e + weight_of_match c.names params q) + p.first) old (tells bodies answers fails (on first (on tail next)) new store) (omega arith) (omega arith)
      (afford_in c vals agree counts cons news base params vars bodies answers fails ins (on tail next) j (weight_of_match c.names params q + p.first) old more env new store v is (stands_as params vars _ _ env new order st)
      (λ last st' there k. afford_equal base c.step_weight j _ (after_match (searched.matching c.names q v env) (λ f. go (record { env = f; store = store })) other) old _ _
      (matched_state (searched.matching c.names q v env) store go other) (λ n. refl)
      (afford_pattern c vals agree counts cons news base params vars bodies answers fails q y next j p.first (λ f. go (record { env = f; store = store })) other more env last store v two.first st' there
      (λ f g st'' k'. each j (omega arith) f g store st'') lost)))))

  -- ---- not

  give_nothing : (f : Env) (s : Store) (answers : Given → Rest) (fails : Rest) (m : ℕ) → tells no_bodies answers fails (block vals news (stmt.Give [] ∷ [])) f s m ≡ answers (record { env = []; store = s }) m
  give_nothing f s answers fails m =
      ap (λ (a : Action). followed (a (in_turn []) no_bodies f s m) answers fails) (acts-Give vals news []) ∙ traced_none (answers (record { env = []; store = s }) m)

  not_does : (g : RGoal) (inner : List Stmt) → PremiseDoes g inner
      → Does (goal_action c olds (RGoal-F.Not (going c olds g))) (before_at c.names params (RGoal-F.Not (before c.names params g))) (goal_fits_at counts cons vars (RGoal-F.Not (goal_fits counts cons vars g))) (stmt.Not (inner ++ stmt.Give [] ∷ []) ∷ [])
  not_does g inner does bodies answers fails next j p more go other within light fit each lost env new store st =
      let state : State = record { env = env; store = store } in
      let give = stmt.Give [] ∷ [] in
      let gives_up : Given → Rest = λ a. fails in
      let goes : Rest = λ n. followed (retried (next bodies new store) n) answers fails in
      let old_goes : Rest = λ n. followed (weighted_step c.step_weight (goes_on env store) n) go other in
      let path = before c.names params g ended in
      let whole : fresh_in (stmt.Not (inner ++ give) ∷ []) ++ more ≡ fresh_in (inner ++ give) ++ more =
      ap (λ (zs : List ℕ). (zs ++ []) ++ more) (fresh-Not (inner ++ give)) ∙ ap (λ (zs : List ℕ). zs ++ more) (append-nil (fresh_in (inner ++ give))) in
      let part : fresh_in (inner ++ give) ≡ fresh_in inner ++ [] =
      fresh_append inner give ∙ ap (λ (zs : List ℕ). fresh_in inner ++ (zs ++ [])) (fresh-Give []) in
      let st' = stands_as params vars _ _ env new whole st in
      let outside : Stand more env new = stands_back params vars (fresh_in (inner ++ give)) more env new st' in
      let inside : Stand (fresh_in inner ++ []) env new = stands_as params vars _ _ env new part (stands_front params vars (fresh_in (inner ++ give)) more env new st') in
      let on_answer : GoesOn j 0 [] (λ s. other) (tells no_bodies gives_up goes (block vals news give)) =
      λ l le e f s st''. afford_equal base c.step_weight l 0 other other fails _ (λ n. refl) (λ n. sym (give_nothing f s gives_up goes n)) (afford_less base c.step_weight j l 0 0 other fails le (omega arith) lost) in
      let on_failure : Aff j 0 old_goes goes =
      afford_equal base c.step_weight j 0 (step (λ m. weigh c.step_weight (go state m))) old_goes (step (λ m. weigh (entry_weight 0) (tells bodies answers fails next new store m))) goes
      (λ n. sym (followed_weighed_step c.step_weight (goes_on env store) go other n ∙ step_each _ _ n (λ m. ap (weigh c.step_weight) (traced_none (go state m)))))
      (λ n. sym (followed_step (λ m. weighing (entry_weight 0) (next bodies new store m)) answers fails n ∙ step_each _ _ n (λ m. followed_weighing (entry_weight 0) (next bodies new store m) answers fails)))
      (afford_step base c.step_weight j 0 (entry_weight 0 + p.first) (go state) (λ m. weigh (entry_weight 0) (tells bodies answers fails next new store m)) (omega arith)
      (λ l lt. afford_weigh base c.step_weight l (entry_weight 0) p.first (go state) (tells bodies answers fails next new store) (each l (omega arith) env new store outside))) in
      afford_weighing c vals agree counts cons news base params vars bodies answers fails j path.first not_weight (λ m. followed (goal_action c olds (RGoal-F.Not (going c olds g)) env store m) go other) (on (stmt.Not (inner ++ give) ∷ []) next)
      (λ m. unless (on inner (block vals news give) no_bodies new store m) (retried (next bodies new store))) new store
      (λ m. ap (λ (a : Action). a next bodies new store m) (acts-Not vals news (inner ++ give))
      ∙ ap (λ (s : Scoped). weighing not_weight (unless (s no_bodies new store m) (retried (next bodies new store)))) (onto_block c vals agree counts cons news base params vars inner give))
      (afford_equal base c.step_weight j path.first (λ m. followed (going c olds g env store m) (λ s. other) old_goes) _ (tells no_bodies gives_up goes (on inner (block vals news give)) new store) _
      (λ n. sym (followed_unless (going c olds g env store n) (weighted_step c.step_weight (goes_on env store)) go other))
      (λ n. sym (followed_unless (on inner (block vals news give) no_bodies new store n) (retried (next bodies new store)) answers fails))
      (does no_bodies gives_up goes (block vals news give) j ended [] (λ s. other) old_goes within (omega arith) fit on_answer on_failure env new store inside))

  -- ---- in a row

  none_do : PremisesDo [] []
  none_do bodies answers fails next j p more go other within light fit each lost env new store st =
      afford_equal base c.step_weight j p.first (go (record { env = env; store = store })) _ (tells bodies answers fails next new store) _ (λ n. sym (traced_none (go (record { env = env; store = store }) n))) (λ n. refl)
      (each j (omega arith) env new store st)

  more_do : (g : RGoal) (gs : List RGoal) (first rest : List Stmt) → PremiseDoes g first → PremisesDo gs rest → PremisesDo (g ∷ gs) (first ++ rest)
  more_do g gs first rest one all bodies answers fails next j p more go other within light fit each lost env new store st =
      let two = both (goal_fits counts cons vars g) (goals_fit counts cons vars gs) fit in
      let q = before_all c.names params gs p in
      let then_all : State → Rest = λ s m. followed (going_all c olds gs s.env s.store m) go other in
      subst (λ (s : Scoped). Aff j (before c.names params g q).first (λ m. followed (going_all c olds (g ∷ gs) env store m) go other) (tells bodies answers fails s new store)) (sym (onto_append c vals agree counts cons news base params vars first rest next))
      (afford_equal base c.step_weight j _ (λ m. followed (going c olds g env store m) then_all other) _ (tells bodies answers fails (on first (on rest next)) new store) _
      (λ n. sym (followed_then (going c olds g env store n) (λ s m. going_all c olds gs s.env s.store m) go other)) (λ n. refl)
      (one bodies answers fails (on rest next) j q (fresh_in rest ++ more) then_all other within light two.first
      (λ l le e f s st'. all bodies answers fails next l p more go other (omega arith) (omega (arith, later_kept c.names params g q)) two.second
      (lower_on j l p.first more go (tells bodies answers fails next) le each) (afford_less base c.step_weight j l 0 0 other fails le (omega arith) lost) e f s st')
      lost env new store (stands_as params vars _ _ env new (fresh_split first rest more) st)))

  callee_worth : (x : ℕ) (more : List ℕ) (e f : Env) → Stand more e f → Worth (option_and_then relation_in (look x e)) (option_and_then relation_in (look (params + x) f))
  callee_worth x more e f st = worth_then relation_in (look x e) (look (params + x) f) (st.same x)

  mutual
    pub premise_does : {g : RGoal} {stmts : List Stmt} → IsPremise c.names params g stmts → PremiseDoes g stmts
    premise_does (IsPremise.relation r es ps xs ys sets matches ins outs) =
        opened (goal.Call (called.Rel r) es ps) (RGoal-F.Call (called.Rel r) es ps) (sets ++ stmt.Call (callee.Rel r) xs ys ∷ matches) (sym (goal.rolls-Call (called.Rel r) es ps))
        (call_does ins outs (goal_fits_at counts cons vars (RGoal-F.Call (called.Rel r) es ps)) (λ fit. (both (callee_fits counts vars (called.Rel r) && exps_fit counts cons vars es) (patterns_fit counts cons vars ps) fit).second)
        (λ e. Some r) (callee.Rel r) (λ more e f st. refl))
    premise_does (IsPremise.variable x es ps xs ys sets matches ins outs) =
        opened (goal.Call (called.Var x) es ps) (RGoal-F.Call (called.Var x) es ps) (sets ++ stmt.Call (callee.Var (params + x)) xs ys ∷ matches) (sym (goal.rolls-Call (called.Var x) es ps))
        (call_does ins outs (goal_fits_at counts cons vars (RGoal-F.Call (called.Var x) es ps)) (λ fit. (both (callee_fits counts vars (called.Var x) && exps_fit counts cons vars es) (patterns_fit counts cons vars ps) fit).second)
        (λ e. option_and_then relation_in (look x e)) (callee.Var (params + x)) (callee_worth x))
    premise_does (IsPremise.val k y es ps xs ys sets matches ins outs) =
        opened (goal.Call (called.Val k) es ps) (RGoal-F.Call (called.Val k) es ps) (sets ++ stmt.Set y (expression.Val k) ∷ stmt.Call (callee.Var y) xs ys ∷ matches) (sym (goal.rolls-Call (called.Val k) es ps))
        (val_does ins outs (goal_fits_at counts cons vars (RGoal-F.Call (called.Val k) es ps)) (λ fit. (both (callee_fits counts vars (called.Val k) && exps_fit counts cons vars es) (patterns_fit counts cons vars ps) fit).second) k y)
    premise_does (IsPremise.built_in k es ps xs ys sets matches ins outs) =
        opened (goal.Call (called.Built k) es ps) (RGoal-F.Call (called.Built k) es ps) (sets ++ stmt.Builtin k xs ys ∷ matches) (sym (goal.rolls-Call (called.Built k) es ps))
        (built_does ins outs (goal_fits_at counts cons vars (RGoal-F.Call (called.Built k) es ps)) (λ fit. (both (callee_fits counts vars (called.Built k) && exps_fit counts cons vars es) (patterns_fit counts cons vars ps) fit).second) k)
    premise_does (IsPremise.equality a b x y first second ins outs) =
        opened (goal.Equal a b) (RGoal-F.Equal a b) (first ++ second ++ stmt.Equal x y ∷ []) (sym (goal.rolls-Equal a b)) (equal_does ins outs)
    premise_does (IsPremise.binding q e y first ins) =
        opened (goal.Let q e) (RGoal-F.Let q e) (first ++ stmt.Match y (pattern_of c.names params q) ∷ []) (sym (goal.rolls-Let q e)) (let_does q ins)
    premise_does (IsPremise.negation g inner h) = opened (goal.Not g) (RGoal-F.Not g) (stmt.Not (inner ++ stmt.Give [] ∷ []) ∷ []) (sym (goal.rolls-Not g)) (not_does g inner (premise_does h))
    premise_does (IsPremise.brackets gs inner h) = opened (goal.All gs) (RGoal-F.All gs) inner (sym (goal.rolls-All gs)) (premises_do h)

    pub premises_do : {gs : List RGoal} {stmts : List Stmt} → ArePremises c.names params gs stmts → PremisesDo gs stmts
    premises_do ArePremises.none = none_do
    premises_do (ArePremises.more g gs first rest h k) = more_do g gs first rest (premise_does h) (premises_do k)
