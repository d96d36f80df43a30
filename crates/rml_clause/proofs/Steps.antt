-- Statement by statement: what clause form does where the search evaluates, matches and calls.
use Rattle.std.proofs.Common.{◌≡◌, ℕ, zero, ◌+◌, List, [], ◌∷◌, ◌++◌, map, length, Option, Some, None, refl, sym, ap, subst, ◌∙◌, append_assoc, arith, IsTrue}
use Rattle.std.specs.Prelude.{option_map}
use Rattle.std.proofs.lemmas.Option.{same_Some}
use Rattle.rml_base.specs.Run.{Wrong, Rest, weigh}
use Rattle.rml_simulation.specs.declared.partial.Partial.{Partial}
use Rattle.rml_simulation.specs.declared.partial.Partial.TheVariants.{No}
use Rattle.rml_simulation.specs.Partial.{untraced, stopped, followed}
use Rattle.rml_simulation.specs.Simulates.{Credit}
use Rattle.rml_simulation.proofs.Callers.{traced_none}
use Rattle.rml_value.specs.declared.value.Value.{Value}
use Rattle.rml_builtin.specs.Applied.{Store}
use Rattle.rml_terms.specs.declared.state.Binding.{Binding}
use Rattle.rml_terms.specs.declared.state.Matched.{Matched}
use Rattle.rml_terms.specs.declared.state.Matched.TheVariants as matched
use Rattle.rml_terms.specs.Env.{Env, bind, look, values_in}
use Rattle.rml_terms.specs.Matching.{then_match, match_in_turn}
use Rattle.rml_terms.specs.Evaluating.{Evaluation, with_first}
use Rattle.rml_terms.specs.Calling.{RelationCalls, with_value}
use Rattle.rml_terms.proofs.Callers.{Worth, worth_at, look_new}
use Rattle.rml_resolved.specs.declared.parts.Counts.{Counts}
use Rattle.rml_resolved.specs.declared.tables.ConDef.{ConDef}
use Rattle.rml_resolved.specs.declared.trees.RPat.{RPat}
use Rattle.rml_resolved.specs.declared.trees.RExp.{RExp, fold-roll-RExp}
use Rattle.rml_resolved.specs.declared.trees.RExp.TheOpen.{RExp-F}
use Rattle.rml_resolved.specs.declared.trees.RExp.TheVariants as exp
use Rattle.rml_resolved.specs.Fits.{pattern_fits, patterns_fit}
use Rattle.rml_resolved.proofs.Callers.{both}
use Rattle.rml_search.specs.declared.state.State.{State}
use Rattle.rml_search.specs.Context.{Context}
use Rattle.rml_search.specs.Matching as searched
use Rattle.rml_search.specs.Values as searched_values
use Rattle.rml_search.specs.Search as search_of
use Rattle.rml_search.specs.Search.{weighted_step, step_trace, taken, relation_called}
use Rattle.rml_fol.specs.declared.statements.Stmt.{Stmt, map-Stmt, roll-Stmt, fold-roll-Stmt}
use Rattle.rml_fol.specs.declared.statements.Alternative.{Alternative, fold-Alternative}
use Rattle.rml_fol.specs.declared.statements.Case.{Case, fold-Case}
use Rattle.rml_fol.specs.declared.statements.Stmt.TheOpen.{Stmt-F}
use Rattle.rml_fol.specs.declared.statements.Stmt.TheVariants as stmt
use Rattle.rml_fol.specs.declared.statements.Callee.{Callee}
use Rattle.rml_fol.specs.declared.terms.Pattern.{Pattern}
use Rattle.rml_fol.specs.declared.terms.Expression.{Expression, fold-roll-Expression}
use Rattle.rml_fol.specs.declared.terms.Expression.TheOpen.{Expression-F}
use Rattle.rml_fol.specs.declared.terms.Expression.TheVariants as expression
use Rattle.rml_fol.specs.Weights.{match_weight, set_weight}
use Rattle.rml_fol.specs.Patterns.{matching, binds}
use Rattle.rml_fol.specs.Expressions.{Vals, value_at, value_of, cells_of}
use Rattle.rml_fol.specs.Statements.{Given, Bodies, Scoped, Action, weighing, bindings_of, values_of, bind_all, from_match, action, block}
use Rattle.rml_fol.specs.Acts.{acts-Match, acts-Set}
use Rattle.rml_clause.specs.Plain.{expression_at, expression_of, pattern_of, IsIn, AreIn, AreMatched}
use Rattle.rml_clause.specs.Fresh.{fresh_at, alternative_fresh_at, case_fresh_at, fresh, fresh_in}
use Rattle.rml_clause.specs.Narrow.{weight_of_set, weight_of_sets, weight_of_match, weight_of_matches}
use Rattle.rml_clause.proofs.Environments.{Keeps, keeps_all, keeps_more, keeps_bound, StandFor, stand_kept, Stands, stands_set, stands_as}
use Rattle.rml_clause.proofs.Terms.{Agrees, pattern_agrees, expression_worth}
use Rattle.rml_clause.proofs.Budget.{followed_weighing, Affords, afford_less, afford_equal, afford_weigh, afford_wrong}

-- ---- the variables of statements in a row

pub fresh_append : (xs ys : List Stmt) → fresh_in (xs ++ ys) ≡ fresh_in xs ++ fresh_in ys
fresh_append [] ys = refl
fresh_append (x ∷ xs) ys = ap (λ (zs : List ℕ). fresh x ++ zs) (fresh_append xs ys) ∙ sym (append_assoc (fresh x) (fresh_in xs) (fresh_in ys))

pub fresh_split : (xs ys : List Stmt) (more : List ℕ) → fresh_in (xs ++ ys) ++ more ≡ fresh_in xs ++ (fresh_in ys ++ more)
fresh_split xs ys more = ap (λ (zs : List ℕ). zs ++ more) (fresh_append xs ys) ∙ append_assoc (fresh_in xs) (fresh_in ys) more

fresh_is : (x : Stmt) (y : Stmt-F Stmt Alternative Case) → x ≡ roll-Stmt y → fresh x ≡ fresh_at (map-Stmt Stmt Alternative Case (List ℕ) (List ℕ) (List ℕ) fresh (fold-Alternative (List ℕ) (List ℕ) (List ℕ) fresh_at alternative_fresh_at case_fresh_at) (fold-Case (List ℕ) (List ℕ) (List ℕ) fresh_at alternative_fresh_at case_fresh_at) y)
fresh_is x y e = ap fresh e ∙ fold-roll-Stmt (List ℕ) (List ℕ) (List ℕ) fresh_at alternative_fresh_at case_fresh_at y

pub fresh-Set : (x : ℕ) (e : Expression) → fresh (stmt.Set x e) ≡ x ∷ []
fresh-Set x e = fresh_is (stmt.Set x e) (Stmt-F.Set x e) (sym (stmt.rolls-Set x e))

pub fresh-Match : (x : ℕ) (p : Pattern) → fresh (stmt.Match x p) ≡ []
fresh-Match x p = fresh_is (stmt.Match x p) (Stmt-F.Match x p) (sym (stmt.rolls-Match x p))

pub fresh-Call : (f : Callee) (xs ys : List ℕ) → fresh (stmt.Call f xs ys) ≡ ys
fresh-Call f xs ys = fresh_is (stmt.Call f xs ys) (Stmt-F.Call f xs ys) (sym (stmt.rolls-Call f xs ys))

pub fresh-Builtin : (k : ℕ) (xs ys : List ℕ) → fresh (stmt.Builtin k xs ys) ≡ ys
fresh-Builtin k xs ys = fresh_is (stmt.Builtin k xs ys) (Stmt-F.Builtin k xs ys) (sym (stmt.rolls-Builtin k xs ys))

pub fresh-Equal : (x y : ℕ) → fresh (stmt.Equal x y) ≡ []
fresh-Equal x y = fresh_is (stmt.Equal x y) (Stmt-F.Equal x y) (sym (stmt.rolls-Equal x y))

pub fresh-Not : (b : List Stmt) → fresh (stmt.Not b) ≡ fresh_in b
fresh-Not b = fresh_is (stmt.Not b) (Stmt-F.Not b) (sym (stmt.rolls-Not b))

pub fresh-Give : (xs : List ℕ) → fresh (stmt.Give xs) ≡ []
fresh-Give xs = fresh_is (stmt.Give xs) (Stmt-F.Give xs) (sym (stmt.rolls-Give xs))

pub fresh_matches : {names : List (List ℕ)} {params : ℕ} {ps : List RPat} {ys : List ℕ} {matches : List Stmt} → AreMatched names params ps ys matches → fresh_in matches ≡ []
fresh_matches AreMatched.none = refl
fresh_matches (AreMatched.more p ps y ys rest a) = ap (λ (zs : List ℕ). zs ++ fresh_in rest) (fresh-Match y _) ∙ fresh_matches a

-- ---- the values of variables

abbrev bound_to : ℕ → Value → Binding
bound_to x v = record { var = x; value = v }

bindings_stand : (xs : List ℕ) (vs : List Value) (env : Env) → StandFor xs vs env → (bs : Env) × (bindings_of xs env ≡ Some bs) × (values_in bs ≡ vs)
bindings_stand [] [] env h = ([], refl, refl)
bindings_stand [] (v ∷ vs) env h = absurd h
bindings_stand (x ∷ xs) [] env h = absurd h
bindings_stand (x ∷ xs) (v ∷ vs) env h =
    let r = bindings_stand xs vs env h.1 in (
      bound_to x v ∷ r.0,
      ap (λ (o : Option Value). with_first (option_map (bound_to x) o) (bindings_of xs env)) h.0 ∙ ap (λ (o : Option Env). with_first (Some (bound_to x v)) o) r.1,
      ap (λ (ws : List Value). v ∷ ws) r.2,
    )

pub bindings_there : (xs : List ℕ) (vs : List Value) (env : Env) → StandFor xs vs env → (bs : Env) × (bindings_of xs env ≡ Some bs) × (values_in bs ≡ vs)
bindings_there = bindings_stand

pub values_there : (xs : List ℕ) (vs : List Value) (env : Env) → StandFor xs vs env → values_of xs env ≡ Some vs
values_there xs vs env h = let r = bindings_stand xs vs env h in ap (option_map values_in) r.1 ∙ ap Some r.2

-- as many results are received
pub record Received (params vars : ℕ) (ys : List ℕ) (vs : List Value) (more : List ℕ) (env new : Env) : Type 0 where
  pub last : Env
  pub bound : bind_all ys vs new ≡ Some last
  pub stands : Stands params vars more env last
  pub there : StandFor ys vs last
  pub keeps : Keeps new last

pub all_received : (params vars : ℕ) (ys : List ℕ) (vs : List Value) (more : List ℕ) (env new : Env) → length ys ≡ length vs → Stands params vars (ys ++ more) env new → Received params vars ys vs more env new
all_received params vars [] [] more env new e h = record { last = new; bound = refl; stands = h; there = tt; keeps = keeps_all new }
all_received params vars [] (v ∷ vs) more env new e h = absurd (omega arith)
all_received params vars (y ∷ ys) [] more env new e h = absurd (omega arith)
all_received params vars (y ∷ ys) (v ∷ vs) more env new e h =
    let r = all_received params vars ys vs more env (bind y v new) (omega arith) (stands_set params vars y v (ys ++ more) env new h) in
    record {
      last = r.last;
      bound = r.bound;
      stands = r.stands;
      there = (r.keeps.at y v (look_new y v new h.awaited.1), r.there);
      keeps = keeps_more new (bind y v new) r.last (keeps_bound y v new) r.keeps;
    }

-- values one after another
pub first_there : (o : Option Value) (r : Option (List Value)) (vs : List Value) → with_first o r ≡ Some vs → (v : Value) × (rest : List Value) × (o ≡ Some v) × (r ≡ Some rest) × (vs ≡ v ∷ rest)
first_there None r vs e = absurd (cc)
first_there (Some v) None vs e = absurd (cc)
first_there (Some v) (Some rest) vs e = (v, rest, refl, refl, sym (same_Some (v ∷ rest) vs e))

-- ---- what the search does after a match

unfoldable pub after_match : Matched → (Env → Rest) → Rest → Rest
after_match (matched.Yes e) go fails = go e
after_match matched.No go fails = fails
after_match matched.Wrong go fails = λ n. stopped Wrong untraced

pub after_then : (m : Matched) (next : Env → Matched) (go : Env → Rest) (fails : Rest) (n : ℕ)
    → after_match m (λ e. after_match (next e) go fails) fails n ≡ after_match (then_match m next) go fails n
unfolding after_match
after_then (matched.Yes e) next go fails n = refl
after_then matched.No next go fails n = refl
after_then matched.Wrong next go fails n = refl

pub matched_state : (m : Matched) (store : Store) (go : State → Rest) (fails : Rest) (n : ℕ)
    → after_match m (λ e. go (record { env = e; store = store })) fails n ≡ followed (search_of.from_match m store n) go fails
unfolding after_match
matched_state (matched.Yes e) store go fails n = sym (traced_none (go (record { env = e; store = store }) n))
matched_state matched.No store go fails n = sym (traced_none (fails n))
matched_state matched.Wrong store go fails n = refl

module _ (c : Context) (vals : Vals) (agree : (k : ℕ) → Worth (c.vals k) (vals k)) (counts : Counts) (cons : List ConDef) (news : RelationCalls) (base : Credit) (params vars : ℕ) where
  abbrev Aff : ℕ → ℕ → Rest → Rest → Type 0
  Aff = Affords base c.step_weight

  abbrev Stand : List ℕ → Env → Env → Type 0
  Stand = Stands params vars

  abbrev pub onto : List Stmt → Scoped → Scoped
  onto [] next = next
  onto (x ∷ xs) next = action vals news x (onto xs next)

  pub onto_append : (xs ys : List Stmt) (next : Scoped) → onto (xs ++ ys) next ≡ onto xs (onto ys next)
  onto_append [] ys next = refl
  onto_append (x ∷ xs) ys next = ap (λ (s : Scoped). action vals news x s) (onto_append xs ys next)

  pub onto_block : (xs ys : List Stmt) → block vals news (xs ++ ys) ≡ onto xs (block vals news ys)
  onto_block [] ys = refl
  onto_block (x ∷ xs) ys = ap (λ (s : Scoped). action vals news x s) (onto_block xs ys)

  -- where there is lost value the search is Wrong
  pub afford_with : {A C : Type 0} (o : Option A) (go : A → ℕ → Partial C) (k : C → Rest) (h : Rest) (j p : ℕ) (g : Rest)
      → ((v : A) → o ≡ Some v → Aff j p (λ m. followed (go v m) k h) g) → Aff j p (λ m. followed (with_value o go m) k h) g
  afford_with None go k h j p g each = afford_wrong base c.step_weight j p _ g zero refl
  afford_with (Some v) go k h j p g each = each v refl

  module _ (bodies : Bodies) (answers : Given → Rest) (fails : Rest) where
    -- what clause form does next, told what follows
    abbrev pub told : Scoped → Env → Store → Rest
    told next new store m = followed (next bodies new store m) answers fails

    told_weighing : (weight : ℕ) (a : Scoped) (w : ℕ → Partial Given) (new : Env) (store : Store) → ((m : ℕ) → a bodies new store m ≡ weighing weight (w m)) → (m : ℕ)
        → weigh weight (followed (w m) answers fails) ≡ told a new store m
    told_weighing weight a w new store e m = sym (ap (λ (v : Partial Given). followed v answers fails) (e m) ∙ followed_weighing weight (w m) answers fails)

    pub afford_weighing : (j p weight : ℕ) (f : Rest) (a : Scoped) (w : ℕ → Partial Given) (new : Env) (store : Store) → ((m : ℕ) → a bodies new store m ≡ weighing weight (w m))
        → Aff j p f (λ m. followed (w m) answers fails) → Aff j (weight + p) f (told a new store)
    afford_weighing j p weight f a w new store e u =
        afford_equal base c.step_weight j (weight + p) f f (λ m. weigh weight (followed (w m) answers fails)) (told a new store) (λ n. refl) (told_weighing weight a w new store e)
        (afford_weigh base c.step_weight j weight p f (λ m. followed (w m) answers fails) u)

    -- ---- sets

    pub afford_set : (y : ℕ) (e : Expression) (next : Scoped) (j p : ℕ) (f : Rest) (new : Env) (store : Store) (v : Value) → value_of vals e new ≡ Some v
        → Aff j p f (told next (bind y v new) store) → Aff j (set_weight (cells_of e) + p) f (told (action vals news (stmt.Set y e) next) new store)
    afford_set y e next j p f new store v is u =
        afford_weighing j p (set_weight (cells_of e)) f (action vals news (stmt.Set y e) next) (next bodies (bind y v new) store) new store
        (λ m. ap (λ (a : Action). a next bodies new store m) (acts-Set vals news y e)
        ∙ ap (λ (o : Option Value). weighing (set_weight (cells_of e)) (with_value o (λ w. next bodies (bind y w new) store) m)) is)
        u

    pub afford_in : {e : RExp} {y : ℕ} {sets : List Stmt} → IsIn c.names params e y sets → (next : Scoped) (j p : ℕ) (f : Rest) (more : List ℕ) (env new : Env) (store : Store) (v : Value)
        → searched_values.value_of c e env ≡ Some v → Stand (fresh_in sets ++ more) env new
        → ((last : Env) → Stand more env last → look y last ≡ Some v → Keeps new last → Aff j p f (told next last store))
        → Aff j (weight_of_set c.names params e + p) f (told (onto sets next) new store)
    afford_in (IsIn.own x) next j p f more env new store v is h each =
        let there : value_of vals (expression_of c.names params (exp.Var x)) new ≡ Some v =
        worth_at (searched_values.value_of c (exp.Var x) env) (value_of vals (expression_of c.names params (exp.Var x)) new) v (expression_worth params vars c.names c.vals vals agree (exp.Var x) more env new h) is in
        let var : expression_of c.names params (exp.Var x) ≡ expression.Var (params + x) =
        ap (expression_of c.names params) (sym (exp.rolls-Var x)) ∙ fold-roll-RExp Expression (expression_at c.names params) (RExp-F.Var x) in
        let looks : value_of vals (expression.Var (params + x)) new ≡ look (params + x) new =
        ap (λ (m : Evaluation). m new) (ap (value_of vals) (sym (expression.rolls-Var (params + x))) ∙ fold-roll-Expression Evaluation (value_at vals) (Expression-F.Var (params + x))) in
        afford_less base c.step_weight j j p (weight_of_set c.names params (exp.Var x) + p) f (told next new store) (omega arith) (omega arith)
        (each new h (sym looks ∙ ap (λ (z : Expression). value_of vals z new) (sym var) ∙ there) (keeps_all new))
    afford_in (IsIn.set e y lost) next j p f more env new store v is h each =
        let st : Stand (y ∷ more) env new = stands_as params vars _ (y ∷ more) env new (ap (λ (xs : List ℕ). (xs ++ []) ++ more) (fresh-Set y (expression_of c.names params e))) h in
        let there : value_of vals (expression_of c.names params e) new ≡ Some v =
        worth_at (searched_values.value_of c e env) (value_of vals (expression_of c.names params e) new) v (expression_worth params vars c.names c.vals vals agree e (y ∷ more) env new st) is in
        afford_set y (expression_of c.names params e) next j p f new store v there
        (each (bind y v new) (stands_set params vars y v more env new st) (look_new y v new st.awaited.1) (keeps_bound y v new))

    pub afford_sets : {es : List RExp} {ys : List ℕ} {sets : List Stmt} → AreIn c.names params es ys sets → (next : Scoped) (j p : ℕ) (f : Rest) (more : List ℕ) (env new : Env) (store : Store) (vs : List Value)
        → searched_values.values_of c es env ≡ Some vs → Stand (fresh_in sets ++ more) env new
        → ((last : Env) → Stand more env last → StandFor ys vs last → Keeps new last → Aff j p f (told next last store))
        → Aff j (weight_of_sets c.names params es + p) f (told (onto sets next) new store)
    afford_sets AreIn.none next j p f more env new store vs is h each =
        afford_less base c.step_weight j j p (0 + p) f (told next new store) (omega arith) (omega arith)
        (each new h (subst (λ (ws : List Value). StandFor [] ws new) (same_Some [] vs is) tt) (keeps_all new))
    afford_sets (AreIn.more e es y ys first rest a b) next j p f more env new store vs is h each =
        let parts = first_there (searched_values.value_of c e env) (searched_values.values_of c es env) vs is in
        let st : Stand (fresh_in first ++ (fresh_in rest ++ more)) env new = stands_as params vars _ _ env new (fresh_split first rest more) h in
        let u : Aff j (weight_of_set c.names params e + (weight_of_sets c.names params es + p)) f (told (onto first (onto rest next)) new store) =
        afford_in a (onto rest next) j (weight_of_sets c.names params es + p) f (fresh_in rest ++ more) env new store parts.0 parts.2 st
        (λ mid st' there k. afford_sets b next j p f more env mid store parts.1 parts.3 st'
        (λ last st'' theres k'. each last st'' (subst (λ (ws : List Value). StandFor (y ∷ ys) ws last) (sym parts.4) (k'.at y parts.0 there, theres)) (keeps_more new mid last k k'))) in
        subst (λ (s : Scoped). Aff j (weight_of_sets c.names params (e ∷ es) + p) f (told s new store)) (sym (onto_append first rest next))
        (afford_less base c.step_weight j j (weight_of_set c.names params e + (weight_of_sets c.names params es + p)) (weight_of_sets c.names params (e ∷ es) + p) f (told (onto first (onto rest next)) new store) (omega arith) (omega arith) u)

    -- ---- matches

    afford_match : (m w : Matched) (next : Scoped) (j p : ℕ) (go : Env → Rest) (other : Rest) (more : List ℕ) (new : Env) (store : Store) → Agrees params vars more new m w
        → ((e f : Env) → Stand more e f → Keeps new f → Aff j p (go e) (told next f store)) → Aff j 0 other fails
        → Aff j p (after_match m go other) (λ n. followed (from_match w (λ f. next bodies f store) n) answers fails)
    unfolding after_match
    afford_match (matched.Yes e) (matched.Yes f) next j p go other more new store h each lost = each e f h.0 h.1
    afford_match (matched.Yes e) matched.No next j p go other more new store h each lost = absurd h
    afford_match (matched.Yes e) matched.Wrong next j p go other more new store h each lost = absurd h
    afford_match matched.No (matched.Yes f) next j p go other more new store h each lost = absurd h
    afford_match matched.No matched.No next j p go other more new store h each lost =
        afford_equal base c.step_weight j p other other fails (λ n. followed (No untraced n) answers fails) (λ n. refl) (λ n. sym (traced_none (fails n)))
        (afford_less base c.step_weight j j 0 p other fails (omega arith) (omega arith) lost)
    afford_match matched.No matched.Wrong next j p go other more new store h each lost = absurd h
    afford_match matched.Wrong w next j p go other more new store h each lost = afford_wrong base c.step_weight j p _ _ zero refl

    pub afford_pattern : (q : RPat) (y : ℕ) (next : Scoped) (j p : ℕ) (go : Env → Rest) (other : Rest) (more : List ℕ) (env new : Env) (store : Store) (v : Value) → IsTrue (pattern_fits counts cons vars q)
        → Stand more env new → look y new ≡ Some v → ((e f : Env) → Stand more e f → Keeps new f → Aff j p (go e) (told next f store)) → Aff j 0 other fails
        → Aff j (weight_of_match c.names params q + p) (after_match (searched.matching c.names q v env) go other) (told (action vals news (stmt.Match y (pattern_of c.names params q)) next) new store)
    afford_pattern q y next j p go other more env new store v fit h is each lost =
        let pat = pattern_of c.names params q in
        afford_weighing j p (match_weight (binds pat)) (after_match (searched.matching c.names q v env) go other) (action vals news (stmt.Match y pat) next) (from_match (matching pat v new) (λ f. next bodies f store)) new store
        (λ m. ap (λ (a : Action). a next bodies new store m) (acts-Match vals news y pat)
        ∙ ap (λ (o : Option Value). weighing (match_weight (binds pat)) (with_value o (λ w l. from_match (matching pat w new) (λ f. next bodies f store) l) m)) is)
        (afford_match (searched.matching c.names q v env) (matching pat v new) next j p go other more new store (pattern_agrees params vars more c.names counts cons q fit v env new h) each lost)

    pub afford_matches : {ps : List RPat} {ys : List ℕ} {matches : List Stmt} → AreMatched c.names params ps ys matches → (next : Scoped) (j p : ℕ) (go : Env → Rest) (other : Rest) (more : List ℕ) (env new : Env) (store : Store) (vs : List Value)
        → IsTrue (patterns_fit counts cons vars ps) → Stand more env new → StandFor ys vs new
        → ((e f : Env) → Stand more e f → Aff j p (go e) (told next f store)) → Aff j 0 other fails
        → Aff j (weight_of_matches c.names params ps + p) (after_match (match_in_turn (map (searched.matching c.names) ps) vs env) go other) (told (onto matches next) new store)
    unfolding after_match
    afford_matches AreMatched.none next j p go other more env new store [] fit h there each lost =
        afford_less base c.step_weight j j p (0 + p) (go env) (told next new store) (omega arith) (omega arith) (each env new h)
    afford_matches AreMatched.none next j p go other more env new store (v ∷ vs) fit h there each lost = absurd there
    afford_matches (AreMatched.more q ps y ys rest a) next j p go other more env new store [] fit h there each lost = absurd there
    afford_matches (AreMatched.more q ps y ys rest a) next j p go other more env new store (v ∷ vs) fit h there each lost =
        let two = both (pattern_fits counts cons vars q) (patterns_fit counts cons vars ps) fit in
        let old = λ (e : Env). after_match (match_in_turn (map (searched.matching c.names) ps) vs e) go other in
        afford_equal base c.step_weight j (weight_of_matches c.names params (q ∷ ps) + p) (after_match (searched.matching c.names q v env) old other) _ (told (onto (stmt.Match y (pattern_of c.names params q) ∷ rest) next) new store) _
        (after_then (searched.matching c.names q v env) (match_in_turn (map (searched.matching c.names) ps) vs) go other) (λ n. refl)
        (afford_less base c.step_weight j j (weight_of_match c.names params q + (weight_of_matches c.names params ps + p)) (weight_of_matches c.names params (q ∷ ps) + p) (after_match (searched.matching c.names q v env) old other) (told (onto (stmt.Match y (pattern_of c.names params q) ∷ rest) next) new store) (omega arith) (omega arith)
        (afford_pattern q y (onto rest next) j (weight_of_matches c.names params ps + p) old other more env new store v two.first h there.0
        (λ e f st k. afford_matches a next j p go other more e f store vs two.second st (stand_kept ys vs new f k there.1) each lost) lost))
