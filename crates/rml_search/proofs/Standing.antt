-- What is bound after a match and after goals; and so each expression of a rule has a value where it comes to be evaluated.
use Rattle.std.proofs.Common.{◌≡◌, ℕ, zero, suc, Bool, true, false, List, [], ◌∷◌, ◌++◌, map, length, Option, Some, None, refl, sym, ap, ◌∙◌, subst, append_assoc, arith}
use Rattle.std.specs.Prelude.{◌==◌, ◌&&◌, if◌then◌else◌, slice_get, IsSome, option_map, option_and_then, ℤ}
use Rattle.std.specs.List.{list_all, concat, Contains}
use Rattle.std.specs.Str.{bytes_eq}
use Rattle.std.specs.Ordering.{int_eq}
use Rattle.std.proofs.lemmas.Bool.{ltb-true}
use Rattle.std.proofs.lemmas.List.{append-nil, map-append}
use Rattle.std.proofs.lemmas.List.Folds.{list_all-append}
use Rattle.std.proofs.lemmas.Option.{cond_some, same_Some, option_and_then_some}
use Rattle.rml_simulation.specs.declared.partial.Trace.{Trace}
use Rattle.rml_simulation.specs.declared.partial.Partial.{Partial}
use Rattle.rml_simulation.specs.declared.partial.Partial.TheVariants.{Yes, No, CutOff, GoneWrong}
use Rattle.rml_simulation.specs.Partial.{untraced, after, then_go, unless}
use Rattle.rml_syntax.specs.declared.token.Lit.{Lit}
use Rattle.rml_syntax.specs.declared.token.Lit.TheVariants as lit
use Rattle.rml_value.specs.declared.value.Value.{Value, out-Value}
use Rattle.rml_value.specs.declared.value.Value.TheOpen.{Value-F}
use Rattle.rml_value.specs.declared.value.TheConstants.{NIL, CONS}
use Rattle.rml_value.specs.Same.{same}
use Rattle.rml_builtin.specs.declared.applied.Answer.{Answer}
use Rattle.rml_builtin.specs.declared.applied.Applied.{Applied}
use Rattle.rml_builtin.specs.declared.applied.Applied.TheVariants as applied
use Rattle.rml_builtin.specs.Applied.{Store}
use Rattle.rml_builtin.specs.BuiltIns.{apply_at}
use Rattle.rml_resolved.specs.declared.program.Program.{Program}
use Rattle.rml_resolved.specs.declared.tables.RelDef.{RelDef}
use Rattle.rml_resolved.specs.declared.tables.RRule.{RRule}
use Rattle.rml_resolved.specs.declared.trees.RPat.{RPat, map-RPat, roll-RPat, fold-roll-RPat, ind-RPat}
use Rattle.rml_resolved.specs.declared.trees.RPat.TheOpen.{RPat-F}
use Rattle.rml_resolved.specs.declared.trees.Callee.{Callee}
use Rattle.rml_resolved.specs.declared.trees.Callee.TheVariants as callee
use Rattle.rml_resolved.specs.declared.trees.RGoal.{RGoal, out-RGoal, map-RGoal, roll-RGoal, fold-roll-RGoal, ind-RGoal}
use Rattle.rml_resolved.specs.declared.trees.RGoal.TheOpen.{RGoal-F}
use Rattle.rml_resolved.specs.declared.trees.RGoal.TheVariants.{Not, All, rolls-Not, rolls-All}
use Rattle.rml_resolved.specs.declared.trees.RGoal.TheViews.{out-roll-RGoal}
use Rattle.rml_resolved.specs.Binding.{contains, binds_at, binds, all_bind, uses, all_use, callee_uses, can_use, Part, bound_at, after_goal, after_goals, parts_in_turn, before_results, has_all, uses_bound, relation_uses_bound}
use Rattle.rml_resolved.specs.Fits.{goal_fits_at, pattern_fits, patterns_fit, exp_fits, exps_fit, callee_fits, goal_fits, goals_fit, rule_fits, relation_fits, counts_of}
use Rattle.rml_resolved.proofs.Callers.{Both, both, passes}
use Rattle.rml_terms.specs.declared.state.Binding.{Binding}
use Rattle.rml_terms.specs.declared.state.Matched.{Matched}
use Rattle.rml_terms.specs.declared.state.Matched.TheVariants as matched
use Rattle.rml_search.specs.declared.state.State.{State}
use Rattle.rml_terms.specs.Env.{Env, bind, bound_in}
use Rattle.rml_terms.specs.Matching.{Matcher, then_match, match_in_turn, match_all, match_con_at, match_tuple_at, match_list, match_chain, match_int, match_char, match_text}
use Rattle.rml_terms.specs.Calling.{RelationCalls, trace_of_built_in, with_value}
use Rattle.rml_search.specs.Matching.{match_named, match_lit, match_at, matching, matching_all}
use Rattle.rml_search.specs.Values.{value_of, values_of}
use Rattle.rml_search.specs.Context.{Context}
use Rattle.rml_search.specs.Search.{step_trace, weighted_step, Action, goes_on, goals_in_turn, from_match, taken, from_built_in, call, relation_of, relation_called, called, goal_action, going, going_all}
use Rattle.rml_search.specs.Whole.{context_of}
use Rattle.rml_search.specs.Standing.{BindsAlso, HasBound, Stands, in_rule, in_not, in_brackets, CalleeHasValue, HasValues}
use Rattle.rml_search.proofs.Valued.{each_val, found_in, each_expression, all_expressions}

-- ---- after a match

same_env : (env : Env) → BindsAlso env [] (matched.Yes env)
same_env env = sym (append-nil (bound_in env))

-- behind a match that bound the first variables
shift : (env next : Env) (xs ys : List ℕ) (m : Matched) → bound_in next ≡ bound_in env ++ xs → BindsAlso next ys m → BindsAlso env (xs ++ ys) m
shift env next xs ys (matched.Yes last) e h = h ∙ ap (λ (zs : List ℕ). zs ++ ys) e ∙ append_assoc (bound_in env) xs ys
shift env next xs ys matched.No e h = tt
shift env next xs ys matched.Wrong e h = tt

then_binds : (env : Env) (xs ys : List ℕ) (m : Matched) (go : Env → Matched) → BindsAlso env xs m → ((next : Env) → BindsAlso next ys (go next))
    → BindsAlso env (xs ++ ys) (then_match m go)
then_binds env xs ys (matched.Yes next) go h each = shift env next xs ys (go next) h (each next)
then_binds env xs ys matched.No go h each = tt
then_binds env xs ys matched.Wrong go h each = tt

if_binds : (b : Bool) (env : Env) (xs : List ℕ) (m w : Matched) → BindsAlso env xs m → BindsAlso env xs w → BindsAlso env xs (if b then m else w)
if_binds true env xs m w h k = h
if_binds false env xs m w h k = k

int_binds : (n : ℤ) (w : Value-F Value) (env : Env) → BindsAlso env [] (match_int n w env)
int_binds n (Value-F.Int m) env = if_binds (int_eq n m) env [] (matched.Yes env) matched.No (same_env env) tt
int_binds n _ env = tt

char_binds : (c : ℕ) (w : Value-F Value) (env : Env) → BindsAlso env [] (match_char c w env)
char_binds c (Value-F.Char d) env = if_binds (c == d) env [] (matched.Yes env) matched.No (same_env env) tt
char_binds c _ env = tt

text_binds : (bytes : List ℕ) (w : Value-F Value) (env : Env) → BindsAlso env [] (match_text bytes w env)
text_binds bytes (Value-F.Text t) env = if_binds (bytes_eq bytes t) env [] (matched.Yes env) matched.No (same_env env) tt
text_binds bytes _ env = tt

named_binds : (o : Option (List ℕ)) (w : Value-F Value) (env : Env) → BindsAlso env [] (match_named o w env)
named_binds None w env = tt
named_binds (Some bytes) w env = text_binds bytes w env

lit_binds : (names : List (List ℕ)) (l : Lit) (w : Value-F Value) (env : Env) → BindsAlso env [] (match_lit names l w env)
lit_binds names (lit.Int n) w env = int_binds n w env
lit_binds names (lit.Char c) w env = char_binds c w env
lit_binds names (lit.Text k) w env = named_binds (slice_get names k) w env

bind_bound : (x : ℕ) (v : Value) (env : Env) → bound_in (bind x v env) ≡ bound_in env ++ x ∷ []
bind_bound x v env = map-append (λ (b : Binding). b.var) env (record { var = x; value = v } ∷ [])

abbrev Adds : Matcher → List ℕ → Type 0
Adds m xs = (v : Value) (env : Env) → BindsAlso env xs (m v env)

-- a constructor with no arguments, and one with two
none_bind : (c : ℕ) (w : Value-F Value) (env : Env) → BindsAlso env [] (match_con_at c [] w env)
none_bind c (Value-F.Con d []) env = if_binds (c == d) env [] (matched.Yes env) matched.No (same_env env) tt
none_bind c (Value-F.Con d (v ∷ vs)) env = if_binds (c == d) env [] (match_all [] (v ∷ vs) env) matched.No (if_binds (0 == length (v ∷ vs)) env [] matched.Wrong matched.Wrong tt tt) tt
none_bind c _ env = tt

one_turn : (q : Matcher) (ys : List ℕ) (vs : List Value) → Adds q ys → (env : Env) → BindsAlso env ys (match_in_turn (q ∷ []) vs env)
one_turn q ys [] g env = tt
one_turn q ys (v ∷ []) g env = subst (λ (zs : List ℕ). BindsAlso env zs (match_in_turn (q ∷ []) (v ∷ []) env)) (append-nil ys) (then_binds env ys [] (q v env) (match_in_turn [] []) (g v env) same_env)
one_turn q ys (v ∷ w ∷ vs) g env =
    subst (λ (zs : List ℕ). BindsAlso env zs (match_in_turn (q ∷ []) (v ∷ w ∷ vs) env)) (append-nil ys) (then_binds env ys [] (q v env) (match_in_turn [] (w ∷ vs)) (g v env) (λ next. tt))

two_turns : (m q : Matcher) (xs ys : List ℕ) (vs : List Value) (env : Env) → Adds m xs → Adds q ys → BindsAlso env (xs ++ ys) (match_in_turn (m ∷ q ∷ []) vs env)
two_turns m q xs ys [] env f g = tt
two_turns m q xs ys (v ∷ vs) env f g = then_binds env xs ys (m v env) (match_in_turn (q ∷ []) vs) (f v env) (one_turn q ys vs g)

two_bind : (c : ℕ) (m q : Matcher) (xs ys : List ℕ) (w : Value-F Value) (env : Env) → Adds m xs → Adds q ys → BindsAlso env (xs ++ ys) (match_con_at c (m ∷ q ∷ []) w env)
two_bind c m q xs ys (Value-F.Con d vs) env f g =
    if_binds (c == d) env (xs ++ ys) (match_all (m ∷ q ∷ []) vs env) matched.No
    (if_binds (2 == length vs) env (xs ++ ys) (match_in_turn (m ∷ q ∷ []) vs env) matched.Wrong (two_turns m q xs ys vs env f g) tt) tt
two_bind c m q xs ys _ env f g = tt

module _ (names : List (List ℕ)) where
  abbrev PatternBinds : RPat → Type 0
  PatternBinds p = Adds (matching names p) (binds p)

  pattern_rolled : (y : RPat-F RPat) → Adds (match_at names (map-RPat RPat Matcher (matching names) y)) (binds_at (map-RPat RPat (List ℕ) binds y)) → PatternBinds (roll-RPat y)
  pattern_rolled y each v env =
      subst (λ (xs : List ℕ). BindsAlso env xs (matching names (roll-RPat y) v env)) (sym (fold-roll-RPat (List ℕ) binds_at y))
      (subst (λ (m : Matcher). BindsAlso env (binds_at (map-RPat RPat (List ℕ) binds y)) (m v env)) (sym (fold-roll-RPat Matcher (match_at names) y)) (each v env))

  turn_binds : (ps : List ((x : RPat) × PatternBinds x)) (vs : List Value) (env : Env)
      → BindsAlso env (concat (map binds (map (λ e. e.0) ps))) (match_in_turn (map (matching names) (map (λ e. e.0) ps)) vs env)
  turn_binds [] [] env = same_env env
  turn_binds [] (v ∷ vs) env = tt
  turn_binds (e ∷ ps) [] env = tt
  turn_binds (e ∷ ps) (v ∷ vs) env =
      then_binds env (binds e.0) (concat (map binds (map (λ e. e.0) ps))) (matching names e.0 v env) (match_in_turn (map (matching names) (map (λ e. e.0) ps)) vs)
      (e.1 v env) (turn_binds ps vs)

  each_binds : (ps : List ((x : RPat) × PatternBinds x)) (vs : List Value) (env : Env)
      → BindsAlso env (concat (map binds (map (λ e. e.0) ps))) (match_all (map (matching names) (map (λ e. e.0) ps)) vs env)
  each_binds ps vs env =
      if_binds (length (map (matching names) (map (λ e. e.0) ps)) == length vs) env (concat (map binds (map (λ e. e.0) ps)))
      (match_in_turn (map (matching names) (map (λ e. e.0) ps)) vs env) matched.Wrong (turn_binds ps vs env) tt

  con_binds : (c : ℕ) (ps : List ((x : RPat) × PatternBinds x)) (w : Value-F Value) (env : Env)
      → BindsAlso env (concat (map binds (map (λ e. e.0) ps))) (match_con_at c (map (matching names) (map (λ e. e.0) ps)) w env)
  con_binds c ps (Value-F.Con d vs) env =
      if_binds (c == d) env (concat (map binds (map (λ e. e.0) ps))) (match_all (map (matching names) (map (λ e. e.0) ps)) vs env) matched.No (each_binds ps vs env) tt
  con_binds c ps _ env = tt

  tuple_binds : (ps : List ((x : RPat) × PatternBinds x)) (w : Value-F Value) (env : Env)
      → BindsAlso env (concat (map binds (map (λ e. e.0) ps))) (match_tuple_at (map (matching names) (map (λ e. e.0) ps)) w env)
  tuple_binds ps (Value-F.Tuple vs) env = each_binds ps vs env
  tuple_binds ps _ env = tt

  list_binds : (ps : List ((x : RPat) × PatternBinds x)) → Adds (match_list (map (matching names) (map (λ e. e.0) ps))) (concat (map binds (map (λ e. e.0) ps)))
  list_binds [] v env = none_bind NIL (out-Value v) env
  list_binds (e ∷ ps) v env =
      two_bind CONS (matching names e.0) (match_list (map (matching names) (map (λ e. e.0) ps))) (binds e.0) (concat (map binds (map (λ e. e.0) ps))) (out-Value v) env
      e.1 (list_binds ps)

  chain_binds : (ps : List ((x : RPat) × PatternBinds x)) → Adds (match_chain (map (matching names) (map (λ e. e.0) ps))) (concat (map binds (map (λ e. e.0) ps)))
  chain_binds [] v env = tt
  chain_binds (e ∷ []) v env = subst (λ (xs : List ℕ). BindsAlso env xs (matching names e.0 v env)) (sym (append-nil (binds e.0))) (e.1 v env)
  chain_binds (e ∷ f ∷ ps) v env =
      two_bind CONS (matching names e.0) (match_chain (map (matching names) (map (λ e. e.0) (f ∷ ps)))) (binds e.0) (concat (map binds (map (λ e. e.0) (f ∷ ps)))) (out-Value v) env
      e.1 (chain_binds (f ∷ ps))

  pattern_layer : (y : RPat-F ((x : RPat) × PatternBinds x)) → PatternBinds (roll-RPat (map-RPat ((x : RPat) × PatternBinds x) RPat (λ e. e.0) y))
  pattern_layer RPat-F.Any = pattern_rolled RPat-F.Any (λ v env. same_env env)
  pattern_layer (RPat-F.Lit l) = pattern_rolled (RPat-F.Lit l) (λ v env. lit_binds names l (out-Value v) env)
  pattern_layer (RPat-F.Var x) = pattern_rolled (RPat-F.Var x) (λ v env. bind_bound x v env)
  pattern_layer (RPat-F.Con c ps) = pattern_rolled (RPat-F.Con c (map (λ e. e.0) ps)) (λ v env. con_binds c ps (out-Value v) env)
  pattern_layer (RPat-F.Tuple ps) = pattern_rolled (RPat-F.Tuple (map (λ e. e.0) ps)) (λ v env. tuple_binds ps (out-Value v) env)
  pattern_layer (RPat-F.List ps) = pattern_rolled (RPat-F.List (map (λ e. e.0) ps)) (list_binds ps)
  pattern_layer (RPat-F.Cons ps) = pattern_rolled (RPat-F.Cons (map (λ e. e.0) ps)) (chain_binds ps)
  pattern_layer (RPat-F.Bind x e) =
      pattern_rolled (RPat-F.Bind x e.0)
      (λ v env. shift env (bind x v env) (x ∷ []) (binds e.0) (matching names e.0 v (bind x v env)) (bind_bound x v env) (e.1 v (bind x v env)))

  pub match_binds : (p : RPat) → PatternBinds p
  match_binds = ind-RPat PatternBinds (λ x y is. subst (λ z. PatternBinds (roll-RPat z)) is (pattern_layer y))

  turns_bind : (ps : List RPat) (vs : List Value) (env : Env) → BindsAlso env (all_bind ps) (match_in_turn (map (matching names) ps) vs env)
  turns_bind [] [] env = same_env env
  turns_bind [] (v ∷ vs) env = tt
  turns_bind (p ∷ ps) [] env = tt
  turns_bind (p ∷ ps) (v ∷ vs) env =
      then_binds env (binds p) (all_bind ps) (matching names p v env) (match_in_turn (map (matching names) ps) vs) (match_binds p v env) (turns_bind ps vs)

  pub matches_bind : (ps : List RPat) (vs : List Value) (env : Env) → BindsAlso env (all_bind ps) (matching_all names ps vs env)
  matches_bind ps vs env =
      if_binds (length (map (matching names) ps) == length vs) env (all_bind ps) (match_in_turn (map (matching names) ps) vs env) matched.Wrong (turns_bind ps vs env) tt

-- ---- after goals

bound_after : (bound : List ℕ) (t : Trace) (w : Partial State) → HasBound bound w → HasBound bound (after t w)
bound_after bound t (Yes s u n) h = h
bound_after bound t (No u n) h = tt
bound_after bound t (CutOff u) h = tt
bound_after bound t (GoneWrong u) h = tt

bound_then : {A : Type 0} (bound : List ℕ) (w : Partial A) (go : A → ℕ → Partial State) → ((a : A) (n : ℕ) → HasBound bound (go a n)) → HasBound bound (then_go w go)
bound_then bound (Yes a t n) go each = bound_after bound t (go a n) (each a n)
bound_then bound (No t n) go each = tt
bound_then bound (CutOff t) go each = tt
bound_then bound (GoneWrong t) go each = tt

bound_on : (before bound : List ℕ) (w : Partial State) (go : State → ℕ → Partial State) → HasBound before w
    → ((s : State) (n : ℕ) → bound_in s.env ≡ before → HasBound bound (go s n)) → HasBound bound (then_go w go)
bound_on before bound (Yes s t n) go h each = bound_after bound t (go s n) (each s n h)
bound_on before bound (No t n) go h each = tt
bound_on before bound (CutOff t) go h each = tt
bound_on before bound (GoneWrong t) go h each = tt

bound_unless : {A : Type 0} (bound : List ℕ) (w : Partial A) (go : ℕ → Partial State) → ((n : ℕ) → HasBound bound (go n)) → HasBound bound (unless w go)
bound_unless bound (Yes a t n) go each = tt
bound_unless bound (No t n) go each = bound_after bound t (go n) (each n)
bound_unless bound (CutOff t) go each = tt
bound_unless bound (GoneWrong t) go each = tt

bound_with : {A : Type 0} (bound : List ℕ) (o : Option A) (go : A → ℕ → Partial State) (n : ℕ) → ((a : A) → HasBound bound (go a n)) → HasBound bound (with_value o go n)
bound_with bound None go n each = tt
bound_with bound (Some a) go n each = each a

bound_step : (weight : ℕ) (bound : List ℕ) (go : ℕ → Partial State) (n : ℕ) → ((m : ℕ) → HasBound bound (go m)) → HasBound bound (weighted_step weight go n)
bound_step weight bound go zero each = tt
bound_step weight bound go (suc n) each = bound_after bound (step_trace weight) (go n) (each n)

bound_match : (env : Env) (xs bound : List ℕ) (m : Matched) (store : Store) (n : ℕ) → bound_in env ++ xs ≡ bound → BindsAlso env xs m → HasBound bound (from_match m store n)
bound_match env xs bound (matched.Yes next) store n e h = h ∙ e
bound_match env xs bound matched.No store n e h = tt
bound_match env xs bound matched.Wrong store n e h = tt

bound_same : (b : Bool) (bound : List ℕ) (env : Env) (store : Store) (n : ℕ) → bound_in env ≡ bound
    → HasBound bound (if b then goes_on env store n else No untraced n)
bound_same true bound env store n e = e
bound_same false bound env store n e = tt

module _ (c : Context) (calls : RelationCalls) where
  bound_taken : (ps : List RPat) (bound : List ℕ) (env : Env) (a : Answer) (n : ℕ) → bound_in env ++ all_bind ps ≡ bound → HasBound bound (taken c ps env a n)
  bound_taken ps bound env a n e = bound_match env (all_bind ps) bound (matching_all c.names ps a.values env) a.store n e (matches_bind c.names ps a.values env)

  bound_built : (number : ℕ) (ps : List RPat) (bound : List ℕ) (env : Env) (g : Applied) (n : ℕ) → bound_in env ++ all_bind ps ≡ bound → HasBound bound (from_built_in c number ps env g n)
  bound_built number ps bound env (applied.Yes a t) n e = bound_after bound (trace_of_built_in number a.values t) (taken c ps env a n) (bound_taken ps bound env a n e)
  bound_built number ps bound env applied.No n e = tt
  bound_built number ps bound env applied.Wrong n e = tt

  bound_relation : (r : Option ℕ) (vs : List Value) (ps : List RPat) (bound : List ℕ) (env : Env) (store : Store) (n : ℕ) → bound_in env ++ all_bind ps ≡ bound
      → HasBound bound (relation_called c calls r vs ps env store n)
  bound_relation r vs ps bound env store n e =
      bound_then bound (call c calls r (record { values = vs; store = store }) n) (taken c ps env) (λ a m. bound_taken ps bound env a m e)

  bound_called : (f : Callee) (vs : List Value) (ps : List RPat) (bound : List ℕ) (env : Env) (store : Store) (n : ℕ) → bound_in env ++ all_bind ps ≡ bound
      → HasBound bound (called c calls f vs ps env store n)
  bound_called (callee.Built k) vs ps bound env store n e = bound_built k ps bound env (apply_at k vs store) n e
  bound_called (callee.Rel r) vs ps bound env store n e = bound_relation (relation_of c (callee.Rel r) env) vs ps bound env store n e
  bound_called (callee.Var x) vs ps bound env store n e = bound_relation (relation_of c (callee.Var x) env) vs ps bound env store n e
  bound_called (callee.Val k) vs ps bound env store n e = bound_relation (relation_of c (callee.Val k) env) vs ps bound env store n e

  abbrev ActionBinds : Part → Action → Type 0
  ActionBinds part action = (env : Env) (bound : List ℕ) → part (bound_in env) ≡ Some bound → (store : Store) (n : ℕ) → HasBound bound (action env store n)

  abbrev GoalBinds : RGoal → Type 0
  GoalBinds g = ActionBinds (after_goal g) (going c calls g)

  goal_rolled : (y : RGoal-F RGoal) → ActionBinds (bound_at (map-RGoal RGoal Part after_goal y)) (goal_action c calls (map-RGoal RGoal Action (going c calls) y)) → GoalBinds (roll-RGoal y)
  goal_rolled y each =
      subst (λ (part : Part). ActionBinds part (going c calls (roll-RGoal y))) (sym (fold-roll-RGoal Part bound_at y))
      (subst (λ (action : Action). ActionBinds (bound_at (map-RGoal RGoal Part after_goal y)) action) (sym (fold-roll-RGoal Action (goal_action c calls) y)) each)

  turn_on : (g : RGoal) (parts : List Part) (actions : List Action) → GoalBinds g → ActionBinds (parts_in_turn parts) (goals_in_turn actions)
      → ActionBinds (parts_in_turn (after_goal g ∷ parts)) (goals_in_turn (going c calls g ∷ actions))
  turn_on g parts actions first more env bound is store n =
      option_and_then_some {P = HasBound bound (goals_in_turn (going c calls g ∷ actions) env store n)} (parts_in_turn parts) (after_goal g (bound_in env)) bound is
      (λ mid here rest. bound_on mid bound (going c calls g env store n) (λ s m. goals_in_turn actions s.env s.store m) (first env mid here store n)
      (λ s m e. more s.env bound (ap (parts_in_turn parts) e ∙ rest) s.store m))

  inner_bind : (gs : List ((x : RGoal) × GoalBinds x)) → ActionBinds (parts_in_turn (map after_goal (map (λ e. e.0) gs))) (goals_in_turn (map (going c calls) (map (λ e. e.0) gs)))
  inner_bind [] env bound is store n = same_Some (bound_in env) bound is
  inner_bind (e ∷ gs) env bound is store n =
      turn_on e.0 (map after_goal (map (λ e. e.0) gs)) (map (going c calls) (map (λ e. e.0) gs)) e.1 (inner_bind gs) env bound is store n

  outside : (o : Option (List ℕ)) (x y : List ℕ) → option_map (λ (inside : List ℕ). x) o ≡ Some y → x ≡ y
  outside None x y h = absurd (cc)
  outside (Some xs) x y h = same_Some x y h

  goal_layer : (y : RGoal-F ((x : RGoal) × GoalBinds x)) → GoalBinds (roll-RGoal (map-RGoal ((x : RGoal) × GoalBinds x) RGoal (λ e. e.0) y))
  goal_layer (RGoal-F.Call f es ps) =
      goal_rolled (RGoal-F.Call f es ps)
      (λ env bound is store n.
      let used = cond_some (can_use (callee_uses f ++ all_use es) (bound_in env)) (bound_in env ++ all_bind ps) bound is in
      bound_with bound (values_of c es env) (λ vs. called c calls f vs ps env store) n (λ vs. bound_called f vs ps bound env store n used.1))
  goal_layer (RGoal-F.Equal a b) =
      goal_rolled (RGoal-F.Equal a b)
      (λ env bound is store n.
      let used = cond_some (can_use (uses a ++ uses b) (bound_in env)) (bound_in env ++ []) bound is in
      bound_with bound (value_of c a env) _ n (λ v. bound_with bound (value_of c b env) _ n (λ w. bound_same (same v w) bound env store n (sym (append-nil (bound_in env)) ∙ used.1))))
  goal_layer (RGoal-F.Let q e) =
      goal_rolled (RGoal-F.Let q e)
      (λ env bound is store n.
      let used = cond_some (can_use (uses e) (bound_in env)) (bound_in env ++ binds q) bound is in
      bound_with bound (value_of c e env) _ n (λ v. bound_match env (binds q) bound (matching c.names q v env) store n used.1 (match_binds c.names q v env)))
  goal_layer (RGoal-F.Not e) =
      goal_rolled (RGoal-F.Not e.0)
      (λ env bound is store n. bound_unless bound (going c calls e.0 env store n) (weighted_step c.step_weight (goes_on env store))
      (λ m. bound_step c.step_weight bound (goes_on env store) m (λ i. outside (after_goal e.0 (bound_in env)) (bound_in env) bound is)))
  goal_layer (RGoal-F.All gs) = goal_rolled (RGoal-F.All (map (λ e. e.0) gs)) (inner_bind gs)

  pub goal_binds : (g : RGoal) → GoalBinds g
  goal_binds = ind-RGoal GoalBinds (λ x y is. subst (λ z. GoalBinds (roll-RGoal z)) is (goal_layer y))

  pub goals_bind : (gs : List RGoal) → ActionBinds (after_goals gs) (going_all c calls gs)
  goals_bind [] env bound is store n = same_Some (bound_in env) bound is
  goals_bind (g ∷ gs) env bound is store n = turn_on g (map after_goal gs) (map (going c calls) gs) (goal_binds g) (goals_bind gs) env bound is store n

-- ---- where goals stand

-- a goal whose numbers fit, with its variables bound where it uses them
record Ready (p : Program) (env : Env) (g : RGoal) : Type 0 where
  vars : ℕ
  fits : goal_fits (counts_of p.names p.vals p.rels) p.cons vars g ≡ true
  bound : List ℕ
  uses_them : after_goal g (bound_in env) ≡ Some bound

-- what is bound before a goal and after it
record Around (front : List RGoal) (g : RGoal) (first : List ℕ) : Type 0 where
  before : List ℕ
  behind : List ℕ
  comes : after_goals front first ≡ Some before
  goes : after_goal g before ≡ Some behind

fits_among : (p : Program) (vars : ℕ) (front back : List RGoal) (g : RGoal) → goals_fit (counts_of p.names p.vals p.rels) p.cons vars (front ++ g ∷ back) ≡ true
    → goal_fits (counts_of p.names p.vals p.rels) p.cons vars g ≡ true
fits_among p vars [] back g h =
    let counts = counts_of p.names p.vals p.rels in (both (goal_fits counts p.cons vars g) (goals_fit counts p.cons vars back) h).first
fits_among p vars (x ∷ front) back g h =
    let counts = counts_of p.names p.vals p.rels in
    fits_among p vars front back g (both (goal_fits counts p.cons vars x) (goals_fit counts p.cons vars (front ++ g ∷ back)) h).second

around : (front back : List RGoal) (g : RGoal) (first last : List ℕ) → after_goals (front ++ g ∷ back) first ≡ Some last → Around front g first
around [] back g first last h =
    option_and_then_some {P = Around [] g first} (after_goals back) (after_goal g first) last h
    (λ mid here rest. record { before = first; behind = mid; comes = refl; goes = here })
around (x ∷ front) back g first last h =
    option_and_then_some {P = Around (x ∷ front) g first} (after_goals (front ++ g ∷ back)) (after_goal x first) last h
    (λ mid here rest. let more = around front back g mid last rest in
    record { before = more.before; behind = more.behind; comes = ap (option_and_then (after_goals front)) here ∙ more.comes; goes = more.goes })

-- a goal among others that are searched in turn, behind those that gave an answer
ready_among : (p : Program) (calls : RelationCalls) (vars : ℕ) (front back : List RGoal) (g : RGoal) (env : Env) (store : Store) (n m : ℕ) (s : State) (t : Trace) (last : List ℕ)
    → goals_fit (counts_of p.names p.vals p.rels) p.cons vars (front ++ g ∷ back) ≡ true → after_goals (front ++ g ∷ back) (bound_in env) ≡ Some last
    → going_all (context_of p) calls front env store n ≡ Yes s t m → Ready p s.env g
ready_among p calls vars front back g env store n m s t last fits uses_them answers =
    let part = around front back g (bound_in env) last uses_them in
    let held : bound_in s.env ≡ part.before = subst (λ (w : Partial State). HasBound part.before w) answers (goals_bind (context_of p) calls front env part.before part.comes store n) in
    record {
      vars = vars;
      fits = fits_among p vars front back g fits;
      bound = part.behind;
      uses_them = ap (after_goal g) held ∙ part.goes;
    }

-- what a program says of each of its rules
record RuleHolds (p : Program) (rule : RRule) : Type 0 where
  goals : goals_fit (counts_of p.names p.vals p.rels) p.cons rule.vars rule.goals ≡ true
  results : exps_fit (counts_of p.names p.vals p.rels) p.cons rule.vars rule.results ≡ true
  last : List ℕ
  premises : before_results rule ≡ Some last
  uses_them : can_use (all_use rule.results) last ≡ true

all_held : (xs : List ℕ) (o : Option (List ℕ)) → has_all xs o ≡ true → (bound : List ℕ) × (o ≡ Some bound) × (can_use xs bound ≡ true)
all_held xs None h = absurd (cc)
all_held xs (Some bound) h = (bound, refl, h)

rule_holds : (p : Program) (r : RelDef) (rule : RRule) → Contains p.rels r → Contains r.rules rule → RuleHolds p rule
rule_holds p r rule in_program in_relation =
    let counts = counts_of p.names p.vals p.rels in
    let relation = passes (relation_fits counts p.types p.cons) p.rels r p.relations_fit in_program in
    let rules = both _ (list_all (rule_fits counts p.cons) r.rules) relation in
    let fits = passes (rule_fits counts p.cons) r.rules rule rules.second in_relation in
    let two = both _ (exps_fit counts p.cons rule.vars rule.results) fits in
    let one = both (patterns_fit counts p.cons rule.vars rule.inputs) (goals_fit counts p.cons rule.vars rule.goals) two.first in
    let used = passes uses_bound r.rules rule (passes relation_uses_bound p.rels r p.used_after in_program) in_relation in
    let held = all_held (all_use rule.results) (before_results rule) used in
    record { goals = one.second; results = two.second; last = held.0; premises = held.1; uses_them = held.2 }

head_bound : (p : Program) (ps : List RPat) (vs : List Value) (env : Env) → matching_all p.names ps vs [] ≡ matched.Yes env → bound_in env ≡ all_bind ps
head_bound p ps vs env is = subst (λ (m : Matched). BindsAlso [] (all_bind ps) m) is (matches_bind p.names ps vs [])

inside_some : (o : Option (List ℕ)) (x y : List ℕ) → option_map (λ (inside : List ℕ). x) o ≡ Some y → (bound : List ℕ) × (o ≡ Some bound)
inside_some None x y h = absurd (cc)
inside_some (Some bound) x y h = (bound, refl)

module _ (p : Program) (calls : RelationCalls) where
  inside_not : (g : RGoal) (env : Env) → Ready p env (Not g) → Ready p env g
  inside_not g env ready =
      let fit = goal_fits (counts_of p.names p.vals p.rels) p.cons ready.vars in
      let fits : fit g ≡ true = sym (ap fit (sym (rolls-Not g)) ∙ fold-roll-RGoal Bool (goal_fits_at (counts_of p.names p.vals p.rels) p.cons ready.vars) (RGoal-F.Not g)) ∙ ready.fits in
      let part : after_goal (Not g) ≡ bound_at (RGoal-F.Not (after_goal g)) = ap after_goal (sym (rolls-Not g)) ∙ fold-roll-RGoal Part bound_at (RGoal-F.Not g) in
      let used : option_map (λ (inside : List ℕ). bound_in env) (after_goal g (bound_in env)) ≡ Some ready.bound = sym (ap (λ (x : Part). x (bound_in env)) part) ∙ ready.uses_them in
      let held = inside_some (after_goal g (bound_in env)) (bound_in env) ready.bound used in
      record { vars = ready.vars; fits = fits; bound = held.0; uses_them = held.1 }

  inside_brackets : (front back : List RGoal) (g : RGoal) (env : Env) (store : Store) (n m : ℕ) (s : State) (t : Trace)
      → Ready p env (All (front ++ g ∷ back)) → going_all (context_of p) calls front env store n ≡ Yes s t m → Ready p s.env g
  inside_brackets front back g env store n m s t ready answers =
      let gs : List RGoal = front ++ g ∷ back in
      let fit = goal_fits (counts_of p.names p.vals p.rels) p.cons ready.vars in
      let fits : goals_fit (counts_of p.names p.vals p.rels) p.cons ready.vars gs ≡ true = sym (ap fit (sym (rolls-All gs)) ∙ fold-roll-RGoal Bool (goal_fits_at (counts_of p.names p.vals p.rels) p.cons ready.vars) (RGoal-F.All gs)) ∙ ready.fits in
      let part : after_goal (All gs) ≡ after_goals gs = ap after_goal (sym (rolls-All gs)) ∙ fold-roll-RGoal Part bound_at (RGoal-F.All gs) in
      let used : after_goals gs (bound_in env) ≡ Some ready.bound = sym (ap (λ (x : Part). x (bound_in env)) part) ∙ ready.uses_them in
      ready_among p calls ready.vars front back g env store n m s t ready.bound fits used answers

  ready_where : {g : RGoal} {env : Env} → Stands p calls g env → Ready p env g
  ready_where (in_rule r rule vs env front back g store n m s t in_program in_relation matches is answers) =
      let holds = rule_holds p r rule in_program in_relation in
      let fits = subst (λ (gs : List RGoal). goals_fit (counts_of p.names p.vals p.rels) p.cons rule.vars gs ≡ true) is holds.goals in
      let used : after_goals (front ++ g ∷ back) (bound_in env) ≡ Some holds.last =
      ap (λ (gs : List RGoal). after_goals gs (bound_in env)) (sym is) ∙ ap (after_goals rule.goals) (head_bound p rule.inputs vs env matches) ∙ holds.premises in
      ready_among p calls rule.vars front back g env store n m s t holds.last fits used answers
  ready_where (in_not g env stands) = inside_not g env (ready_where stands)
  ready_where (in_brackets front back g env store n m s t stands answers) = inside_brackets front back g env store n m s t (ready_where stands) answers

  -- ---- the values of its callee and its expressions

  abbrev ReadyValues : RGoal → Type 0
  ReadyValues g = (env : Env) → Ready p env g → HasValues (context_of p) env (out-RGoal g)

  values_rolled : (y : RGoal-F RGoal)
      → ((env : Env) (vars : ℕ) (bound : List ℕ) → goal_fits_at (counts_of p.names p.vals p.rels) p.cons vars (map-RGoal RGoal Bool (goal_fits (counts_of p.names p.vals p.rels) p.cons vars) y) ≡ true
      → bound_at (map-RGoal RGoal Part after_goal y) (bound_in env) ≡ Some bound → HasValues (context_of p) env y)
      → ReadyValues (roll-RGoal y)
  values_rolled y each env ready =
      subst (λ (z : RGoal-F RGoal). HasValues (context_of p) env z) (sym (out-roll-RGoal y))
      (each env ready.vars ready.bound
      (sym (fold-roll-RGoal Bool (goal_fits_at (counts_of p.names p.vals p.rels) p.cons ready.vars) y) ∙ ready.fits)
      (sym (ap (λ (x : Part). x (bound_in env)) (fold-roll-RGoal Part bound_at y)) ∙ ready.uses_them))

  -- where two lists can be used, each can
  each_used : (xs ys bound : List ℕ) → can_use (xs ++ ys) bound ≡ true → Both (can_use xs bound) (can_use ys bound)
  each_used xs ys bound h = both (can_use xs bound) (can_use ys bound) (sym (list_all-append (λ x. contains x bound) xs ys) ∙ h)

  callee_valued : (vars : ℕ) (f : Callee) (env : Env) → callee_fits (counts_of p.names p.vals p.rels) vars f ≡ true → can_use (callee_uses f) (bound_in env) ≡ true → CalleeHasValue (context_of p) env f
  callee_valued vars (callee.Rel r) env fits used = tt
  callee_valued vars (callee.Built k) env fits used = tt
  callee_valued vars (callee.Var x) env fits used = found_in x env (passes (λ y. contains y (bound_in env)) (x ∷ []) x used (0, omega arith, refl))
  callee_valued vars (callee.Val k) env fits used = each_val p k (ltb-true k (length p.vals) fits)

  values_layer : (y : RGoal-F ((x : RGoal) × ReadyValues x)) → ReadyValues (roll-RGoal (map-RGoal ((x : RGoal) × ReadyValues x) RGoal (λ e. e.0) y))
  values_layer (RGoal-F.Call f es ps) =
      values_rolled (RGoal-F.Call f es ps)
      (λ env vars bound fits used.
      let counts = counts_of p.names p.vals p.rels in
      let two = both (callee_fits counts vars f && exps_fit counts p.cons vars es) (patterns_fit counts p.cons vars ps) fits in
      let can = cond_some (can_use (callee_uses f ++ all_use es) (bound_in env)) (bound_in env ++ all_bind ps) bound used in
      let fit = both (callee_fits counts vars f) (exps_fit counts p.cons vars es) two.first in
      let each = each_used (callee_uses f) (all_use es) (bound_in env) can.0 in
      (callee_valued vars f env fit.first each.first, all_expressions p vars es env fit.second each.second))
  values_layer (RGoal-F.Equal a b) =
      values_rolled (RGoal-F.Equal a b)
      (λ env vars bound fits used.
      let counts = counts_of p.names p.vals p.rels in
      let two = both (exp_fits counts p.cons vars a) (exp_fits counts p.cons vars b) fits in
      let can = each_used (uses a) (uses b) (bound_in env) (cond_some (can_use (uses a ++ uses b) (bound_in env)) (bound_in env ++ []) bound used).0 in
      (each_expression p vars a env two.first can.first, each_expression p vars b env two.second can.second))
  values_layer (RGoal-F.Let q e) =
      values_rolled (RGoal-F.Let q e)
      (λ env vars bound fits used.
      let counts = counts_of p.names p.vals p.rels in
      let two = both (pattern_fits counts p.cons vars q) (exp_fits counts p.cons vars e) fits in
      each_expression p vars e env two.second (cond_some (can_use (uses e) (bound_in env)) (bound_in env ++ binds q) bound used).0)
  values_layer (RGoal-F.Not e) = values_rolled (RGoal-F.Not e.0) (λ env vars bound fits used. tt)
  values_layer (RGoal-F.All gs) = values_rolled (RGoal-F.All (map (λ e. e.0) gs)) (λ env vars bound fits used. tt)

  ready_values : (g : RGoal) → ReadyValues g
  ready_values = ind-RGoal ReadyValues (λ x y is. subst (λ z. ReadyValues (roll-RGoal z)) is (values_layer y))

  pub goal_values : (g : RGoal) (env : Env) → Stands p calls g env → HasValues (context_of p) env (out-RGoal g)
  goal_values g env stands = ready_values g env (ready_where stands)

  pub result_values : (r : RelDef) (rule : RRule) (vs : List Value) (env : Env) (store : Store) (n m : ℕ) (s : State) (t : Trace)
      → Contains p.rels r → Contains r.rules rule → matching_all p.names rule.inputs vs [] ≡ matched.Yes env → going_all (context_of p) calls rule.goals env store n ≡ Yes s t m
      → IsSome (values_of (context_of p) rule.results s.env)
  result_values r rule vs env store n m s t in_program in_relation matches answers =
      let holds = rule_holds p r rule in_program in_relation in
      let comes : after_goals rule.goals (bound_in env) ≡ Some holds.last = ap (after_goals rule.goals) (head_bound p rule.inputs vs env matches) ∙ holds.premises in
      let held : bound_in s.env ≡ holds.last = subst (λ (w : Partial State). HasBound holds.last w) answers (goals_bind (context_of p) calls rule.goals env holds.last comes store n) in
      all_expressions p rule.vars rule.results s.env holds.results (subst (λ (bound : List ℕ). can_use (all_use rule.results) bound ≡ true) (sym held) holds.uses_them)
