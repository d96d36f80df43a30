-- Goals, rules and relations of a typed program are not Wrong, and what they answer has their types.
use Rattle.std.proofs.Common.{◌≡◌, ℕ, Bool, true, false, List, [], ◌∷◌, ◌++◌, map, Option, Some, None, refl, sym, ap, subst, ◌∙◌, append_assoc}
use Rattle.std.specs.Prelude.{◌&&◌, if◌then◌else◌, IsSome, option_and_then, option_map, slice_get}
use Rattle.std.specs.List.{Contains}
use Rattle.rml_types.specs.declared.tree.SchemeTree.{SchemeTree}
use Rattle.rml_types.specs.declared.tree.SchemeTree.TheOpen.{SchemeTree-F}
use Rattle.rml_types.specs.declared.tree.SchemeTree.TheVariants as tree
use Rattle.rml_types.specs.Schemes.{inst}
use Rattle.rml_types.proofs.Callers.{inst-Rel}
use Rattle.rml_simulation.specs.declared.partial.Trace.{Trace}
use Rattle.rml_simulation.specs.declared.partial.Partial.TheVariants.{Yes, No}
use Rattle.rml_simulation.specs.Partial.{untraced}
use Rattle.rml_value.specs.declared.value.Value.{Value, out-Value}
use Rattle.rml_value.specs.declared.value.Value.TheOpen.{Value-F}
use Rattle.rml_value.specs.Same.{same}
use Rattle.rml_builtin.specs.declared.applied.Answer.{Answer}
use Rattle.rml_builtin.specs.declared.applied.Applied.{Applied}
use Rattle.rml_builtin.specs.declared.applied.Applied.TheVariants as applied
use Rattle.rml_builtin.specs.declared.row.Row.{Row}
use Rattle.rml_builtin.specs.declared.row.TheConstants.{ROWS}
use Rattle.rml_builtin.specs.Applied.{Store, or_wrong}
use Rattle.rml_builtin.specs.BuiltIns.{apply, apply_at}
use Rattle.rml_builtin.specs.Table.{inputs_of, outputs_of, type_of}
use Rattle.rml_resolved.specs.declared.parts.Counts.{Counts}
use Rattle.rml_resolved.specs.declared.parts.Parts.{Parts}
use Rattle.rml_resolved.specs.declared.program.Program.{Program}
use Rattle.rml_resolved.specs.declared.tables.RelDef.{RelDef}
use Rattle.rml_resolved.specs.declared.tables.RRule.{RRule}
use Rattle.rml_resolved.specs.declared.tables.ValDef.{ValDef}
use Rattle.rml_resolved.specs.declared.trees.RExp.{RExp}
use Rattle.rml_resolved.specs.declared.trees.RPat.{RPat}
use Rattle.rml_resolved.specs.declared.trees.Callee.{Callee}
use Rattle.rml_resolved.specs.declared.trees.Callee.TheVariants as callee
use Rattle.rml_resolved.specs.declared.trees.RGoal.{RGoal, fold-roll-RGoal, out-RGoal, out-roll-RGoal}
use Rattle.rml_resolved.specs.declared.trees.RGoal.TheOpen.{RGoal-F}
use Rattle.rml_resolved.specs.declared.trees.RGoal.TheVariants as goal
use Rattle.rml_resolved.specs.Facts.{tables_of}
use Rattle.rml_resolved.specs.Fits.{counts_of, exp_fits, exps_fit, goal_fits, goal_fits_at, goals_fit, pattern_fits, patterns_fit, rule_fits}
use Rattle.rml_resolved.proofs.Callers.{both}
use Rattle.rml_terms.specs.declared.state.Matched.{Matched}
use Rattle.rml_terms.specs.declared.state.Matched.TheVariants as matched
use Rattle.rml_terms.specs.Env.{Env, look}
use Rattle.rml_terms.specs.Calling.{RelationCalls, relation_at, relation_in, trace_of_built_in, with_value}
use Rattle.rml_search.specs.declared.state.State.{State}
use Rattle.rml_search.specs.Context.{Context}
use Rattle.rml_search.specs.Matching.{matching, matching_all}
use Rattle.rml_search.specs.Search.{Action, answer, by_rule, call, called, from_built_in, from_match, goal_action, goes_on, going, going_all, past_head, relation_called, taken, weighted_step}
use Rattle.rml_search.specs.Standing.{CalleeHasValue, HasValues, Stands, in_brackets, in_not, in_rule}
use Rattle.rml_search.specs.Values.{value_of, values_of}
use Rattle.rml_search.specs.Whole.{context_of}
use Rattle.rml_search.proofs.Callers.{goal_values, result_values}
use Rattle.rml_typed.specs.Own.{own}
use Rattle.rml_typed.specs.Typed.{Assigned, CalleeOf, ExpOf, ExpsOf, GoalOf, GoalsOf, HasInstance, PatternsOf, Uses}
use Rattle.rml_typed.specs.Parts.{RelType}
use Rattle.rml_typed.specs.Units.{declared}
use Rattle.rml_typed.proofs.Callers.{own-row, row-stands}
use Rattle.rml_sound.specs.Full.{full_meanings, Reads}
use Rattle.rml_sound.specs.Values.{Grows, RelationHas, StoreHas, StoreTypes, ValueHas, ValuesHave}
use Rattle.rml_sound.specs.Safe.{AnswerHas, CallsSafe, EnvHas, Safe, SafeApplied, SafeMatch, StateHas}
use Rattle.rml_sound.proofs.Begun.{stands-full}
use Rattle.rml_sound.proofs.Canonical.{Opened, of-relation, same-inputs, same-outputs}
use Rattle.rml_sound.proofs.Combined.{goals-more, safe-after, safe-more, safe-step, safe-then, safe-unless, safe-with}
use Rattle.rml_sound.proofs.Expressions.{exp-typed, exps-typed, scheme-at, UsesHave, ValsHave}
use Rattle.rml_sound.proofs.Patterns.{pattern-safe, patterns-safe, safe-all}
use Rattle.rml_sound.proofs.Rows.{row-safe}
use Rattle.rml_sound.proofs.Stores.{env-on, grows-more, grows-self}
use Rattle.rml_sound.proofs.Used.{relation-has}

-- ---- goals, where calls are not Wrong

module _ (p : Program) (valued : ValsHave p (context_of p).vals) (calls : RelationCalls) (safe : CallsSafe (tables_of p) calls)
    (text : ℕ) (reads : SchemeTree → SchemeTree) (r : Reads p.types text reads) (uses : Uses) (used : UsesHave p reads uses) (vars : ℕ) (G : Assigned) where
  abbrev P : Parts
  P = tables_of p

  abbrev c : Context
  c = context_of p

  abbrev counts : Counts
  counts = counts_of p.names p.vals p.rels

  abbrev Bound : StoreTypes → Env → Type 0
  Bound S env = EnvHas P S reads G env

  abbrev Held : StoreTypes → State → Type 0
  Held S s = StateHas P S reads G s

  -- in a store that had grown before
  held-on : (S T : StoreTypes) → Grows S T → (s : State) → Held T s → Held S s
  held-on S T g s h = record { T = h.T; grows = grows-more S T h.T g h.grows; store = h.store; env = h.env }

  match-held : (S : StoreTypes) (m : Matched) (store : Store) (n : ℕ) → SafeMatch (Bound S) m → StoreHas P S store → Safe (Held S) (from_match m store n)
  match-held S (matched.Yes env) store n h stored = record { T = S; grows = grows-self S; store = stored; env = h }
  match-held S matched.No store n h stored = tt
  match-held S matched.Wrong store n h stored = absurd h

  -- the results of a call
  taken-safe : (S : StoreTypes) (ps : List RPat) (ws : List SchemeTree) (env : Env) → PatternsOf (declared P text) G ps ws → patterns_fit counts p.cons vars ps ≡ true → Bound S env
      → (a : Answer) (n : ℕ) → AnswerHas P S (map reads ws) a → Safe (Held S) (taken c ps env a n)
  taken-safe S ps ws env typed fits bound a n h =
      safe-more (Held h.T) (Held S) (taken c ps env a n) (held-on S h.T h.grows)
      (match-held h.T (matching_all p.names ps a.values env) a.store n
      (safe-all p h.T (Bound h.T) (map reads ws) (map (matching p.names) ps) (patterns-safe p text reads r vars h.T G ps ws typed fits) a.values env h.values (env-on P S h.T h.grows reads G env bound)) h.store)

  -- a relation that has these types
  relation-safe : (S : StoreTypes) (k : ℕ) (us ws : List SchemeTree) (vs : List Value) (ps : List RPat) (env : Env) (store : Store) (n : ℕ) → RelationHas P k (map reads us) (map reads ws)
      → ValuesHave P S vs (map reads us) → PatternsOf (declared P text) G ps ws → patterns_fit counts p.cons vars ps ≡ true → Bound S env → StoreHas P S store
      → Safe (Held S) (relation_called c calls (Some k) vs ps env store n)
  relation-safe S k us ws vs ps env store n has h typed fits bound stored =
      safe-then (AnswerHas P S (map reads ws)) (Held S) (call c calls (Some k) (record { values = vs; store = store }) n) (taken c ps env)
      (safe-step (AnswerHas P S (map reads ws)) c.step_weight (with_value (Some k) (λ k. calls k (record { values = vs; store = store }))) n (λ m. safe k (map reads us) (map reads ws) S vs store m has h stored))
      (λ a t m is held. taken-safe S ps ws env typed fits bound a m held)

  -- a value that is called is a relation
  value-at : (S : StoreTypes) (us ws : List SchemeTree) (o : Value-F Value) → Opened P S (SchemeTree-F.Rel (map reads us) (map reads ws)) o → (k : ℕ) × (relation_at o ≡ Some k) × RelationHas P k (map reads us) (map reads ws)
  value-at S us ws (Value-F.Rel k) h = (k, refl, h)
  value-at S us ws (Value-F.Int n) h = absurd h
  value-at S us ws (Value-F.Char n) h = absurd h
  value-at S us ws (Value-F.Text n) h = absurd h
  value-at S us ws (Value-F.Con n vs) h = absurd h
  value-at S us ws (Value-F.Tuple vs) h = absurd h
  value-at S us ws (Value-F.Cell n) h = absurd h
  value-at S us ws (Value-F.Vector vs) h = absurd h

  relation-of : (S : StoreTypes) (us ws : List SchemeTree) (v : Value) → ValueHas P S v (reads (tree.Rel us ws)) → (k : ℕ) × (relation_in v ≡ Some k) × RelationHas P k (map reads us) (map reads ws)
  relation-of S us ws v h = value-at S us ws (out-Value v) (of-relation P S (map reads us) (map reads ws) v (subst (ValueHas P S v) (r.relation us ws) h))

  -- the relation of a value that is there
  named-of : (S : StoreTypes) (us ws : List SchemeTree) (o : Option Value) → IsSome o → ((v : Value) → o ≡ Some v → ValueHas P S v (reads (tree.Rel us ws)))
      → (k : ℕ) × (option_and_then relation_in o ≡ Some k) × RelationHas P k (map reads us) (map reads ws)
  named-of S us ws None there each = absurd (cc)
  named-of S us ws (Some v) there each = relation-of S us ws v (each v refl)

  -- ---- built-ins

  row-reads : (row : Row) (rs us ws : List SchemeTree) → tree.Rel us ws ≡ inst rs (type_of row)
      → tree.Rel (map reads us) (map reads ws) ≡ tree.Rel (map (inst (map reads rs)) (inputs_of row)) (map (inst (map reads rs)) (outputs_of row))
  row-reads row rs us ws is =
      sym (r.relation us ws) ∙ ap reads is ∙ ap (λ t. reads (inst rs t)) (sym (own-row p.names p.types text row p.types_first)) ∙ r.instance rs (type_of row)
      ∙ ap (inst (map reads rs)) (row-stands (full_meanings p.types) (stands-full p) row) ∙ inst-Rel (map reads rs) (inputs_of row) (outputs_of row)

  from-row : (S : StoreTypes) (k : ℕ) (ps : List RPat) (ws : List SchemeTree) (env : Env) → PatternsOf (declared P text) G ps ws → patterns_fit counts p.cons vars ps ≡ true → Bound S env
      → (d : Applied) (n : ℕ) → SafeApplied (AnswerHas P S (map reads ws)) d → Safe (Held S) (from_built_in c k ps env d n)
  from-row S k ps ws env typed fits bound (applied.Yes a t) n h = safe-after (Held S) (trace_of_built_in k a.values t) (taken c ps env a n) (taken-safe S ps ws env typed fits bound a n h)
  from-row S k ps ws env typed fits bound applied.No n h = tt
  from-row S k ps ws env typed fits bound applied.Wrong n h = absurd h

  built-in-safe : (S : StoreTypes) (k : ℕ) (us ws : List SchemeTree) (vs : List Value) (ps : List RPat) (env : Env) (store : Store) (n : ℕ) → HasInstance (option_map type_of (slice_get ROWS k)) (tree.Rel us ws)
      → ValuesHave P S vs (map reads us) → PatternsOf (declared P text) G ps ws → patterns_fit counts p.cons vars ps ≡ true → Bound S env → StoreHas P S store
      → Safe (Held S) (from_built_in c k ps env (apply_at k vs store) n)
  built-in-safe S k us ws vs ps env store n i h typed fits bound stored =
      let s = scheme-at type_of (slice_get ROWS k) (tree.Rel us ws) i in
      let row : Row = s.0 in
      let rs : List SchemeTree = map reads s.2 in
      let whole = row-reads row s.2 us ws s.3 in
      let ins : map reads us ≡ map (inst rs) (inputs_of row) = same-inputs _ _ _ _ whole in
      let outs : map reads ws ≡ map (inst rs) (outputs_of row) = same-outputs _ _ _ _ whole in
      from-row S k ps ws env typed fits bound (apply_at k vs store) n
      (subst (λ (o : Option Row). SafeApplied (AnswerHas P S (map reads ws)) (or_wrong o (λ row. apply row vs store))) (sym s.1)
      (subst (λ (ts : List SchemeTree). SafeApplied (AnswerHas P S ts) (apply row vs store)) (sym outs) (row-safe p S rs store stored row vs (subst (ValuesHave P S vs) ins h))))

  -- ---- calls

  called-safe : (S : StoreTypes) (f : Callee) (us ws : List SchemeTree) (vs : List Value) (ps : List RPat) (env : Env) (store : Store) (n : ℕ) → CalleeOf (declared P text) uses G f (tree.Rel us ws)
      → CalleeHasValue c env f → ValuesHave P S vs (map reads us) → PatternsOf (declared P text) G ps ws → patterns_fit counts p.cons vars ps ≡ true → Bound S env → StoreHas P S store
      → Safe (Held S) (called c calls f vs ps env store n)
  called-safe S (callee.Rel k) us ws vs ps env store n i there h typed fits bound stored = relation-safe S k us ws vs ps env store n (relation-has p text reads r uses used k us ws i) h typed fits bound stored
  called-safe S (callee.Built k) us ws vs ps env store n i there h typed fits bound stored = built-in-safe S k us ws vs ps env store n i h typed fits bound stored
  called-safe S (callee.Var x) us ws vs ps env store n i there h typed fits bound stored =
      let v = named-of S us ws (look x env) there (λ v is. subst (λ t. ValueHas P S v (reads t)) (sym i) (bound x v is)) in
      subst (λ (o : Option ℕ). Safe (Held S) (relation_called c calls o vs ps env store n)) (sym v.1) (relation-safe S v.0 us ws vs ps env store n v.2 h typed fits bound stored)
  called-safe S (callee.Val k) us ws vs ps env store n i there h typed fits bound stored =
      let s = scheme-at (λ (d : ValDef). own p.types text d.scheme.body) (slice_get p.vals k) (tree.Rel us ws) i in
      let v = named-of S us ws (c.vals k) there (λ v is. subst (ValueHas P S v) (sym (ap reads s.3 ∙ r.instance s.2 s.0.scheme.body)) (valued S k v s.0 (map reads s.2) is s.1)) in
      subst (λ (o : Option ℕ). Safe (Held S) (relation_called c calls o vs ps env store n)) (sym v.1) (relation-safe S v.0 us ws vs ps env store n v.2 h typed fits bound stored)

  -- ---- goals

  expression-typed : (S : StoreTypes) (e : RExp) (t : SchemeTree) (env : Env) → ExpOf (declared P text) uses G e t → Bound S env → (v : Value) → value_of c e env ≡ Some v → ValueHas P S v (reads t)
  expression-typed S e t env typed bound v is = exp-typed p text reads r uses used c.vals valued S G env bound e t typed v is

  pub expressions-typed : (S : StoreTypes) (es : List RExp) (ts : List SchemeTree) (env : Env) → ExpsOf (declared P text) uses G es ts → Bound S env → (vs : List Value) → values_of c es env ≡ Some vs → ValuesHave P S vs (map reads ts)
  expressions-typed S es ts env typed bound vs is = exps-typed p text reads r uses used c.vals valued S G env bound es ts typed vs is

  goes-on : (S : StoreTypes) (env : Env) (store : Store) (n : ℕ) → Bound S env → StoreHas P S store → Safe (Held S) (goes_on env store n)
  goes-on S env store n bound stored = record { T = S; grows = grows-self S; store = stored; env = bound }

  where-same : (S : StoreTypes) (b : Bool) (env : Env) (store : Store) (n : ℕ) → Bound S env → StoreHas P S store → Safe (Held S) (if b then goes_on env store n else No untraced n)
  where-same S true env store n bound stored = goes-on S env store n bound stored
  where-same S false env store n bound stored = tt

  -- a goal of a form, which the form's action is, stands with values where these are
  abbrev SafeGoal : RGoal → Action → Type 0
  SafeGoal g act = (S : StoreTypes) (env : Env) (store : Store) (n : ℕ) → Bound S env → StoreHas P S store → Stands p calls g env → Safe (Held S) (act env store n)

  of-form : (g : RGoal) (z : RGoal-F Action) → going c calls g ≡ goal_action c calls z → SafeGoal g (goal_action c calls z) → SafeGoal g (going c calls g)
  of-form g z e h = subst (SafeGoal g) (sym e) h

  values-at : (g : RGoal) (z : RGoal-F RGoal) (env : Env) → out-RGoal g ≡ z → Stands p calls g env → HasValues c env z
  values-at g z env e stands = subst (HasValues c env) e (goal_values p calls g env stands)

  fits-at : (g : RGoal) (z : RGoal-F Bool) → goal_fits counts p.cons vars g ≡ goal_fits_at counts p.cons vars z → goal_fits counts p.cons vars g ≡ true → goal_fits_at counts p.cons vars z ≡ true
  fits-at g z e h = sym e ∙ h

  -- each goal of a list stands where those before it gave an answer
  abbrev StandAll : List RGoal → Env → Type 0
  StandAll all env = (front back : List RGoal) (g : RGoal) (store : Store) (n m : ℕ) (s : State) (t : Trace) → all ≡ front ++ g ∷ back
      → going_all c calls front env store n ≡ Yes s t m → Stands p calls g s.env

  mutual
    goal-safe : (g : RGoal) → GoalOf (declared P text) uses G g → goal_fits counts p.cons vars g ≡ true → SafeGoal g (going c calls g)
    goal-safe g (GoalOf.call f es ps us ws fh eh ph) fits =
        let fit = fits-at (goal.Call f es ps) (RGoal-F.Call f es ps) (ap (goal_fits counts p.cons vars) (sym (goal.rolls-Call f es ps)) ∙ fold-roll-RGoal Bool (goal_fits_at counts p.cons vars) (RGoal-F.Call f es ps)) fits in
        of-form (goal.Call f es ps) (RGoal-F.Call f es ps) (ap (going c calls) (sym (goal.rolls-Call f es ps)) ∙ fold-roll-RGoal Action (goal_action c calls) (RGoal-F.Call f es ps))
        (λ S env store n bound stored stands.
        let there = values-at (goal.Call f es ps) (RGoal-F.Call f es ps) env (ap out-RGoal (sym (goal.rolls-Call f es ps)) ∙ out-roll-RGoal (RGoal-F.Call f es ps)) stands in
        safe-with (Held S) (values_of c es env) (λ vs. called c calls f vs ps env store) n there.1
        (λ vs is. called-safe S f us ws vs ps env store n fh there.0 (expressions-typed S es us env eh bound vs is) ph (both _ (patterns_fit counts p.cons vars ps) fit).second bound stored))
    goal-safe g (GoalOf.equal a b t ah bh) fits =
        of-form (goal.Equal a b) (RGoal-F.Equal a b) (ap (going c calls) (sym (goal.rolls-Equal a b)) ∙ fold-roll-RGoal Action (goal_action c calls) (RGoal-F.Equal a b))
        (λ S env store n bound stored stands.
        let there = values-at (goal.Equal a b) (RGoal-F.Equal a b) env (ap out-RGoal (sym (goal.rolls-Equal a b)) ∙ out-roll-RGoal (RGoal-F.Equal a b)) stands in
        safe-with (Held S) (value_of c a env) (λ v. with_value (value_of c b env) (λ w m. if same v w then goes_on env store m else No untraced m)) n there.0
        (λ v is. safe-with (Held S) (value_of c b env) (λ w m. if same v w then goes_on env store m else No untraced m) n there.1 (λ w isw. where-same S (same v w) env store n bound stored)))
    goal-safe g (GoalOf.define q e t qh eh) fits =
        let fit = fits-at (goal.Let q e) (RGoal-F.Let q e) (ap (goal_fits counts p.cons vars) (sym (goal.rolls-Let q e)) ∙ fold-roll-RGoal Bool (goal_fits_at counts p.cons vars) (RGoal-F.Let q e)) fits in
        of-form (goal.Let q e) (RGoal-F.Let q e) (ap (going c calls) (sym (goal.rolls-Let q e)) ∙ fold-roll-RGoal Action (goal_action c calls) (RGoal-F.Let q e))
        (λ S env store n bound stored stands.
        let there = values-at (goal.Let q e) (RGoal-F.Let q e) env (ap out-RGoal (sym (goal.rolls-Let q e)) ∙ out-roll-RGoal (RGoal-F.Let q e)) stands in
        safe-with (Held S) (value_of c e env) (λ v m. from_match (matching c.names q v env) store m) n there
        (λ v is. match-held S (matching p.names q v env) store n
        (pattern-safe p text reads r vars S G q t qh (both (pattern_fits counts p.cons vars q) (exp_fits counts p.cons vars e) fit).first v env (expression-typed S e t env eh bound v is) bound) stored))
    goal-safe g (GoalOf.negate x h) fits =
        let fit = fits-at (goal.Not x) (RGoal-F.Not (goal_fits counts p.cons vars x)) (ap (goal_fits counts p.cons vars) (sym (goal.rolls-Not x)) ∙ fold-roll-RGoal Bool (goal_fits_at counts p.cons vars) (RGoal-F.Not x)) fits in
        of-form (goal.Not x) (RGoal-F.Not (going c calls x)) (ap (going c calls) (sym (goal.rolls-Not x)) ∙ fold-roll-RGoal Action (goal_action c calls) (RGoal-F.Not x))
        (λ S env store n bound stored stands.
        safe-unless (Held S) (Held S) (going c calls x env store n) (weighted_step c.step_weight (goes_on env store)) (goal-safe x h fit S env store n bound stored (in_not x env stands))
        (λ m. safe-step (Held S) c.step_weight (goes_on env store) m (λ k. goes-on S env store k bound stored)))
    goal-safe g (GoalOf.all gs h) fits =
        let fit = fits-at (goal.All gs) (RGoal-F.All (map (goal_fits counts p.cons vars) gs)) (ap (goal_fits counts p.cons vars) (sym (goal.rolls-All gs)) ∙ fold-roll-RGoal Bool (goal_fits_at counts p.cons vars) (RGoal-F.All gs)) fits in
        of-form (goal.All gs) (RGoal-F.All (map (going c calls) gs)) (ap (going c calls) (sym (goal.rolls-All gs)) ∙ fold-roll-RGoal Action (goal_action c calls) (RGoal-F.All gs))
        (λ S env store n bound stored stands.
        goals-safe gs env store n
        (λ front back g store m k s t is answers. in_brackets front back g env store m k s t (subst (λ (all : List RGoal). Stands p calls (goal.All all) env) is stands) answers)
        [] gs refl h fit S (record { env = env; store = store }) untraced n refl bound stored)

    goals-safe : (all : List RGoal) (env0 : Env) (store0 : Store) (n0 : ℕ) → StandAll all env0 → (front gs : List RGoal) → all ≡ front ++ gs → GoalsOf (declared P text) uses G gs → goals_fit counts p.cons vars gs ≡ true
        → (S : StoreTypes) (s : State) (t : Trace) (n : ℕ) → going_all c calls front env0 store0 n0 ≡ Yes s t n → Bound S s.env → StoreHas P S s.store → Safe (Held S) (going_all c calls gs s.env s.store n)
    goals-safe all env0 store0 n0 stand front gs is GoalsOf.none fits S s t n so bound stored = goes-on S s.env s.store n bound stored
    goals-safe all env0 store0 n0 stand front gs is (GoalsOf.more g hs gh hsh) fits S s t n so bound stored =
        let two = both (goal_fits counts p.cons vars g) (goals_fit counts p.cons vars hs) fits in
        safe-then (Held S) (Held S) (going c calls g s.env s.store n) (λ s m. going_all c calls hs s.env s.store m)
        (goal-safe g gh two.first S s.env s.store n bound stored (stand front hs g store0 n0 n s t is so))
        (λ a u m answers h.
        let more = goals-more c calls front g env0 store0 n0 s t n a u m so answers in
        safe-more (Held h.T) (Held S) (going_all c calls hs a.env a.store m) (held-on S h.T h.grows)
        (goals-safe all env0 store0 n0 stand (front ++ g ∷ []) hs (is ∙ sym (append_assoc front (g ∷ []) hs)) hsh two.second h.T a more.0 m more.1 h.env h.store))

  -- ---- a rule

  module _ (rel : RelDef) (rule : RRule) (in_program : Contains p.rels rel) (in_relation : Contains rel.rules rule) (k : RelType)
      (heads : PatternsOf (declared P text) G rule.inputs k.inputs) (premises : GoalsOf (declared P text) uses G rule.goals) (outputs : ExpsOf (declared P text) uses G rule.results k.outputs)
      (fits : rule_fits counts p.cons rule ≡ true) (many : vars ≡ rule.vars) where
    fit-inputs : patterns_fit counts p.cons vars rule.inputs ≡ true
    fit-inputs =
        subst (λ (v : ℕ). patterns_fit counts p.cons v rule.inputs ≡ true) (sym many)
        (both (patterns_fit counts p.cons rule.vars rule.inputs) (goals_fit counts p.cons rule.vars rule.goals)
        (both (patterns_fit counts p.cons rule.vars rule.inputs && goals_fit counts p.cons rule.vars rule.goals) (exps_fit counts p.cons rule.vars rule.results) fits).first).first

    fit-goals : goals_fit counts p.cons vars rule.goals ≡ true
    fit-goals =
        subst (λ (v : ℕ). goals_fit counts p.cons v rule.goals ≡ true) (sym many)
        (both (patterns_fit counts p.cons rule.vars rule.inputs) (goals_fit counts p.cons rule.vars rule.goals)
        (both (patterns_fit counts p.cons rule.vars rule.inputs && goals_fit counts p.cons rule.vars rule.goals) (exps_fit counts p.cons rule.vars rule.results) fits).first).second

    module _ (S : StoreTypes) (vs : List Value) (store : Store) (stored : StoreHas P S store) where
      answer-safe : (env : Env) (n m : ℕ) (s : State) (t : Trace) → matching_all p.names rule.inputs vs [] ≡ matched.Yes env → going_all c calls rule.goals env store n ≡ Yes s t m → Held S s
          → Safe (AnswerHas P S (map reads k.outputs)) (answer c rule.results s m)
      answer-safe env n m s t matches answers h =
          safe-with (AnswerHas P S (map reads k.outputs)) (values_of c rule.results s.env) (λ ws. weighted_step c.step_weight (λ j. Yes (record { values = ws; store = s.store }) untraced j)) m
          (result_values p calls rel rule vs env store n m s t in_program in_relation matches answers)
          (λ ws is. safe-step (AnswerHas P S (map reads k.outputs)) c.step_weight (λ j. Yes (record { values = ws; store = s.store }) untraced j) m
          (λ j. record { T = h.T; grows = h.grows; store = h.store; values = expressions-typed h.T rule.results k.outputs s.env outputs h.env ws is }))

      past-head : (n : ℕ) (m : Matched) → matching_all p.names rule.inputs vs [] ≡ m → SafeMatch (Bound S) m → Safe (AnswerHas P S (map reads k.outputs)) (past_head c calls rule m store n)
      past-head n (matched.Yes env) is bound =
          safe-then (Held S) (AnswerHas P S (map reads k.outputs)) (going_all c calls rule.goals env store n) (answer c rule.results)
          (goals-safe rule.goals env store n
          (λ front back g store1 i j s t splits answers. in_rule rel rule vs env front back g store1 i j s t in_program in_relation is splits answers)
          [] rule.goals refl premises fit-goals S (record { env = env; store = store }) untraced n refl bound stored)
          (λ s t m answers h. answer-safe env n m s t is answers h)
      past-head n matched.No is bound = tt
      past-head n matched.Wrong is bound = absurd bound

      pub rule-safe : ValuesHave P S vs (map reads k.inputs) → (n : ℕ) → Safe (AnswerHas P S (map reads k.outputs)) (by_rule c calls rule (record { values = vs; store = store }) n)
      rule-safe h n =
          past-head n (matching_all p.names rule.inputs vs []) refl
          (safe-all p S (Bound S) (map reads k.inputs) (map (matching p.names) rule.inputs) (patterns-safe p text reads r vars S G rule.inputs k.inputs heads fit-inputs) vs [] h (λ x v e. absurd (cc)))
