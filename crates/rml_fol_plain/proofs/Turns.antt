-- A turn of each loop: over statements, alternatives, cases and named blocks.
use Rattle.std.proofs.Common.{◌≡◌, ℕ, suc, ◌+◌, ◌<◌, List, [], ◌∷◌, ◌++◌, map, length, get_or, drop, Some, refl, ap, sym, ◌∙◌, add-one, drop-cons, arith}
use Rattle.std.proofs.lemmas.List.{drop_all}
use Rattle.std.proofs.lemmas.Bool.{eq-eqb, ne_eqb}
use Rattle.std.specs.Prelude.{true, false, ◌==◌, if◌then◌else◌}
use Rattle.rml_simulation.specs.declared.partial.Trace.{Trace}
use Rattle.rml_simulation.specs.declared.partial.Partial.{Partial}
use Rattle.rml_simulation.specs.declared.partial.Partial.TheVariants.{Yes, No, CutOff, GoneWrong}
use Rattle.rml_simulation.specs.Partial.{untraced, after, then_go, or_else}
use Rattle.rml_value.specs.declared.value.Value.{Value}
use Rattle.rml_value.specs.declared.value.Value.TheOpen.{Value-F}
use Rattle.rml_builtin.specs.Applied.{Store}
use Rattle.rml_terms.specs.Env.{Env}
use Rattle.rml_terms.specs.Calling.{with_value}
use Rattle.rml_fol.specs.declared.statements.Stmt.{Stmt, out-Stmt}
use Rattle.rml_fol.specs.declared.statements.Stmt.TheVariants as stmt
use Rattle.rml_fol.specs.declared.statements.Alternative.{Alternative, out-Alternative, roll-out-Alternative}
use Rattle.rml_fol.specs.declared.statements.Case.{Case, out-Case, roll-out-Case}
use Rattle.rml_fol.specs.Statements.{Given, Bodies, Scoped, Choice, retried, in_order, bind_all, arguments_at, has_tag, is_of_kind, with_body, body_of, action, alternative, choice}
use Rattle.rml_fol.specs.Acts.{acts-Alternative, acts-Case}
use Rattle.rml_fol_plain.specs.declared.state.Tables.{Tables}
use Rattle.rml_fol_plain.specs.declared.named.Named.{Named}
use Rattle.rml_fol_plain.specs.Given.{vals_in, calls_in, alone, is_last_at, block_in, known_from, known, in_order_in, chosen_in, switched_in, are_of_kind}
use Rattle.rml_fol_plain.proofs.Calls.{test_true, test_false}
use Rattle.rml_fol_plain.proofs.Follows.{follows, is_last, names}

-- ---- bodies

-- one body more
pub known-more : (t : Tables) (depth : ℕ) (outer : Bodies) (bs : List Named) (b : Named)
    → known_from t depth outer (bs ++ b ∷ []) ≡ with_body b.number (body_of b.vars.now (block_in t depth b.block.now) (known_from t depth outer bs) b.env) (known_from t depth outer bs)
known-more t depth outer [] b = refl
known-more t depth outer (c ∷ bs) b = known-more t depth (with_body c.number (body_of c.vars.now (block_in t depth c.block.now) outer c.env) outer) bs b

-- ---- statements

module _ (t : Tables) (depth : ℕ) (whole : Partial Given) (sofar : Trace) (stmts : List Stmt) (i : ℕ) (s : Stmt) (env : Env) (store : Store) (n : ℕ) where
  block_turn : (B : Bodies) → i < length stmts → s ≡ get_or stmts i s
      → block_in t depth (drop i stmts) B env store n ≡ action (vals_in t) (calls_in t depth) s (block_in t depth (drop (i + 1) stmts)) B env store n
  block_turn B inside is =
      let here : drop i stmts ≡ s ∷ drop (suc i) stmts = rw (drop-cons stmts i s, ← is) refl in
      rw add-one (ap (λ (ss : List Stmt). block_in t depth ss B env store n) here)

  -- a statement that nothing may follow
  pub block_ends : (B : Bodies) (w : Partial Given) → whole ≡ after sofar (block_in t depth (drop i stmts) B env store n) → i < length stmts → s ≡ get_or stmts i s
      → is_last_at (out-Stmt s) ≡ true → w ≡ alone t depth s B env store n → whole ≡ after sofar w
  block_ends B w before inside is last gives =
      before
      ∙ ap (λ (x : Partial Given). after sofar x)
      (block_turn B inside is ∙ is_last (vals_in t) (calls_in t depth) (block_in t depth (drop (i + 1) stmts)) B s last env store n ∙ sym gives)

  -- a body that is named
  pub block_names : (bodies more : List Named) (b : Named) (j : ℕ) (xs : List ℕ) (inner : List Stmt)
      → whole ≡ after sofar (block_in t depth (drop i stmts) (known t depth bodies) env store n) → i < length stmts → s ≡ get_or stmts i s
      → s ≡ stmt.Body j xs inner → more ≡ bodies ++ b ∷ [] → b.number ≡ j → b.vars.now ≡ xs → b.block.now ≡ inner → b.env ≡ env
      → whole ≡ after sofar (block_in t depth (drop (i + 1) stmts) (known t depth more) env store n)
  block_names bodies more b j xs inner before inside is body pushed j_is xs_is inner_is env_is =
      let rest : Scoped = block_in t depth (drop (i + 1) stmts) in
      let K : Bodies = known t depth bodies in
      before
      ∙ ap (λ (x : Partial Given). after sofar x)
      (block_turn K inside is
      ∙ ap (λ (x : Stmt). action (vals_in t) (calls_in t depth) x rest K env store n) body
      ∙ names (vals_in t) (calls_in t depth) rest K j xs inner env store n
      ∙ ap (λ (k : ℕ). rest (with_body k (body_of xs (block_in t depth inner) K env) K) env store n) (sym j_is)
      ∙ ap (λ (ys : List ℕ). rest (with_body b.number (body_of ys (block_in t depth inner) K env) K) env store n) (sym xs_is)
      ∙ ap (λ (ss : List Stmt). rest (with_body b.number (body_of b.vars.now (block_in t depth ss) K env) K) env store n) (sym inner_is)
      ∙ ap (λ (e : Env). rest (with_body b.number (body_of b.vars.now (block_in t depth b.block.now) K e) K) env store n) (sym env_is)
      ∙ ap (λ (X : Bodies). rest X env store n) (sym (ap (λ (bs : List Named). known t depth bs) pushed ∙ known-more t depth (known t depth []) bodies b)))

  -- another statement, and what follows it
  pub block_goes_on : (B : Bodies) (w v : Partial Given) → whole ≡ after sofar (block_in t depth (drop i stmts) B env store n) → i < length stmts → s ≡ get_or stmts i s
      → is_last_at (out-Stmt s) ≡ false → ((j : ℕ) (xs : List ℕ) (b : List Stmt) → s ≡ stmt.Body j xs b → ⊥) → w ≡ alone t depth s (known t depth []) env store n → w ≡ v
      → whole ≡ after sofar (then_go v (λ g m. block_in t depth (drop (i + 1) stmts) B g.env g.store m))
  block_goes_on B w v before inside is last none gives ends =
      let rest : Scoped = block_in t depth (drop (i + 1) stmts) in
      before
      ∙ ap (λ (x : Partial Given). after sofar x)
      (block_turn B inside is ∙ follows (vals_in t) (calls_in t depth) rest B s last none env store n
      ∙ ap (λ (x : Partial Given). then_go x (λ g m. rest B g.env g.store m)) (sym gives ∙ ends))

-- ---- alternatives

alternative_is : (t : Tables) (depth : ℕ) (a : Alternative) → alternative (vals_in t) (calls_in t depth) a ≡ block_in t depth (out-Alternative a).block
alternative_is t depth a = ap (alternative (vals_in t) (calls_in t depth)) (sym (roll-out-Alternative a)) ∙ acts-Alternative (vals_in t) (calls_in t depth) (out-Alternative a)

-- the last alternative, or one that does not fail
ends_either : (v : Partial Given) (go : ℕ → Partial Given) → ((u : Trace) (m : ℕ) → v ≡ No u m → ⊥) → or_else v go ≡ v
ends_either (Yes g u m) go none = refl
ends_either (No u m) go none = absurd (none u m refl)
ends_either (CutOff u) go none = refl
ends_either (GoneWrong u) go none = refl

ends_order : (x : Scoped) (xs : List Scoped) (B : Bodies) (env : Env) (store : Store) (n : ℕ) → ((u : Trace) (m : ℕ) → x B env store n ≡ No u m → ⊥) → in_order (x ∷ xs) B env store n ≡ x B env store n
ends_order x [] B env store n none = refl
ends_order x (y ∷ ys) B env store n none = ends_either (x B env store n) _ none

module _ (t : Tables) (depth : ℕ) (whole : Partial Given) (sofar : Trace) (alts : List Alternative) (i : ℕ) (a : Alternative) (stmts : List Stmt) (B own : Bodies) (env env' : Env) (store store' : Store) (n : ℕ)
    (before : whole ≡ after sofar (in_order_in t depth (drop i alts) B env store n)) (inside : i < length alts) (is : a ≡ get_or alts i a)
    (holds : stmts ≡ (out-Alternative a).block) (own_is : own ≡ B) (env_is : env' ≡ env) (store_is : store' ≡ store)
    (w : Partial Given) (gives : w ≡ block_in t depth stmts own env' store' n) where
  order_here : in_order_in t depth (drop i alts) ≡ in_order (alternative (vals_in t) (calls_in t depth) a ∷ map (alternative (vals_in t) (calls_in t depth)) (drop (suc i) alts))
  order_here =
      let here : drop i alts ≡ a ∷ drop (suc i) alts = rw (drop-cons alts i a, ← is) refl in
      ap (λ (all : List Alternative). in_order_in t depth all) here

  order_gives : alternative (vals_in t) (calls_in t depth) a B env store n ≡ w
  order_gives =
      ap (λ (x : Scoped). x B env store n) (alternative_is t depth a)
      ∙ ap (λ (ss : List Stmt). block_in t depth ss B env store n) (sym holds)
      ∙ ap (λ (X : Bodies). block_in t depth stmts X env store n) (sym own_is)
      ∙ ap (λ (e : Env). block_in t depth stmts own e store n) (sym env_is)
      ∙ ap (λ (s : Store). block_in t depth stmts own env' s n) (sym store_is)
      ∙ sym gives

  -- an alternative that does not fail
  pub order_ends : ((u : Trace) (m : ℕ) → w ≡ No u m → ⊥) → whole ≡ after sofar w
  order_ends none =
      before
      ∙ ap (λ (x : Partial Given). after sofar x)
      (ap (λ (x : Scoped). x B env store n) order_here
      ∙ ends_order (alternative (vals_in t) (calls_in t depth) a) (map (alternative (vals_in t) (calls_in t depth)) (drop (suc i) alts)) B env store n (λ u m e. none u m (sym order_gives ∙ e))
      ∙ order_gives)

  -- the last
  pub order_last : i + 1 ≡ length alts → whole ≡ after sofar w
  order_last last =
      let nothing : drop (suc i) alts ≡ [] = drop_all (suc i) alts (omega arith) in
      before
      ∙ ap (λ (x : Partial Given). after sofar x)
      (ap (λ (x : Scoped). x B env store n) order_here
      ∙ ap (λ (rest : List Alternative). in_order (alternative (vals_in t) (calls_in t depth) a ∷ map (alternative (vals_in t) (calls_in t depth)) rest) B env store n) nothing
      ∙ order_gives)

  -- one that others follow
  pub order_more : i + 1 < length alts → whole ≡ after sofar (or_else w (retried (in_order_in t depth (drop (i + 1) alts) B env store)))
  order_more more =
      let b : Alternative = get_or alts (suc i) a in
      let next : drop (suc i) alts ≡ b ∷ drop (suc (suc i)) alts = drop-cons alts (suc i) a (omega arith) in
      let f : Alternative → Scoped = alternative (vals_in t) (calls_in t depth) in
      rw add-one
      (before
      ∙ ap (λ (x : Partial Given). after sofar x)
      (ap (λ (x : Scoped). x B env store n) order_here
      ∙ ap (λ (rest : List Alternative). in_order (f a ∷ map f rest) B env store n) next
      ∙ ap (λ (x : Partial Given). or_else x (retried (in_order (f b ∷ map f (drop (suc (suc i)) alts)) B env store))) order_gives
      ∙ ap (λ (rest : List Alternative). or_else w (retried (in_order (map f rest) B env store))) (sym next)))

-- ---- cases

case_is : (t : Tables) (depth : ℕ) (k : Case)
    → choice (vals_in t) (calls_in t depth) k ≡ record { tag = (out-Case k).tag; vars = (out-Case k).vars; block = block_in t depth (out-Case k).block }
case_is t depth k = ap (choice (vals_in t) (calls_in t depth)) (sym (roll-out-Case k)) ∙ acts-Case (vals_in t) (calls_in t depth) (out-Case k)

-- values of the kind of the first tag
pub switched_right : (t : Tables) (depth : ℕ) (cases : List Case) (otherwise : List Stmt) (v : Value-F Value) (B : Bodies) (env : Env) (store : Store) (n : ℕ)
    → are_of_kind cases v ≡ true → switched_in t depth cases otherwise v B env store n ≡ chosen_in t depth cases otherwise v B env store n
switched_right t depth [] otherwise v B env store n e = refl
switched_right t depth (k ∷ ks) otherwise v B env store n e =
    test_true _ _ _ (ap (λ (c : Choice). is_of_kind c.tag v) (case_is t depth k) ∙ e)

-- and of another
pub switched_wrong : (t : Tables) (depth : ℕ) (cases : List Case) (otherwise : List Stmt) (v : Value-F Value) (B : Bodies) (env : Env) (store : Store) (n : ℕ)
    → are_of_kind cases v ≡ false → switched_in t depth cases otherwise v B env store n ≡ GoneWrong untraced
switched_wrong t depth [] otherwise v B env store n e = absurd (cc)
switched_wrong t depth (k ∷ ks) otherwise v B env store n e =
    test_false _ _ _ (ap (λ (c : Choice). is_of_kind c.tag v) (case_is t depth k) ∙ e)

module _ (t : Tables) (depth : ℕ) (whole : Partial Given) (cases : List Case) (otherwise : List Stmt) (i : ℕ) (k : Case) (v : Value-F Value) (B : Bodies) (env : Env) (store : Store) (n : ℕ)
    (before : whole ≡ chosen_in t depth (drop i cases) otherwise v B env store n) (inside : i < length cases) (is : k ≡ get_or cases i k) where
  chosen_here : whole ≡ (if has_tag (out-Case k).tag v then with_value (bind_all (out-Case k).vars (arguments_at v) env) (λ next. block_in t depth (out-Case k).block B next store) n
      else chosen_in t depth (drop (suc i) cases) otherwise v B env store n)
  chosen_here =
      let here : drop i cases ≡ k ∷ drop (suc i) cases = rw (drop-cons cases i k, ← is) refl in
      before ∙ ap (λ (ks : List Case). chosen_in t depth ks otherwise v B env store n) here
      ∙ ap (λ (c : Choice). if has_tag c.tag v then with_value (bind_all c.vars (arguments_at v) env) (λ next. c.block B next store) n else chosen_in t depth (drop (suc i) cases) otherwise v B env store n) (case_is t depth k)

  -- the case that is chosen
  pub chosen_now : has_tag (out-Case k).tag v ≡ true → whole ≡ with_value (bind_all (out-Case k).vars (arguments_at v) env) (λ next. block_in t depth (out-Case k).block B next store) n
  chosen_now e = chosen_here ∙ test_true _ _ _ e

  -- one that is not
  pub chosen_later : has_tag (out-Case k).tag v ≡ false → whole ≡ chosen_in t depth (drop (i + 1) cases) otherwise v B env store n
  chosen_later e = rw add-one (chosen_here ∙ test_false _ _ _ e)

-- ---- a `goto`

-- the body that was named last, if it has the number
pub body_here : (t : Tables) (depth : ℕ) (bodies before : List Named) (b : Named) (j : ℕ) → bodies ≡ before ++ b ∷ [] → b.number ≡ j
    → known t depth bodies j ≡ Some (body_of b.vars.now (block_in t depth b.block.now) (known t depth before) b.env)
body_here t depth bodies before b j popped same =
    ap (λ (bs : List Named). known t depth bs j) popped ∙ ap (λ (X : Bodies). X j) (known-more t depth (known t depth []) before b) ∙ test_true (j == b.number) _ _ (eq-eqb j b.number (sym same))

-- or else one of those before it
pub body_before : (t : Tables) (depth : ℕ) (bodies before : List Named) (b : Named) (j : ℕ) → bodies ≡ before ++ b ∷ [] → (b.number ≡ j → ⊥)
    → known t depth bodies j ≡ known t depth before j
body_before t depth bodies before b j popped other =
    ap (λ (bs : List Named). known t depth bs j) popped ∙ ap (λ (X : Bodies). X j) (known-more t depth (known t depth []) before b) ∙ test_false (j == b.number) _ _ (ne_eqb j b.number (λ e. other (sym e)))
