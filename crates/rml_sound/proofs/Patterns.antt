-- A pattern is not Wrong on a value of the pattern's type, and what it binds has the types of the variables.
use Rattle.std.proofs.Common.{◌≡◌, ℕ, suc, ◌⊎◌, inl, inr, Bool, true, false, List, [], ◌∷◌, map, length, Option, Some, None, refl, sym, ap, subst, ◌∙◌, arith, eq-eqb}
use Rattle.std.specs.Prelude.{◌==◌, ℤ, ◌<◌, if◌then◌else◌, is_some, nat_lt, slice_get, IsSome}
use Rattle.std.specs.Ordering.{int_eq}
use Rattle.std.specs.Str.{bytes_eq}
use Rattle.std.proofs.lemmas.Bool.{eqb-true, ltb-true}
use Rattle.std.proofs.lemmas.Option.{slice_get_cases}
use Rattle.rml_syntax.specs.declared.token.Lit.{Lit}
use Rattle.rml_syntax.specs.declared.token.Lit.TheVariants as literal
use Rattle.rml_types.specs.declared.tree.SchemeTree.{SchemeTree}
use Rattle.rml_types.specs.declared.tree.SchemeTree.TheOpen.{SchemeTree-F}
use Rattle.rml_types.specs.declared.tree.SchemeTree.TheVariants as tree
use Rattle.rml_types.specs.Schemes.{inst}
use Rattle.rml_value.specs.declared.value.Value.{Value, out-Value}
use Rattle.rml_value.specs.declared.value.Value.TheOpen.{Value-F}
use Rattle.rml_value.specs.declared.value.TheConstants.{NIL, CONS}
use Rattle.rml_builtin.specs.Types.{int, char, string, list}
use Rattle.rml_resolved.specs.declared.parts.Counts.{Counts}
use Rattle.rml_resolved.specs.declared.program.Program.{Program}
use Rattle.rml_resolved.specs.declared.tables.ConDef.{ConDef}
use Rattle.rml_resolved.specs.declared.trees.RPat.{RPat, fold-roll-RPat}
use Rattle.rml_resolved.specs.declared.trees.RPat.TheOpen.{RPat-F}
use Rattle.rml_resolved.specs.declared.trees.RPat.TheVariants as pattern
use Rattle.rml_resolved.specs.Facts.{tables_of}
use Rattle.rml_resolved.specs.Fits.{counts_of, lit_fits, pattern_at, pattern_fits, patterns_fit}
use Rattle.rml_resolved.proofs.Callers.{both}
use Rattle.rml_terms.specs.declared.state.Matched.{Matched}
use Rattle.rml_terms.specs.declared.state.Matched.TheVariants as matched
use Rattle.rml_terms.specs.Env.{Env, bind, look}
use Rattle.rml_terms.specs.Matching.{Matcher, then_match, match_in_turn, match_all, when, match_int, match_char, match_con_at, match_con, match_tuple_at, match_list, match_chain}
use Rattle.rml_search.specs.Matching.{match_named, match_at, matching}
use Rattle.rml_typed.specs.Own.{own}
use Rattle.rml_typed.specs.Typed.{Assigned, AreItems, AreChain, type_of_literal, PatternOf, PatternsOf}
use Rattle.rml_typed.specs.Units.{declared}
use Rattle.rml_sound.specs.Full.{Reads}
use Rattle.rml_sound.specs.Values.{arguments_of, StoreTypes, ValueHas, ValuesHave}
use Rattle.rml_sound.specs.Safe.{EnvHas, SafeMatch}
use Rattle.rml_sound.proofs.Basic.{char-value, int-value, text-value}
use Rattle.rml_sound.proofs.Begun.{Begun, cons, nil, of-what}
use Rattle.rml_sound.proofs.Canonical.{Opened, of-named, of-tuple}
use Rattle.rml_sound.proofs.Constructors.{con-reads}
use Rattle.rml_sound.proofs.Expressions.{scheme-at, char-read, int-read, list-read, string-read}
use Rattle.rml_sound.proofs.Listed.{chain-read, inst-cell, items-read, values-length}

-- ---- bindings

-- what a variable stands for after one more is bound: what it stood for, or, where it is that one and stood for nothing, the new value
look-new : (x y : ℕ) (v w : Value) (env : Env) → look x (bind y v env) ≡ Some w → (look x env ≡ Some w) ⊎ ((x ≡ y) × (v ≡ w))
look-new x y v w [] = on (x == y) refl
  where
    on : (c : Bool) → (x == y) ≡ c → (if c then Some v else None) ≡ Some w → (None ≡ Some w) ⊎ ((x ≡ y) × (v ≡ w))
    on true e h = inr (eqb-true x y e, (let k : Some v ≡ Some w = h in cc))
    on false e h = inl h
look-new x y v w (b ∷ env) = on (x == b.var) (look-new x y v w env)
  where
    on : (c : Bool) → (look x (bind y v env) ≡ Some w → (look x env ≡ Some w) ⊎ ((x ≡ y) × (v ≡ w)))
        → (if c then Some b.value else look x (bind y v env)) ≡ Some w → ((if c then Some b.value else look x env) ≡ Some w) ⊎ ((x ≡ y) × (v ≡ w))
    on true k h = inl h
    on false k h = k h

module _ (p : Program) (S : StoreTypes) (Bound : Env → Type 0) where
  -- ---- matchers that are not Wrong on values of a type

  abbrev pub SafeMatcher : SchemeTree → Matcher → Type 0
  SafeMatcher t m = (v : Value) (env : Env) → ValueHas (tables_of p) S v t → Bound env → SafeMatch Bound (m v env)

  abbrev pub SafeMatchers : List SchemeTree → List Matcher → Type 0
  SafeMatchers [] [] = Unit {0}
  SafeMatchers (t ∷ ts) (m ∷ ms) = SafeMatcher t m × SafeMatchers ts ms
  SafeMatchers _ _ = ⊥

  safe-if : (b : Bool) (env : Env) → Bound env → SafeMatch Bound (when b env)
  safe-if true env h = h
  safe-if false env h = tt

  safe-then : (m : Matched) (go : Env → Matched) → SafeMatch Bound m → ((env : Env) → Bound env → SafeMatch Bound (go env)) → SafeMatch Bound (then_match m go)
  safe-then (matched.Yes env) go h each = each env h
  safe-then matched.No go h each = tt
  safe-then matched.Wrong go h each = absurd h

  safe-lengths : (ts : List SchemeTree) (ms : List Matcher) → SafeMatchers ts ms → length ms ≡ length ts
  safe-lengths [] [] h = refl
  safe-lengths [] (m ∷ ms) h = absurd h
  safe-lengths (t ∷ ts) [] h = absurd h
  safe-lengths (t ∷ ts) (m ∷ ms) h = ap suc (safe-lengths ts ms h.1)

  safe-in-turn : (ts : List SchemeTree) (ms : List Matcher) → SafeMatchers ts ms → (vs : List Value) (env : Env) → ValuesHave (tables_of p) S vs ts → Bound env → SafeMatch Bound (match_in_turn ms vs env)
  safe-in-turn ts [] safe vs env ValuesHave.none bound = bound
  safe-in-turn ts [] safe vs env (ValuesHave.more v t ws us h k) bound = absurd safe
  safe-in-turn ts (m ∷ ms) safe vs env ValuesHave.none bound = absurd safe
  safe-in-turn ts (m ∷ ms) safe vs env (ValuesHave.more v t ws us h k) bound =
      safe-then (m v env) (match_in_turn ms ws) (safe.0 v env h bound) (λ next b. safe-in-turn us ms safe.1 ws next k b)

  pub safe-all : (ts : List SchemeTree) (ms : List Matcher) → SafeMatchers ts ms → (vs : List Value) (env : Env) → ValuesHave (tables_of p) S vs ts → Bound env → SafeMatch Bound (match_all ms vs env)
  safe-all ts ms safe vs env h bound =
      let many : (length ms == length vs) ≡ true = eq-eqb (length ms) (length vs) (safe-lengths ts ms safe ∙ sym (values-length (tables_of p) S vs ts h)) in
      subst (λ (b : Bool). SafeMatch Bound (if b then match_in_turn ms vs env else matched.Wrong)) (sym many) (safe-in-turn ts ms safe vs env h bound)

  -- a constructor, whose arguments' types are those of the value's own constructor where the two are one
  con-at : (c : ℕ) (d : ConDef) (us : List SchemeTree) (ms : List Matcher) → slice_get p.cons c ≡ Some d → SafeMatchers (map (inst us) (arguments_of (tables_of p) d)) ms
      → (o : Value-F Value) → Opened (tables_of p) S (SchemeTree-F.Named d.of us) o → (env : Env) → Bound env → SafeMatch Bound (match_con_at c ms o env)
  con-at c d us ms at safe (Value-F.Int n) h env bound = absurd (elim (of-what p c d at) [ inl w ↦ (let e = w.1 in omega arith) | inr far ↦ omega arith ])
  con-at c d us ms at safe (Value-F.Char n) h env bound = absurd (elim (of-what p c d at) [ inl w ↦ (let e = w.1 in omega arith) | inr far ↦ omega arith ])
  con-at c d us ms at safe (Value-F.Text n) h env bound = absurd (elim (of-what p c d at) [ inl w ↦ (let e = w.1 in omega arith) | inr far ↦ omega arith ])
  con-at c d us ms at safe (Value-F.Cell n) h env bound = absurd (let f = h.0 in elim (of-what p c d at) [ inl w ↦ (let e = w.1 in omega arith) | inr far ↦ omega arith ])
  con-at c d us ms at safe (Value-F.Vector n) h env bound = absurd (let f = h.0 in elim (of-what p c d at) [ inl w ↦ (let e = w.1 in omega arith) | inr far ↦ omega arith ])
  con-at c d us ms at safe (Value-F.Tuple n) h env bound = absurd h
  con-at c d us ms at safe (Value-F.Rel n) h env bound = absurd h
  con-at c d us ms at safe (Value-F.Con k vs) h env bound = on (c == k) refl
    where
      on : (b : Bool) → (c == k) ≡ b → SafeMatch Bound (if b then match_all ms vs env else matched.No)
      on false e = tt
      on true e =
          let is : c ≡ k = eqb-true c k e in
          let there : slice_get p.cons c ≡ Some h.0 = subst (λ (x : ℕ). slice_get p.cons x ≡ Some h.0) (sym is) h.1 in
          let same : h.0 ≡ d = cc in
          safe-all (map (inst us) (arguments_of (tables_of p) d)) ms safe vs env (subst (λ (x : ConDef). ValuesHave (tables_of p) S vs (map (inst us) (arguments_of (tables_of p) x))) same h.3) bound

  con-safe : (c : ℕ) (d : ConDef) (us : List SchemeTree) (ms : List Matcher) → slice_get p.cons c ≡ Some d → SafeMatchers (map (inst us) (arguments_of (tables_of p) d)) ms → SafeMatcher (tree.Named d.of us) (match_con c ms)
  con-safe c d us ms at safe v env h bound = con-at c d us ms at safe (out-Value v) (of-named (tables_of p) S d.of us v h) env bound

  -- a constructor of a known number
  begun-safe : (c of : ℕ) (takes us ts : List SchemeTree) (ms : List Matcher) → Begun p c of takes → map (inst us) takes ≡ ts → SafeMatchers ts ms → SafeMatcher (tree.Named of us) (match_con c ms)
  begun-safe c of takes us ts ms b is safe =
      subst (λ (d : ℕ). SafeMatcher (tree.Named d us) (match_con c ms)) b.datatype
      (con-safe c b.con us ms b.there (subst (λ (x : List SchemeTree). SafeMatchers x ms) (sym (ap (map (inst us)) b.arguments ∙ is)) safe))

  -- a tuple
  tuple-at : (ts : List SchemeTree) (ms : List Matcher) → SafeMatchers ts ms → (o : Value-F Value) → Opened (tables_of p) S (SchemeTree-F.Tuple ts) o → (env : Env) → Bound env → SafeMatch Bound (match_tuple_at ms o env)
  tuple-at ts ms safe (Value-F.Tuple vs) h env bound = safe-all ts ms safe vs env h bound
  tuple-at ts ms safe (Value-F.Int n) h env bound = absurd h
  tuple-at ts ms safe (Value-F.Char n) h env bound = absurd h
  tuple-at ts ms safe (Value-F.Text n) h env bound = absurd h
  tuple-at ts ms safe (Value-F.Con c vs) h env bound = absurd h
  tuple-at ts ms safe (Value-F.Rel r) h env bound = absurd h
  tuple-at ts ms safe (Value-F.Cell k) h env bound = absurd h
  tuple-at ts ms safe (Value-F.Vector vs) h env bound = absurd h

  tuple-safe : (ts : List SchemeTree) (ms : List Matcher) → SafeMatchers ts ms → SafeMatcher (tree.Tuple ts) (λ v. match_tuple_at ms (out-Value v))
  tuple-safe ts ms safe v env h bound = tuple-at ts ms safe (out-Value v) (of-tuple (tables_of p) S ts v h) env bound

  -- `[..]` and chains of `::`, cell by cell
  cell-safe : (t : SchemeTree) (m rest : Matcher) → SafeMatcher t m → SafeMatcher (list t) rest → SafeMatcher (list t) (match_con CONS (m ∷ rest ∷ []))
  cell-safe t m rest safe more = begun-safe CONS _ _ (t ∷ []) (t ∷ list t ∷ []) (m ∷ rest ∷ []) (cons p) (inst-cell t) (safe, (more, tt))

  items-safe : (t : SchemeTree) (ts : List SchemeTree) (ms : List Matcher) → AreItems t ts → SafeMatchers ts ms → SafeMatcher (list t) (match_list ms)
  items-safe t [] [] are safe = begun-safe NIL _ [] (t ∷ []) [] [] (nil p) refl tt
  items-safe t [] (m ∷ ms) are safe = absurd safe
  items-safe t (u ∷ us) [] are safe = absurd safe
  items-safe t (u ∷ us) (m ∷ ms) are safe = cell-safe t m (match_list ms) (subst (λ x. SafeMatcher x m) are.0 safe.0) (items-safe t us ms are.1 safe.1)

  chain-safe : (t : SchemeTree) (ts : List SchemeTree) (ms : List Matcher) → AreChain t ts → SafeMatchers ts ms → SafeMatcher (list t) (match_chain ms)
  chain-safe t [] ms are safe = absurd are
  chain-safe t (u ∷ us) [] are safe = absurd safe
  chain-safe t (u ∷ []) (m ∷ []) are safe = subst (λ x. SafeMatcher x m) are safe.0
  chain-safe t (u ∷ []) (m ∷ n ∷ ms) are safe = absurd safe.1
  chain-safe t (u ∷ w ∷ us) (m ∷ []) are safe = absurd safe.1
  chain-safe t (u ∷ w ∷ us) (m ∷ n ∷ ms) are safe = cell-safe t m (match_chain (n ∷ ms)) (subst (λ x. SafeMatcher x m) are.0 safe.0) (chain-safe t (w ∷ us) (n ∷ ms) are.1 safe.1)

  -- ---- literals

  int-safe : (n : ℤ) → SafeMatcher int (λ v. match_int n (out-Value v))
  int-safe n v env h bound =
      let i = int-value p S v h in
      subst (λ (o : Value-F Value). SafeMatch Bound (match_int n o env)) (sym i.1) (safe-if (int_eq n i.0) env bound)

  char-safe : (c : ℕ) → SafeMatcher char (λ v. match_char c (out-Value v))
  char-safe c v env h bound =
      let i = char-value p S v h in
      subst (λ (o : Value-F Value). SafeMatch Bound (match_char c o env)) (sym i.1) (safe-if (c == i.0) env bound)

  -- the bytes of a text literal are there
  text-safe : (b : Option (List ℕ)) → IsSome b → SafeMatcher string (λ v. match_named b (out-Value v))
  text-safe None there v env h bound = absurd (cc)
  text-safe (Some bytes) there v env h bound =
      let i = text-value p S v h in
      subst (λ (o : Value-F Value). SafeMatch Bound (match_named (Some bytes) o env)) (sym i.1) (safe-if (bytes_eq bytes i.0) env bound)

-- ---- the patterns of a text

some-at : {X : Type 0} (xs : List X) (k : ℕ) → k < length xs → IsSome (slice_get xs k)
some-at {X} xs k inside = elim (slice_get_cases xs k).1 [ inl w ↦ ap (λ (o : Option X). is_some o) w.2 | inr w ↦ absurd (let past = w.0 in omega arith) ]

module _ (p : Program) (text : ℕ) (reads : SchemeTree → SchemeTree) (r : Reads p.types text reads) (vars : ℕ) (S : StoreTypes) (G : Assigned) where
  abbrev counts : Counts
  counts = counts_of p.names p.vals p.rels

  abbrev Bound : Env → Type 0
  Bound = EnvHas (tables_of p) S reads G

  abbrev SafePattern : SchemeTree → Matcher → Type 0
  SafePattern t m = SafeMatcher p S Bound (reads t) m

  bind-holds : (x : ℕ) (v : Value) (env : Env) → ValueHas (tables_of p) S v (reads (G x)) → Bound env → Bound (bind x v env)
  bind-holds x v env h bound y w e =
      elim (look-new y x v w env e) [
        | inl l ↦ bound y w l
        | inr q ↦ subst (λ z. ValueHas (tables_of p) S w (reads (G z))) (sym q.0) (subst (λ u. ValueHas (tables_of p) S u (reads (G x))) q.1 h)
      ]

  -- what a pattern of this form does, by what its parts do
  of-form : (q : RPat) (z : RPat-F Matcher) (t : SchemeTree) → matching p.names q ≡ match_at p.names z → SafePattern t (match_at p.names z) → SafePattern t (matching p.names q)
  of-form q z t e h = subst (SafePattern t) (sym e) h

  lit-safe : (l : Lit) → lit_fits counts l ≡ true → SafePattern (type_of_literal l) (match_at p.names (RPat-F.Lit l))
  lit-safe (literal.Int n) fits v env h bound = int-safe p S Bound n v env (subst (ValueHas (tables_of p) S v) (int-read p text reads r) h) bound
  lit-safe (literal.Char c) fits v env h bound = char-safe p S Bound c v env (subst (ValueHas (tables_of p) S v) (char-read p text reads r) h) bound
  lit-safe (literal.Text k) fits v env h bound =
      text-safe p S Bound (slice_get p.names k) (some-at p.names k (ltb-true k (length p.names) fits)) v env (subst (ValueHas (tables_of p) S v) (string-read p text reads r) h) bound

  fits-at : (q : RPat) (z : RPat-F Bool) → pattern_fits counts p.cons vars q ≡ pattern_at counts p.cons vars z → pattern_fits counts p.cons vars q ≡ true → pattern_at counts p.cons vars z ≡ true
  fits-at q z e h = sym e ∙ h

  mutual
    pub pattern-safe : (q : RPat) (t : SchemeTree) → PatternOf (declared (tables_of p) text) G q t → pattern_fits counts p.cons vars q ≡ true → SafePattern t (matching p.names q)
    pattern-safe q t (PatternOf.any u) fits = of-form pattern.Any RPat-F.Any u (ap (matching p.names) (sym pattern.rolls-Any) ∙ fold-roll-RPat Matcher (match_at p.names) RPat-F.Any) (λ v env h bound. bound)
    pattern-safe q t (PatternOf.lit l) fits =
        of-form (pattern.Lit l) (RPat-F.Lit l) (type_of_literal l) (ap (matching p.names) (sym (pattern.rolls-Lit l)) ∙ fold-roll-RPat Matcher (match_at p.names) (RPat-F.Lit l))
        (lit-safe l (fits-at (pattern.Lit l) (RPat-F.Lit l) (ap (pattern_fits counts p.cons vars) (sym (pattern.rolls-Lit l)) ∙ fold-roll-RPat Bool (pattern_at counts p.cons vars) (RPat-F.Lit l)) fits))
    pattern-safe q t (PatternOf.var x) fits =
        of-form (pattern.Var x) (RPat-F.Var x) (G x) (ap (matching p.names) (sym (pattern.rolls-Var x)) ∙ fold-roll-RPat Matcher (match_at p.names) (RPat-F.Var x)) (λ v env h bound. bind-holds x v env h bound)
    pattern-safe q t (PatternOf.con c ps ts u i hs) fits =
        let s = scheme-at (λ (d : ConDef). own p.types text d.scheme.body) (slice_get p.cons c) (tree.Rel ts (u ∷ [])) i in
        let k = con-reads p c s.0 s.1 text reads r s.2 ts u s.3 in
        let fit = fits-at (pattern.Con c ps) (RPat-F.Con c (map (pattern_fits counts p.cons vars) ps)) (ap (pattern_fits counts p.cons vars) (sym (pattern.rolls-Con c ps)) ∙ fold-roll-RPat Bool (pattern_at counts p.cons vars) (RPat-F.Con c ps)) fits in
        of-form (pattern.Con c ps) (RPat-F.Con c (map (matching p.names) ps)) u (ap (matching p.names) (sym (pattern.rolls-Con c ps)) ∙ fold-roll-RPat Matcher (match_at p.names) (RPat-F.Con c ps))
        (subst (λ x. SafeMatcher p S Bound x (match_con c (map (matching p.names) ps))) (sym k.1)
        (con-safe p S Bound c s.0 k.0 (map (matching p.names) ps) s.1 (subst (λ (x : List SchemeTree). SafeMatchers p S Bound x (map (matching p.names) ps)) k.2 (patterns-safe ps ts hs (both _ (patterns_fit counts p.cons vars ps) fit).second))))
    pattern-safe q t (PatternOf.tuple ps ts hs) fits =
        let fit = fits-at (pattern.Tuple ps) (RPat-F.Tuple (map (pattern_fits counts p.cons vars) ps)) (ap (pattern_fits counts p.cons vars) (sym (pattern.rolls-Tuple ps)) ∙ fold-roll-RPat Bool (pattern_at counts p.cons vars) (RPat-F.Tuple ps)) fits in
        of-form (pattern.Tuple ps) (RPat-F.Tuple (map (matching p.names) ps)) (tree.Tuple ts) (ap (matching p.names) (sym (pattern.rolls-Tuple ps)) ∙ fold-roll-RPat Matcher (match_at p.names) (RPat-F.Tuple ps))
        (subst (λ x. SafeMatcher p S Bound x (match_at p.names (RPat-F.Tuple (map (matching p.names) ps)))) (sym (r.tuple ts)) (tuple-safe p S Bound (map reads ts) (map (matching p.names) ps) (patterns-safe ps ts hs fit)))
    pattern-safe q t (PatternOf.items ps ts u are hs) fits =
        let fit = fits-at (pattern.List ps) (RPat-F.List (map (pattern_fits counts p.cons vars) ps)) (ap (pattern_fits counts p.cons vars) (sym (pattern.rolls-List ps)) ∙ fold-roll-RPat Bool (pattern_at counts p.cons vars) (RPat-F.List ps)) fits in
        of-form (pattern.List ps) (RPat-F.List (map (matching p.names) ps)) (list u) (ap (matching p.names) (sym (pattern.rolls-List ps)) ∙ fold-roll-RPat Matcher (match_at p.names) (RPat-F.List ps))
        (subst (λ x. SafeMatcher p S Bound x (match_list (map (matching p.names) ps))) (sym (list-read p text reads r u)) (items-safe p S Bound (reads u) (map reads ts) (map (matching p.names) ps) (items-read reads u ts are) (patterns-safe ps ts hs fit)))
    pattern-safe q t (PatternOf.chain ps ts u are hs) fits =
        let fit = fits-at (pattern.Cons ps) (RPat-F.Cons (map (pattern_fits counts p.cons vars) ps)) (ap (pattern_fits counts p.cons vars) (sym (pattern.rolls-Cons ps)) ∙ fold-roll-RPat Bool (pattern_at counts p.cons vars) (RPat-F.Cons ps)) fits in
        of-form (pattern.Cons ps) (RPat-F.Cons (map (matching p.names) ps)) (list u) (ap (matching p.names) (sym (pattern.rolls-Cons ps)) ∙ fold-roll-RPat Matcher (match_at p.names) (RPat-F.Cons ps))
        (subst (λ x. SafeMatcher p S Bound x (match_chain (map (matching p.names) ps))) (sym (list-read p text reads r u))
        (chain-safe p S Bound (reads u) (map reads ts) (map (matching p.names) ps) (chain-read reads u ts (list-read p text reads r u) are) (patterns-safe ps ts hs (both _ (patterns_fit counts p.cons vars ps) fit).second)))
    pattern-safe q t (PatternOf.bind x w h) fits =
        let fit = fits-at (pattern.Bind x w) (RPat-F.Bind x (pattern_fits counts p.cons vars w)) (ap (pattern_fits counts p.cons vars) (sym (pattern.rolls-Bind x w)) ∙ fold-roll-RPat Bool (pattern_at counts p.cons vars) (RPat-F.Bind x w)) fits in
        of-form (pattern.Bind x w) (RPat-F.Bind x (matching p.names w)) (G x) (ap (matching p.names) (sym (pattern.rolls-Bind x w)) ∙ fold-roll-RPat Matcher (match_at p.names) (RPat-F.Bind x w))
        (λ v env has bound. pattern-safe w (G x) h (both (nat_lt x vars) (pattern_fits counts p.cons vars w) fit).second v (bind x v env) has (bind-holds x v env has bound))

    pub patterns-safe : (qs : List RPat) (ts : List SchemeTree) → PatternsOf (declared (tables_of p) text) G qs ts → patterns_fit counts p.cons vars qs ≡ true → SafeMatchers p S Bound (map reads ts) (map (matching p.names) qs)
    patterns-safe qs ts PatternsOf.none fits = tt
    patterns-safe qs ts (PatternsOf.more q t ws us h hs) fits =
        let two = both (pattern_fits counts p.cons vars q) (patterns_fit counts p.cons vars ws) fits in
        (pattern-safe q t h two.first, patterns-safe ws us hs two.second)
