-- Expressions over vals that agree have one value; expressions whose vals and variables have values have one too. So a val is
-- its expression's value, and each expression of a program has a value where its variables are bound.
use Rattle.std.proofs.Common.{◌≡◌, ℕ, zero, suc, ◌<◌, Bool, true, false, List, [], ◌∷◌, map, length, Option, Some, None, refl, sym, ap, ◌∙◌, subst, inl, inr, arith, IsTrue}
use Rattle.std.specs.Prelude.{◌==◌, ◌||◌, ◌&&◌, if◌then◌else◌, nat_le, slice_get, unwrap_or, is_some, IsSome, option_map, option_and_then}
use Rattle.std.specs.List.{concat, Contains}
use Rattle.std.proofs.lemmas.Bool.{ltb-true}
use Rattle.std.proofs.lemmas.List.{length-map}
use Rattle.std.proofs.lemmas.List.Elements.{Contains-append_left, Contains-append_right, Contains-get_or}
use Rattle.std.proofs.lemmas.List.Folds.{list_all-append}
use Rattle.std.proofs.lemmas.Option.{slice_get-map, slice_get_cases}
use Rattle.rml_syntax.specs.declared.token.Lit.{Lit}
use Rattle.rml_syntax.specs.declared.token.Lit.TheVariants as lit
use Rattle.rml_value.specs.declared.value.Value.{Value}
use Rattle.rml_value.specs.declared.value.Value.TheVariants as value
use Rattle.rml_value.specs.declared.value.TheConstants.{CONS}
use Rattle.rml_value.specs.Lists.{list_of}
use Rattle.rml_resolved.specs.declared.parts.Counts.{Counts}
use Rattle.rml_resolved.specs.declared.program.Program.{Program}
use Rattle.rml_resolved.specs.declared.tables.ConDef.{ConDef}
use Rattle.rml_resolved.specs.declared.tables.ValDef.{ValDef}
use Rattle.rml_resolved.specs.declared.trees.RExp.{RExp, map-RExp, roll-RExp, fold-roll-RExp, ind-RExp}
use Rattle.rml_resolved.specs.declared.trees.RExp.TheOpen.{RExp-F}
use Rattle.rml_resolved.specs.Binding.{contains, uses_at, uses, all_use, can_use}
use Rattle.rml_resolved.specs.Circles.{Needs, vals_at, vals_in, val_needs}
use Rattle.rml_resolved.specs.Fits.{lit_fits, exp_at, exp_fits, exps_fit, val_fits, counts_of}
use Rattle.rml_resolved.proofs.Callers.{both, by_rounds, passes}
use Rattle.rml_terms.specs.Env.{Env, look, bound_in}
use Rattle.rml_terms.specs.Evaluating.{Evaluation, with_first, all_of, chain_of, vals_to}
use Rattle.rml_search.specs.Values.{value_of_lit, value_at, meaning, meaning_of_val, val_of, value_of, values_of}
use Rattle.rml_search.specs.Whole.{context_of}

-- ---- over other vals

module _ (names : List (List ℕ)) (f g : ℕ → Option Value) where
  -- on these vals the two agree
  abbrev AgreeOn : List ℕ → Type 0
  AgreeOn ks = (k : ℕ) → Contains ks k → f k ≡ g k

  abbrev SameValue : RExp → Type 0
  SameValue e = AgreeOn (vals_in e) → (env : Env) → meaning names f e env ≡ meaning names g e env

  same_rolled : (y : RExp-F RExp)
      → (AgreeOn (vals_at (map-RExp RExp (List ℕ) vals_in y)) → (env : Env)
      → value_at names f (map-RExp RExp Evaluation (meaning names f) y) env ≡ value_at names g (map-RExp RExp Evaluation (meaning names g) y) env)
      → SameValue (roll-RExp y)
  same_rolled y each agree env =
      ap (λ (m : Evaluation). m env) (fold-roll-RExp Evaluation (value_at names f) y)
      ∙ each (subst (λ (ks : List ℕ). AgreeOn ks) (fold-roll-RExp (List ℕ) vals_at y) agree) env
      ∙ ap (λ (m : Evaluation). m env) (sym (fold-roll-RExp Evaluation (value_at names g) y))

  parts_same : (es : List ((x : RExp) × SameValue x)) → AgreeOn (concat (map vals_in (map (λ e. e.0) es))) → (env : Env)
      → all_of (map (meaning names f) (map (λ e. e.0) es)) env ≡ all_of (map (meaning names g) (map (λ e. e.0) es)) env
  parts_same [] agree env = refl
  parts_same (e ∷ es) agree env =
      let rest = concat (map vals_in (map (λ e. e.0) es)) in
      let first : meaning names f e.0 env ≡ meaning names g e.0 env = e.1 (λ k there. agree k (Contains-append_left (vals_in e.0) rest k there)) env in
      let more = parts_same es (λ k there. agree k (Contains-append_right (vals_in e.0) rest k there)) env in
      ap (λ (o : Option Value). with_first o (all_of (map (meaning names f) (map (λ e. e.0) es)) env)) first
      ∙ ap (λ (o : Option (List Value)). with_first (meaning names g e.0 env) o) more

  same_layer : (y : RExp-F ((x : RExp) × SameValue x)) → SameValue (roll-RExp (map-RExp ((x : RExp) × SameValue x) RExp (λ e. e.0) y))
  same_layer (RExp-F.Lit l) = same_rolled (RExp-F.Lit l) (λ agree env. refl)
  same_layer (RExp-F.Var x) = same_rolled (RExp-F.Var x) (λ agree env. refl)
  same_layer (RExp-F.Val k) = same_rolled (RExp-F.Val k) (λ agree env. agree k (0, omega arith, refl))
  same_layer (RExp-F.Rel r) = same_rolled (RExp-F.Rel r) (λ agree env. refl)
  same_layer (RExp-F.Con c es) = same_rolled (RExp-F.Con c (map (λ e. e.0) es)) (λ agree env. ap (option_map (value.Con c)) (parts_same es agree env))
  same_layer (RExp-F.Tuple es) = same_rolled (RExp-F.Tuple (map (λ e. e.0) es)) (λ agree env. ap (option_map value.Tuple) (parts_same es agree env))
  same_layer (RExp-F.List es) = same_rolled (RExp-F.List (map (λ e. e.0) es)) (λ agree env. ap (option_map list_of) (parts_same es agree env))
  same_layer (RExp-F.Cons es) = same_rolled (RExp-F.Cons (map (λ e. e.0) es)) (λ agree env. ap (option_and_then chain_of) (parts_same es agree env))

  same_value : (e : RExp) → SameValue e
  same_value = ind-RExp SameValue (λ x y is. subst (λ z. SameValue (roll-RExp z)) is (same_layer y))

-- ---- expressions that have a value

some_at : {X : Type 0} (xs : List X) (k : ℕ) → k < length xs → IsSome (slice_get xs k)
some_at {X} xs k inside =
    elim (slice_get_cases xs k).1 [ inl w ↦ ap (λ (o : Option X). is_some o) w.2 | inr w ↦ absurd (let past = w.0 in omega arith) ]

some_mapped : {A B : Type 0} (f : A → B) (o : Option A) → IsSome o → IsSome (option_map f o)
some_mapped f None h = h
some_mapped f (Some a) h = refl

some_first : (o : Option Value) (r : Option (List Value)) → IsSome o → IsSome r → IsSome (with_first o r)
some_first None r h more = absurd (cc)
some_first (Some v) r h more = some_mapped (λ rest. v ∷ rest) r more

some_chain : (v : Value) (vs : List Value) → IsSome (chain_of (v ∷ vs))
some_chain v [] = refl
some_chain v (w ∷ vs) = some_mapped (λ rest. value.Con CONS (v ∷ rest ∷ [])) (chain_of (w ∷ vs)) (some_chain w vs)

-- a chain of one item or more
some_chained : (o : Option Value) (r : Option (List Value)) → IsSome (with_first o r) → IsSome (option_and_then chain_of (with_first o r))
some_chained None r h = absurd (cc)
some_chained (Some v) None h = absurd (cc)
some_chained (Some v) (Some vs) h = some_chain v vs

-- each number of a list that is below a bound is found
abbrev AreFound : ℕ → (ℕ → Option Value) → List ℕ → Type 0
AreFound n find ks = (k : ℕ) → k < n → Contains ks k → IsSome (find k)

module _ (names : List (List ℕ)) (vals : ℕ → Option Value) (n : Counts) (cons : List ConDef) (vars : ℕ) (env : Env) (many : n.names ≡ length names) where
  abbrev HasValue : RExp → Type 0
  HasValue e = exp_fits n cons vars e ≡ true → AreFound n.vals vals (vals_in e) → AreFound vars (λ x. look x env) (uses e) → IsSome (meaning names vals e env)

  value_rolled : (y : RExp-F RExp)
      → (exp_at n cons vars (map-RExp RExp Bool (exp_fits n cons vars) y) ≡ true → AreFound n.vals vals (vals_at (map-RExp RExp (List ℕ) vals_in y))
      → AreFound vars (λ x. look x env) (uses_at (map-RExp RExp (List ℕ) uses y)) → IsSome (value_at names vals (map-RExp RExp Evaluation (meaning names vals) y) env))
      → HasValue (roll-RExp y)
  value_rolled y each fits valued bound =
      subst (λ (m : Evaluation). IsSome (m env)) (sym (fold-roll-RExp Evaluation (value_at names vals) y))
      (each (sym (fold-roll-RExp Bool (exp_at n cons vars) y) ∙ fits)
      (subst (λ (ks : List ℕ). AreFound n.vals vals ks) (fold-roll-RExp (List ℕ) vals_at y) valued)
      (subst (λ (xs : List ℕ). AreFound vars (λ x. look x env) xs) (fold-roll-RExp (List ℕ) uses_at y) bound))

  parts_valued : (es : List ((x : RExp) × HasValue x)) → exps_fit n cons vars (map (λ e. e.0) es) ≡ true
      → AreFound n.vals vals (concat (map vals_in (map (λ e. e.0) es))) → AreFound vars (λ x. look x env) (concat (map uses (map (λ e. e.0) es)))
      → IsSome (all_of (map (meaning names vals) (map (λ e. e.0) es)) env)
  parts_valued [] fits valued bound = refl
  parts_valued (e ∷ es) fits valued bound =
      let two = both (exp_fits n cons vars e.0) (exps_fit n cons vars (map (λ e. e.0) es)) fits in
      let ks = concat (map vals_in (map (λ e. e.0) es)) in
      let xs = concat (map uses (map (λ e. e.0) es)) in
      some_first (meaning names vals e.0 env) (all_of (map (meaning names vals) (map (λ e. e.0) es)) env)
      (e.1 two.first (λ k less there. valued k less (Contains-append_left (vals_in e.0) ks k there)) (λ x less there. bound x less (Contains-append_left (uses e.0) xs x there)))
      (parts_valued es two.second (λ k less there. valued k less (Contains-append_right (vals_in e.0) ks k there)) (λ x less there. bound x less (Contains-append_right (uses e.0) xs x there)))

  chain_valued : (es : List ((x : RExp) × HasValue x)) → (nat_le 2 (length (map (exp_fits n cons vars) (map (λ e. e.0) es))) && exps_fit n cons vars (map (λ e. e.0) es)) ≡ true
      → AreFound n.vals vals (concat (map vals_in (map (λ e. e.0) es))) → AreFound vars (λ x. look x env) (concat (map uses (map (λ e. e.0) es)))
      → IsSome (option_and_then chain_of (all_of (map (meaning names vals) (map (λ e. e.0) es)) env))
  chain_valued [] fits valued bound = absurd (cc)
  chain_valued (e ∷ es) fits valued bound =
      some_chained (meaning names vals e.0 env) (all_of (map (meaning names vals) (map (λ e. e.0) es)) env)
      (parts_valued (e ∷ es) (both _ (exps_fit n cons vars (map (λ e. e.0) (e ∷ es))) fits).second valued bound)

  lit_valued : (l : Lit) → lit_fits n l ≡ true → IsSome (value_of_lit names l)
  lit_valued (lit.Int i) h = refl
  lit_valued (lit.Char c) h = refl
  lit_valued (lit.Text k) h =
      let less : k < n.names = ltb-true k n.names h in some_mapped value.Text (slice_get names k) (some_at names k (omega arith))

  value_layer : (y : RExp-F ((x : RExp) × HasValue x)) → HasValue (roll-RExp (map-RExp ((x : RExp) × HasValue x) RExp (λ e. e.0) y))
  value_layer (RExp-F.Lit l) = value_rolled (RExp-F.Lit l) (λ fits valued bound. lit_valued l fits)
  value_layer (RExp-F.Var x) = value_rolled (RExp-F.Var x) (λ fits valued bound. bound x (ltb-true x vars fits) (0, omega arith, refl))
  value_layer (RExp-F.Val k) = value_rolled (RExp-F.Val k) (λ fits valued bound. valued k (ltb-true k n.vals fits) (0, omega arith, refl))
  value_layer (RExp-F.Rel r) = value_rolled (RExp-F.Rel r) (λ fits valued bound. refl)
  value_layer (RExp-F.Con c es) =
      value_rolled (RExp-F.Con c (map (λ e. e.0) es))
      (λ fits valued bound. some_mapped (value.Con c) (all_of (map (meaning names vals) (map (λ e. e.0) es)) env)
      (parts_valued es (both _ (exps_fit n cons vars (map (λ e. e.0) es)) fits).second valued bound))
  value_layer (RExp-F.Tuple es) =
      value_rolled (RExp-F.Tuple (map (λ e. e.0) es))
      (λ fits valued bound. some_mapped value.Tuple (all_of (map (meaning names vals) (map (λ e. e.0) es)) env) (parts_valued es fits valued bound))
  value_layer (RExp-F.List es) =
      value_rolled (RExp-F.List (map (λ e. e.0) es))
      (λ fits valued bound. some_mapped list_of (all_of (map (meaning names vals) (map (λ e. e.0) es)) env) (parts_valued es fits valued bound))
  value_layer (RExp-F.Cons es) = value_rolled (RExp-F.Cons (map (λ e. e.0) es)) (chain_valued es)

  has_value : (e : RExp) → HasValue e
  has_value = ind-RExp HasValue (λ x y is. subst (λ z. HasValue (roll-RExp z)) is (value_layer y))

-- ---- vals

needs_at : (p : Program) (k j : ℕ) → Contains (unwrap_or (option_map val_needs (slice_get p.vals k)) []) j → Needs (map val_needs p.vals) k j
needs_at p k j there = subst (λ (o : Option (List ℕ)). Contains (unwrap_or o []) j) (sym (slice_get-map val_needs p.vals k)) there

val_same_at : (p : Program) (f g : ℕ → Option Value) (o : Option ValDef) → ((j : ℕ) → Contains (unwrap_or (option_map val_needs o) []) j → f j ≡ g j)
    → option_and_then (λ (def : ValDef). meaning p.names f def.value []) o ≡ option_and_then (λ (def : ValDef). meaning p.names g def.value []) o
val_same_at p f g None agree = refl
val_same_at p f g (Some def) agree = same_value p.names f g def.value agree []

-- once all that a val needs has its value at a depth, the val has its own at the next
settled : (p : Program) (k : ℕ) → k < length p.vals → vals_to (meaning_of_val p.names) p.vals (length p.vals) k ≡ vals_to (meaning_of_val p.names) p.vals (suc (length p.vals)) k
settled p k inside =
    let vals : List (List ℕ) = map val_needs p.vals in
    let count : length vals ≡ length p.vals = length-map p.vals val_needs in
    subst (λ (n : ℕ). vals_to (meaning_of_val p.names) p.vals n k ≡ vals_to (meaning_of_val p.names) p.vals (suc n) k) count
    (by_rounds vals (λ n i. vals_to (meaning_of_val p.names) p.vals n i ≡ vals_to (meaning_of_val p.names) p.vals (suc n) i) p.vals_end
    (λ n i less agree. val_same_at p (vals_to (meaning_of_val p.names) p.vals n) (vals_to (meaning_of_val p.names) p.vals (suc n)) (slice_get p.vals i) (λ j there. agree j (needs_at p i j there))) k (omega arith))

off : (p : Program) (n k : ℕ) → slice_get p.vals k ≡ None → vals_to (meaning_of_val p.names) p.vals n k ≡ None
off p zero k h = refl
off p (suc n) k h = ap (λ (o : Option ValDef). option_and_then (λ (def : ValDef). meaning p.names (vals_to (meaning_of_val p.names) p.vals n) def.value []) o) h

pub val_is_its_expression : (p : Program) (k : ℕ) → (context_of p).vals k ≡ option_and_then (λ (def : ValDef). value_of (context_of p) def.value []) (slice_get p.vals k)
val_is_its_expression p k =
    elim (slice_get_cases p.vals k).1 [
      | inl w ↦ settled p k w.1
      | inr w ↦ off p (length p.vals) k w.1 ∙ sym (off p (suc (length p.vals)) k w.1)
    ]

valued_in : (o : Option ValDef) (def : ValDef) (go : ValDef → Option Value) → o ≡ Some def → IsSome (go def) → IsSome (option_and_then go o)
valued_in o def go is h = subst (λ (x : Option ValDef). IsSome (option_and_then go x)) (sym is) h

-- a val has a value at the depth after that at which all that it needs has one
valued_next : (p : Program) (n k : ℕ) → k < length p.vals → ((j : ℕ) → Needs (map val_needs p.vals) k j → IsSome (vals_to (meaning_of_val p.names) p.vals n j)) → IsSome (vals_to (meaning_of_val p.names) p.vals (suc n) k)
valued_next p n k inside each =
    elim (slice_get_cases p.vals k).1 [
      | inl w ↦ (let def : ValDef = w.0 in
          let counts = counts_of p.names p.vals p.rels in
          let there : Contains p.vals def = subst (λ (d : ValDef). Contains p.vals d) w.3 (Contains-get_or p.vals k def inside) in
          let fits = passes (val_fits counts p.types p.cons) p.vals def p.vals_fit there in
          valued_in (slice_get p.vals k) def (λ (d : ValDef). meaning p.names (vals_to (meaning_of_val p.names) p.vals n) d.value []) w.2
          (has_value p.names (vals_to (meaning_of_val p.names) p.vals n) counts p.cons 0 [] refl def.value (both _ (exp_fits counts p.cons 0 def.value) fits).second
          (λ j less needed. each j (needs_at p k j (subst (λ (o : Option ValDef). Contains (unwrap_or (option_map val_needs o) []) j) (sym w.2) needed)))
          (λ x less used. absurd (omega arith))))
      | inr w ↦ absurd (let past = w.0 in omega arith)
    ]

pub each_val : (p : Program) (k : ℕ) → k < length p.vals → IsSome ((context_of p).vals k)
each_val p k inside =
    let vals : List (List ℕ) = map val_needs p.vals in
    let count : length vals ≡ length p.vals = length-map p.vals val_needs in
    subst (λ (n : ℕ). IsSome (vals_to (meaning_of_val p.names) p.vals n k)) count
    (by_rounds vals (λ n i. IsSome (vals_to (meaning_of_val p.names) p.vals n i)) p.vals_end (λ n i less each. valued_next p n i (omega arith) each) k (omega arith))

-- ---- expressions of a program, where their variables are bound

found_if : (same found : Bool) (v : Value) (o : Option Value) → (same || found) ≡ true → (found ≡ true → IsSome o) → IsSome (if same then Some v else o)
found_if true found v o h more = refl
found_if false found v o h more = more h

pub found_in : (x : ℕ) (env : Env) → contains x (bound_in env) ≡ true → IsSome (look x env)
found_in x [] h = absurd (cc)
found_in x (b ∷ env) h = found_if (x == b.var) (contains x (bound_in env)) b.value (look x env) h (found_in x env)

pub each_expression : (p : Program) (vars : ℕ) (e : RExp) (env : Env)
    → IsTrue (exp_fits (counts_of p.names p.vals p.rels) p.cons vars e) → IsTrue (can_use (uses e) (bound_in env)) → IsSome (value_of (context_of p) e env)
each_expression p vars e env fits usable =
    has_value p.names (val_of p.names p.vals) (counts_of p.names p.vals p.rels) p.cons vars env refl e fits
    (λ k less there. each_val p k less)
    (λ x less there. found_in x env (passes (λ y. contains y (bound_in env)) (uses e) x usable there))

pub all_expressions : (p : Program) (vars : ℕ) (es : List RExp) (env : Env)
    → IsTrue (exps_fit (counts_of p.names p.vals p.rels) p.cons vars es) → IsTrue (can_use (all_use es) (bound_in env)) → IsSome (values_of (context_of p) es env)
all_expressions p vars [] env fits usable = refl
all_expressions p vars (e ∷ es) env fits usable =
    let counts = counts_of p.names p.vals p.rels in
    let two = both (exp_fits counts p.cons vars e) (exps_fit counts p.cons vars es) fits in
    let used = both (can_use (uses e) (bound_in env)) (can_use (all_use es) (bound_in env)) (sym (list_all-append (λ x. contains x (bound_in env)) (uses e) (all_use es)) ∙ usable) in
    some_first (value_of (context_of p) e env) (values_of (context_of p) es env) (each_expression p vars e env two.first used.first) (all_expressions p vars es env two.second used.second)
