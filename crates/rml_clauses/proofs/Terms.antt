-- Patterns and expressions that fit in a program fit in its tables in clause form.
use Rattle.std.proofs.Common.{◌≡◌, ℕ, ◌+◌, ◌<◌, ◌≤◌, zero, suc, Bool, true, List, [], ◌∷◌, map, length, Option, Some, None, refl, sym, ap, subst, ◌∙◌, arith}
use Rattle.std.specs.Prelude.{◌&&◌, nat_lt, nat_le, slice_get, slice_index_or, option_map}
use Rattle.std.specs.List.{list_all}
use Rattle.std.proofs.lemmas.Bool.{ltb-true, lt-ltb}
use Rattle.std.proofs.lemmas.List.{length-map}
use Rattle.std.proofs.lemmas.Option.{slice_get-map}
use Rattle.rml_base.specs.Bytes.{are_bytes}
use Rattle.rml_syntax.specs.declared.token.Lit.{Lit}
use Rattle.rml_syntax.specs.declared.token.Lit.TheVariants as lit
use Rattle.rml_resolved.specs.declared.parts.Counts.{Counts}
use Rattle.rml_resolved.specs.declared.tables.ConDef.{ConDef}
use Rattle.rml_resolved.specs.declared.trees.RPat.{RPat, map-RPat, roll-RPat, fold-roll-RPat, ind-RPat}
use Rattle.rml_resolved.specs.declared.trees.RPat.TheOpen.{RPat-F}
use Rattle.rml_resolved.specs.declared.trees.RExp.{RExp, map-RExp, roll-RExp, fold-roll-RExp, ind-RExp}
use Rattle.rml_resolved.specs.declared.trees.RExp.TheOpen.{RExp-F}
use Rattle.rml_resolved.specs.Fits as fits
use Rattle.rml_resolved.specs.Fits.{lit_fits, has_arity, con_fits, pattern_fits, exp_fits}
use Rattle.rml_resolved.proofs.Callers.{both}
use Rattle.rml_fol.specs.declared.terms.Pattern.{Pattern, map-Pattern, roll-Pattern, fold-roll-Pattern}
use Rattle.rml_fol.specs.declared.terms.Pattern.TheOpen.{Pattern-F}
use Rattle.rml_fol.specs.declared.terms.Pattern.TheVariants as pattern
use Rattle.rml_fol.specs.declared.terms.Expression.{Expression, map-Expression, roll-Expression, fold-roll-Expression}
use Rattle.rml_fol.specs.declared.terms.Expression.TheOpen.{Expression-F}
use Rattle.rml_fol.specs.declared.terms.Expression.TheVariants as expression
use Rattle.rml_fol.specs.Fits as made
use Rattle.rml_fol.specs.Fits.{Signatures, is_just, literal_fits, pattern_fits_at, expression_fits_at, expression_fits}
use Rattle.rml_clause.specs.Plain.{literal_of, pattern_at, pattern_of, expression_at, expression_of}
use Rattle.rml_clause.proofs.Callers.{joined}
use Rattle.rml_clauses.proofs.Rows.{every, every-made}

-- ---- names and literals

pub bytes-at : (names : List (List ℕ)) → list_all are_bytes names ≡ true → (k : ℕ) → are_bytes (slice_index_or names k []) ≡ true
bytes-at [] h zero = refl
bytes-at [] h (suc k) = refl
bytes-at (b ∷ names) h zero = (both (are_bytes b) (list_all are_bytes names) h).first
bytes-at (b ∷ names) h (suc k) = bytes-at names (both (are_bytes b) (list_all are_bytes names) h).second k

abbrev pub arity : ConDef → ℕ
arity d = d.arity

arity-told : (o : Option ConDef) (k : ℕ) → has_arity k o ≡ is_just k (option_map arity o)
arity-told None k = refl
arity-told (Some d) k = refl

-- what clause form declares is what the program declares
pub record Declares (names : List (List ℕ)) (n : Counts) (cons : List ConDef) (all : Signatures) : Type 0 where
  pub bytes : list_all are_bytes names ≡ true
  pub same_cons : all.cons ≡ map arity cons
  pub same_vals : all.vals ≡ n.vals
  pub same_rels : length all.rels ≡ n.rels

module _ (names : List (List ℕ)) (n : Counts) (cons : List ConDef) (all : Signatures) (same : Declares names n cons all) where
  con-told : (c k : ℕ) → con_fits cons c k ≡ made.con_fits all c k
  con-told c k = arity-told (slice_get cons c) k ∙ ap (is_just k) (sym (slice_get-map arity cons c)) ∙ ap (λ (arities : List ℕ). is_just k (slice_get arities c)) (sym same.same_cons)

  -- of so many arguments, however they are counted
  con-fits : (c k j : ℕ) → k ≡ j → con_fits cons c k ≡ true → made.con_fits all c j ≡ true
  con-fits c k j e h = ap (λ (m : ℕ). made.con_fits all c m) (sym e) ∙ sym (con-told c k) ∙ h

  literal-fits : (l : Lit) → lit_fits n l ≡ true → literal_fits (literal_of names l) ≡ true
  literal-fits (lit.Int i) h = h
  literal-fits (lit.Char c) h = h
  literal-fits (lit.Text k) h = bytes-at names same.bytes k

  -- behind so many parameters the rule's variables are among the relation's
  module _ (params vars most : ℕ) (le : params + vars ≤ most) where
    pub var-fits : (x : ℕ) → nat_lt x vars ≡ true → nat_lt (params + x) most ≡ true
    var-fits x h = let less : x < vars = ltb-true x vars h in lt-ltb (params + x) most (omega arith)

    -- ---- expressions

    abbrev was : RExp → Bool
    was = exp_fits n cons vars

    abbrev is : Expression → Bool
    is = expression_fits all most

    abbrev of : RExp → Expression
    of = expression_of names params

    abbrev ExpFits : RExp → Type 0
    ExpFits e = was e ≡ true → is (of e) ≡ true

    exp-rolled : (y : RExp-F RExp) (z : Expression-F Expression) → expression_at names params (map-RExp RExp Expression of y) ≡ roll-Expression z
        → (fits.exp_at n cons vars (map-RExp RExp Bool was y) ≡ true → expression_fits_at all most (map-Expression Expression Bool is z) ≡ true) → ExpFits (roll-RExp y)
    exp-rolled y z e f h =
        ap is (fold-roll-RExp Expression (expression_at names params) y ∙ e) ∙ fold-roll-Expression Bool (expression_fits_at all most) z
        ∙ f (sym (fold-roll-RExp Bool (fits.exp_at n cons vars) y) ∙ h)

    abbrev ExpParts : Type 0
    ExpParts = List ((x : RExp) × ExpFits x)

    abbrev exps : ExpParts → List RExp
    exps es = map (λ e. e.0) es

    exp-parts : (es : ExpParts) → every (map was (exps es)) ≡ true → every (map is (map of (exps es))) ≡ true
    exp-parts es = every-made was of is es

    exp-count : (es : ExpParts) → length (map was (exps es)) ≡ length (map is (map of (exps es)))
    exp-count es = length-map (exps es) was ∙ sym (length-map (map of (exps es)) is ∙ length-map (exps es) of)

    exp-con : (c : ℕ) (es : ExpParts) → (con_fits cons c (length (map was (exps es))) && every (map was (exps es))) ≡ true
        → (made.con_fits all c (length (map is (map of (exps es)))) && every (map is (map of (exps es)))) ≡ true
    exp-con c es h =
        let two = both (con_fits cons c (length (map was (exps es)))) (every (map was (exps es))) h in
        joined (made.con_fits all c (length (map is (map of (exps es))))) (every (map is (map of (exps es))))
        (con-fits c (length (map was (exps es))) (length (map is (map of (exps es)))) (exp-count es) two.first) (exp-parts es two.second)

    exp-chain : (es : ExpParts) → (nat_le 2 (length (map was (exps es))) && every (map was (exps es))) ≡ true → (nat_le 2 (length (map is (map of (exps es)))) && every (map is (map of (exps es)))) ≡ true
    exp-chain es h =
        let two = both (nat_le 2 (length (map was (exps es)))) (every (map was (exps es))) h in
        joined (nat_le 2 (length (map is (map of (exps es))))) (every (map is (map of (exps es)))) (ap (nat_le 2) (sym (exp-count es)) ∙ two.first) (exp-parts es two.second)

    exp-layer : (y : RExp-F ((x : RExp) × ExpFits x)) → ExpFits (roll-RExp (map-RExp ((x : RExp) × ExpFits x) RExp (λ e. e.0) y))
    exp-layer (RExp-F.Lit l) = exp-rolled (RExp-F.Lit l) (Expression-F.Lit (literal_of names l)) (sym (expression.rolls-Lit (literal_of names l))) (literal-fits l)
    exp-layer (RExp-F.Var x) = exp-rolled (RExp-F.Var x) (Expression-F.Var (params + x)) (sym (expression.rolls-Var (params + x))) (var-fits x)
    exp-layer (RExp-F.Val k) = exp-rolled (RExp-F.Val k) (Expression-F.Val k) (sym (expression.rolls-Val k)) (λ h. ap (λ (m : ℕ). nat_lt k m) same.same_vals ∙ h)
    exp-layer (RExp-F.Rel r) = exp-rolled (RExp-F.Rel r) (Expression-F.Rel r) (sym (expression.rolls-Rel r)) (λ h. ap (λ (m : ℕ). nat_lt r m) same.same_rels ∙ h)
    exp-layer (RExp-F.Con c es) = exp-rolled (RExp-F.Con c (exps es)) (Expression-F.Con c (map of (exps es))) (sym (expression.rolls-Con c (map of (exps es)))) (exp-con c es)
    exp-layer (RExp-F.Tuple es) = exp-rolled (RExp-F.Tuple (exps es)) (Expression-F.Tuple (map of (exps es))) (sym (expression.rolls-Tuple (map of (exps es)))) (exp-parts es)
    exp-layer (RExp-F.List es) = exp-rolled (RExp-F.List (exps es)) (Expression-F.List (map of (exps es))) (sym (expression.rolls-List (map of (exps es)))) (exp-parts es)
    exp-layer (RExp-F.Cons es) = exp-rolled (RExp-F.Cons (exps es)) (Expression-F.Cons (map of (exps es))) (sym (expression.rolls-Cons (map of (exps es)))) (exp-chain es)

    pub expression-fits : (e : RExp) → exp_fits n cons vars e ≡ true → expression_fits all most (expression_of names params e) ≡ true
    expression-fits = ind-RExp ExpFits (λ x y eq. subst (λ z. ExpFits (roll-RExp z)) eq (exp-layer y))

    -- ---- patterns

    abbrev fitted : RPat → Bool
    fitted = pattern_fits n cons vars

    abbrev fitting : Pattern → Bool
    fitting = made.pattern_fits all most

    abbrev formed : RPat → Pattern
    formed = pattern_of names params

    abbrev PatternFits : RPat → Type 0
    PatternFits p = fitted p ≡ true → fitting (formed p) ≡ true

    pattern-rolled : (y : RPat-F RPat) (z : Pattern-F Pattern) → pattern_at names params (map-RPat RPat Pattern formed y) ≡ roll-Pattern z
        → (fits.pattern_at n cons vars (map-RPat RPat Bool fitted y) ≡ true → pattern_fits_at all most (map-Pattern Pattern Bool fitting z) ≡ true) → PatternFits (roll-RPat y)
    pattern-rolled y z e f h =
        ap fitting (fold-roll-RPat Pattern (pattern_at names params) y ∙ e) ∙ fold-roll-Pattern Bool (pattern_fits_at all most) z
        ∙ f (sym (fold-roll-RPat Bool (fits.pattern_at n cons vars) y) ∙ h)

    abbrev PatternParts : Type 0
    PatternParts = List ((x : RPat) × PatternFits x)

    abbrev pats : PatternParts → List RPat
    pats ps = map (λ e. e.0) ps

    pattern-parts : (ps : PatternParts) → every (map fitted (pats ps)) ≡ true → every (map fitting (map formed (pats ps))) ≡ true
    pattern-parts ps = every-made fitted formed fitting ps

    pattern-count : (ps : PatternParts) → length (map fitted (pats ps)) ≡ length (map fitting (map formed (pats ps)))
    pattern-count ps = length-map (pats ps) fitted ∙ sym (length-map (map formed (pats ps)) fitting ∙ length-map (pats ps) formed)

    pattern-con : (c : ℕ) (ps : PatternParts) → (con_fits cons c (length (map fitted (pats ps))) && every (map fitted (pats ps))) ≡ true
        → (made.con_fits all c (length (map fitting (map formed (pats ps)))) && every (map fitting (map formed (pats ps)))) ≡ true
    pattern-con c ps h =
        let two = both (con_fits cons c (length (map fitted (pats ps)))) (every (map fitted (pats ps))) h in
        joined (made.con_fits all c (length (map fitting (map formed (pats ps))))) (every (map fitting (map formed (pats ps))))
        (con-fits c (length (map fitted (pats ps))) (length (map fitting (map formed (pats ps)))) (pattern-count ps) two.first) (pattern-parts ps two.second)

    pattern-chain : (ps : PatternParts) → (nat_le 2 (length (map fitted (pats ps))) && every (map fitted (pats ps))) ≡ true
        → (nat_le 2 (length (map fitting (map formed (pats ps)))) && every (map fitting (map formed (pats ps)))) ≡ true
    pattern-chain ps h =
        let two = both (nat_le 2 (length (map fitted (pats ps)))) (every (map fitted (pats ps))) h in
        joined (nat_le 2 (length (map fitting (map formed (pats ps))))) (every (map fitting (map formed (pats ps)))) (ap (nat_le 2) (sym (pattern-count ps)) ∙ two.first) (pattern-parts ps two.second)

    pattern-layer : (y : RPat-F ((x : RPat) × PatternFits x)) → PatternFits (roll-RPat (map-RPat ((x : RPat) × PatternFits x) RPat (λ e. e.0) y))
    pattern-layer RPat-F.Any = pattern-rolled RPat-F.Any Pattern-F.Any (sym pattern.rolls-Any) (λ h. refl)
    pattern-layer (RPat-F.Lit l) = pattern-rolled (RPat-F.Lit l) (Pattern-F.Lit (literal_of names l)) (sym (pattern.rolls-Lit (literal_of names l))) (literal-fits l)
    pattern-layer (RPat-F.Var x) = pattern-rolled (RPat-F.Var x) (Pattern-F.Var (params + x)) (sym (pattern.rolls-Var (params + x))) (var-fits x)
    pattern-layer (RPat-F.Con c ps) = pattern-rolled (RPat-F.Con c (pats ps)) (Pattern-F.Con c (map formed (pats ps))) (sym (pattern.rolls-Con c (map formed (pats ps)))) (pattern-con c ps)
    pattern-layer (RPat-F.Tuple ps) = pattern-rolled (RPat-F.Tuple (pats ps)) (Pattern-F.Tuple (map formed (pats ps))) (sym (pattern.rolls-Tuple (map formed (pats ps)))) (pattern-parts ps)
    pattern-layer (RPat-F.List ps) = pattern-rolled (RPat-F.List (pats ps)) (Pattern-F.List (map formed (pats ps))) (sym (pattern.rolls-List (map formed (pats ps)))) (pattern-parts ps)
    pattern-layer (RPat-F.Cons ps) = pattern-rolled (RPat-F.Cons (pats ps)) (Pattern-F.Cons (map formed (pats ps))) (sym (pattern.rolls-Cons (map formed (pats ps)))) (pattern-chain ps)
    pattern-layer (RPat-F.Bind x e) =
        pattern-rolled (RPat-F.Bind x e.0) (Pattern-F.Bind (params + x) (formed e.0)) (sym (pattern.rolls-Bind (params + x) (formed e.0)))
        (λ h. let two = both (nat_lt x vars) (fitted e.0) h in joined (nat_lt (params + x) most) (fitting (formed e.0)) (var-fits x two.first) (e.1 two.second))

    pub pattern-fits : (p : RPat) → pattern_fits n cons vars p ≡ true → made.pattern_fits all most (pattern_of names params p) ≡ true
    pattern-fits = ind-RPat PatternFits (λ x y eq. subst (λ z. PatternFits (roll-RPat z)) eq (pattern-layer y))
