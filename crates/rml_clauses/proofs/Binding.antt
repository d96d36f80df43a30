-- What is made of rules uses only what was bound before. The variables of a rule are bound and used where the rule does it, behind the
-- parameters; those that are set and received come behind them, and each is new.
use Rattle.std.proofs.Common.{◌≡◌, ◌≢◌, ℕ, zero, suc, ◌+◌, ◌<◌, ◌≤◌, Bool, true, false, List, [], ◌∷◌, ◌++◌, map, length, Option, Some, None, refl, sym, ap, subst, ◌∙◌, inl, inr, eq-eqb, append_assoc, append-nil, arith, IsTrue}
use Rattle.std.specs.Prelude.{◌&&◌, ◌||◌, ◌==◌, ◌⊎◌, not, if◌then◌else◌, nat_lt, option_map, option_and_then, slice_index_or}
use Rattle.std.specs.List.{list_all, list_any, concat}
use Rattle.std.proofs.lemmas.Bool.{ne_eqb, eqb-true, lt-ltb}
use Rattle.std.proofs.lemmas.Bool.Decides.{nat_tests}
use Rattle.std.proofs.lemmas.List.Folds.{list_any-append, list_all-append}
use Rattle.std.proofs.lemmas.Option.{same_Some}
use Rattle.rml_resolved.specs.declared.trees.RPat.{RPat, map-RPat, roll-RPat, fold-roll-RPat, ind-RPat}
use Rattle.rml_resolved.specs.declared.trees.RPat.TheOpen.{RPat-F}
use Rattle.rml_resolved.specs.declared.trees.RExp.{RExp, map-RExp, roll-RExp, fold-roll-RExp, ind-RExp}
use Rattle.rml_resolved.specs.declared.trees.RExp.TheOpen.{RExp-F}
use Rattle.rml_resolved.specs.declared.trees.RExp.TheVariants as exp
use Rattle.rml_resolved.specs.declared.trees.RGoal.{RGoal, map-RGoal, fold-roll-RGoal}
use Rattle.rml_resolved.specs.declared.trees.RGoal.TheOpen.{RGoal-F}
use Rattle.rml_resolved.specs.declared.trees.RGoal.TheVariants as goal
use Rattle.rml_resolved.specs.declared.trees.Callee.{Callee as Called}
use Rattle.rml_resolved.specs.declared.trees.Callee.TheVariants as called
use Rattle.rml_resolved.specs.declared.tables.RRule.{RRule}
use Rattle.rml_resolved.specs.Binding as search
use Rattle.rml_resolved.specs.Binding.{contains, all_bind, goal_binds_at, goal_binds, rule_binds, is_distinct, uses_at, uses, all_use, callee_uses, can_use, parts_in_turn, use_then_bind, bound_at, after_goal, after_goals, before_results, has_all, uses_bound}
use Rattle.rml_resolved.proofs.Callers.{Below, both}
use Rattle.rml_fol.specs.declared.terms.Pattern.{Pattern, map-Pattern, roll-Pattern, fold-roll-Pattern}
use Rattle.rml_fol.specs.declared.terms.Pattern.TheOpen.{Pattern-F}
use Rattle.rml_fol.specs.declared.terms.Pattern.TheVariants as pattern
use Rattle.rml_fol.specs.declared.terms.Expression.{Expression, map-Expression, roll-Expression, fold-roll-Expression}
use Rattle.rml_fol.specs.declared.terms.Expression.TheOpen.{Expression-F}
use Rattle.rml_fol.specs.declared.terms.Expression.TheVariants as expression
use Rattle.rml_fol.specs.declared.statements.Callee.{Callee}
use Rattle.rml_fol.specs.declared.statements.Callee.TheVariants as callee
use Rattle.rml_fol.specs.declared.statements.Stmt.{Stmt, fold-roll-Stmt}
use Rattle.rml_fol.specs.declared.statements.Stmt.TheVariants as stmt
use Rattle.rml_fol.specs.declared.statements.Stmt.TheOpen.{Stmt-F}
use Rattle.rml_fol.specs.declared.statements.Alternative.{Alternative, out-Alternative, fold-Alternative, fold-roll-Alternative, roll-out-Alternative}
use Rattle.rml_fol.specs.Patterns.{bound, bound_at as bound_in_layer}
use Rattle.rml_fol.specs.Scoped.{Known, with_var, knows_at, knows, knows_all, knows_callee, InScope, Checked, at_end, binding, without_bodies, Block, Action, in_turn, all_scoped, scoped_at, alternative_scoped_at, case_scoped_at, scoped, at_beginning}
use Rattle.rml_clause.specs.Plain.{literal_of, pattern_at, pattern_of, expression_at, expression_of, numbers_from, IsIn, AreIn, AreMatched, IsPremise, ArePremises, IsRule, AreRules}
use Rattle.rml_clause.specs.Fresh.{fresh, fresh_in, IsNoneOf, AreFresh, EachFresh}
use Rattle.rml_clause.proofs.Callers.{joined, fresh_append, fresh-Set, fresh-Match, fresh-Call, fresh-Builtin, fresh-Equal, fresh-Not, fresh-Give, fresh_matches, fresh-before-give}
use Rattle.rml_clauses.proofs.Rows.{row-more}

-- ---- one variable more

true-if : (t b : Bool) → b ≡ true → (if t then true else b) ≡ true
true-if true b h = refl
true-if false b h = h

var-there : (x : ℕ) (k : Known) → with_var x k x ≡ true
var-there x k = ap (λ (t : Bool). if t then true else k x) (eq-eqb x x refl)

var-other : (x y : ℕ) (k : Known) → y ≢ x → with_var x k y ≡ k y
var-other x y k d = ap (λ (t : Bool). if t then true else k y) (ne_eqb y x d)

-- what was known is known still
record Grows (k l : Known) : Type 0 where
  at : (x : ℕ) → k x ≡ true → l x ≡ true

grows-self : (k : Known) → Grows k k
grows-self k = record { at = λ x h. h }

grows-more : (k l m : Known) → Grows k l → Grows l m → Grows k m
grows-more k l m f g = record { at = λ x h. g.at x (f.at x h) }

grows-var : (x : ℕ) (k : Known) → Grows k (with_var x k)
grows-var x k = record { at = λ y h. true-if (y == x) (k y) h }

all-grow : (k l : Known) (xs : List ℕ) → Grows k l → knows_all k xs ≡ true → knows_all l xs ≡ true
all-grow k l xs g = row-more k l g.at xs

-- ---- lists of variables

either : (a b : Bool) → (a || b) ≡ true → (a ≡ true) ⊎ (b ≡ true)
either true b h = inl refl
either false b h = inr h

in-one : (z x : ℕ) (xs : List ℕ) → contains z (x ∷ xs) ≡ true → (z ≡ x) ⊎ (contains z xs ≡ true)
in-one z x xs h = elim (either (z == x) (contains z xs) h) [ inl e ↦ inl (eqb-true z x e) | inr e ↦ inr e ]

in-both : (z : ℕ) (xs ys : List ℕ) → contains z (xs ++ ys) ≡ true → (contains z xs ≡ true) ⊎ (contains z ys ≡ true)
in-both z xs ys h = either (contains z xs) (contains z ys) (sym (list_any-append (λ y. z == y) xs ys) ∙ h)

or-right : (a b : Bool) → b ≡ true → (a || b) ≡ true
or-right true b h = refl
or-right false b h = h

in-first : (z : ℕ) (xs : List ℕ) → contains z (z ∷ xs) ≡ true
in-first z xs = ap (λ (t : Bool). t || contains z xs) (eq-eqb z z refl)

in-rest : (z x : ℕ) (xs : List ℕ) → contains z xs ≡ true → contains z (x ∷ xs) ≡ true
in-rest z x xs h = or-right (z == x) (contains z xs) h

in-back : (z : ℕ) (xs ys : List ℕ) → contains z ys ≡ true → contains z (xs ++ ys) ≡ true
in-back z xs ys h = list_any-append (λ y. z == y) xs ys ∙ or-right (contains z xs) (contains z ys) h

not-true : (b : Bool) → not b ≡ true → b ≡ false
not-true true h = absurd (cc)
not-true false h = refl

not-false : (b : Bool) → b ≡ false → not b ≡ true
not-false true h = absurd (cc)
not-false false h = refl

differs : (x z : ℕ) (xs : List ℕ) → contains x xs ≡ false → contains z xs ≡ true → z ≢ x
differs x z xs absent there e = let h : contains x xs ≡ true = subst (λ (y : ℕ). contains y xs ≡ true) e there in absurd (cc)

distinct-back : (xs ys : List ℕ) → is_distinct (xs ++ ys) ≡ true → is_distinct ys ≡ true
distinct-back [] ys h = h
distinct-back (x ∷ xs) ys h = distinct-back xs ys (both (not (contains x (xs ++ ys))) (is_distinct (xs ++ ys)) h).second

-- ---- where a part stands

-- the variables that are still to be set and received: each is from a number on, unknown, and not bound again
abbrev Awaited : ℕ → List ℕ → Known → Type 0
Awaited from [] k = Unit {0}
Awaited from (x ∷ xs) k = (from ≤ x) × (k x ≡ false) × IsNoneOf x xs × Awaited from xs k

awaited-other : (from y : ℕ) (xs : List ℕ) (k : Known) → IsNoneOf y xs → Awaited from xs k → Awaited from xs (with_var y k)
awaited-other from y [] k d h = tt
awaited-other from y (x ∷ xs) k d h = (h.0, var-other y x k (λ e. d.0 (sym e)) ∙ h.1, h.2, awaited-other from y xs k d.1 h.3)

above-other : (x y : ℕ) → y < x → x ≢ y
above-other x y less e = omega arith

awaited-below : (from y : ℕ) (xs : List ℕ) (k : Known) → y < from → Awaited from xs k → Awaited from xs (with_var y k)
awaited-below from y [] k less h = tt
awaited-below from y (x ∷ xs) k less h =
    let more : from ≤ x = h.0 in
    (h.0, var-other y x k (above-other x y (omega arith)) ∙ h.1, h.2, awaited-below from y xs k less h.3)

awaited-back : (from : ℕ) (xs ys : List ℕ) (k : Known) → Awaited from (xs ++ ys) k → Awaited from ys k
awaited-back from [] ys k h = h
awaited-back from (x ∷ xs) ys k h = awaited-back from xs ys k h.3

awaited-first : (from params : ℕ) (xs : List ℕ) → params ≤ from → AreFresh from xs → Awaited from xs (λ x. nat_lt x params)
awaited-first from params [] le h = tt
awaited-first from params (x ∷ xs) le h =
    let far : from ≤ x = h.0 in
    (h.0, (let over : params ≤ x = omega arith in grind (arith, nat_tests)), h.1, awaited-first from params xs le h.2)

-- In a rule with so many variables behind so many parameters: the parameters and what the rule has bound are known, what it is still to
-- bind is not, nor what is still to be set and received.
record Stands (params vars : ℕ) (done coming more : List ℕ) (k : Known) : Type 0 where
  first : (x : ℕ) → x < params → k x ≡ true
  known : (x : ℕ) → contains x done ≡ true → k (params + x) ≡ true
  new : (x : ℕ) → contains x coming ≡ true → k (params + x) ≡ false
  below : (x : ℕ) → contains x coming ≡ true → x < vars
  apart : is_distinct coming ≡ true
  awaited : Awaited (params + vars) more k

module _ (params vars : ℕ) where
  stands-as : (done coming all more rest : List ℕ) (k : Known) → all ≡ coming → more ≡ rest → Stands params vars done all more k → Stands params vars done coming rest k
  stands-as done coming all more rest k e f h = subst (λ (xs : List ℕ). Stands params vars done coming xs k) f (subst (λ (xs : List ℕ). Stands params vars done xs more k) e h)

  -- what a part has bound for itself alone is passed by
  stands-back : (done front coming some more : List ℕ) (k : Known) → Stands params vars done (front ++ coming) (some ++ more) k → Stands params vars done coming more k
  stands-back done front coming some more k h = record {
    first = h.first;
    known = h.known;
    new = λ x there. h.new x (in-back x front coming there);
    below = λ x there. h.below x (in-back x front coming there);
    apart = distinct-back front coming h.apart;
    awaited = awaited-back (params + vars) some more k h.awaited;
  }

  sums-apart : (x y : ℕ) → x ≢ y → params + x ≢ params + y
  sums-apart x y d e = d (omega arith)

  -- a variable of the rule
  stands-bound : (x : ℕ) (done coming more : List ℕ) (k : Known) → Stands params vars done (x ∷ coming) more k → Stands params vars (done ++ x ∷ []) coming more (with_var (params + x) k)
  stands-bound x done coming more k h =
      let two = both (not (contains x coming)) (is_distinct coming) h.apart in
      let less : x < vars = h.below x (in-first x coming) in
      record {
        first = λ y low. true-if (y == params + x) (k y) (h.first y low);
        known = λ y there.
            elim (in-both y done (x ∷ []) there) [
              | inl e ↦ true-if (params + y == params + x) (k (params + y)) (h.known y e)
              | inr e ↦ elim (in-one y x [] e) [ inl same ↦ subst (λ (z : ℕ). with_var (params + x) k (params + z) ≡ true) (sym same) (var-there (params + x) k) | inr none ↦ absurd (cc) ]
            ];
        new = λ y there. var-other (params + x) (params + y) k (sums-apart y x (differs x y coming (not-true (contains x coming) two.first) there)) ∙ h.new y (in-rest y x coming there);
        below = λ y there. h.below y (in-rest y x coming there);
        apart = two.second;
        awaited = awaited-below (params + vars) (params + x) more k (omega arith) h.awaited;
      }

  -- one that is set or received
  stands-set : (y : ℕ) (done coming more : List ℕ) (k : Known) → Stands params vars done coming (y ∷ more) k → Stands params vars done coming more (with_var y k)
  stands-set y done coming more k h =
      let far : params + vars ≤ y = h.awaited.0 in
      record {
        first = λ x low. true-if (x == y) (k x) (h.first x low);
        known = λ x there. true-if (params + x == y) (k (params + x)) (h.known x there);
        new = λ x there. var-other y (params + x) k (let less : x < vars = h.below x there in λ e. omega arith) ∙ h.new x there;
        below = h.below;
        apart = h.apart;
        awaited = awaited-other (params + vars) y more k h.awaited.2 h.awaited.3;
      }

-- ---- patterns and expressions

module _ (names : List (List ℕ)) (params : ℕ) where
  abbrev shifted : List ℕ → List ℕ
  shifted xs = map (λ (x : ℕ). params + x) xs

  shifted-both : (xs ys : List ℕ) → shifted (xs ++ ys) ≡ shifted xs ++ shifted ys
  shifted-both [] ys = refl
  shifted-both (x ∷ xs) ys = ap (λ (zs : List ℕ). (params + x) ∷ zs) (shifted-both xs ys)

  abbrev formed : RPat → Pattern
  formed = pattern_of names params

  abbrev BindsSame : RPat → Type 0
  BindsSame p = bound (formed p) ≡ shifted (search.binds p)

  binds-rolled : (y : RPat-F RPat) (z : Pattern-F Pattern) → pattern_at names params (map-RPat RPat Pattern formed y) ≡ roll-Pattern z
      → bound_in_layer (map-Pattern Pattern (List ℕ) bound z) ≡ shifted (search.binds_at (map-RPat RPat (List ℕ) search.binds y)) → BindsSame (roll-RPat y)
  binds-rolled y z e h =
      ap bound (fold-roll-RPat Pattern (pattern_at names params) y ∙ e) ∙ fold-roll-Pattern (List ℕ) bound_in_layer z ∙ h ∙ ap shifted (sym (fold-roll-RPat (List ℕ) search.binds_at y))

  abbrev PatternParts : Type 0
  PatternParts = List ((x : RPat) × BindsSame x)

  abbrev pats : PatternParts → List RPat
  pats ps = map (λ e. e.0) ps

  parts-bind : (ps : PatternParts) → concat (map bound (map formed (pats ps))) ≡ shifted (concat (map search.binds (pats ps)))
  parts-bind [] = refl
  parts-bind (p ∷ ps) =
      ap (λ (xs : List ℕ). xs ++ concat (map bound (map formed (pats ps)))) p.1 ∙ ap (λ (xs : List ℕ). shifted (search.binds p.0) ++ xs) (parts-bind ps)
      ∙ sym (shifted-both (search.binds p.0) (concat (map search.binds (pats ps))))

  binds-layer : (y : RPat-F ((x : RPat) × BindsSame x)) → BindsSame (roll-RPat (map-RPat ((x : RPat) × BindsSame x) RPat (λ e. e.0) y))
  binds-layer RPat-F.Any = binds-rolled RPat-F.Any Pattern-F.Any (sym pattern.rolls-Any) refl
  binds-layer (RPat-F.Lit l) = binds-rolled (RPat-F.Lit l) (Pattern-F.Lit (literal_of names l)) (sym (pattern.rolls-Lit (literal_of names l))) refl
  binds-layer (RPat-F.Var x) = binds-rolled (RPat-F.Var x) (Pattern-F.Var (params + x)) (sym (pattern.rolls-Var (params + x))) refl
  binds-layer (RPat-F.Con c ps) = binds-rolled (RPat-F.Con c (pats ps)) (Pattern-F.Con c (map formed (pats ps))) (sym (pattern.rolls-Con c (map formed (pats ps)))) (parts-bind ps)
  binds-layer (RPat-F.Tuple ps) = binds-rolled (RPat-F.Tuple (pats ps)) (Pattern-F.Tuple (map formed (pats ps))) (sym (pattern.rolls-Tuple (map formed (pats ps)))) (parts-bind ps)
  binds-layer (RPat-F.List ps) = binds-rolled (RPat-F.List (pats ps)) (Pattern-F.List (map formed (pats ps))) (sym (pattern.rolls-List (map formed (pats ps)))) (parts-bind ps)
  binds-layer (RPat-F.Cons ps) = binds-rolled (RPat-F.Cons (pats ps)) (Pattern-F.Cons (map formed (pats ps))) (sym (pattern.rolls-Cons (map formed (pats ps)))) (parts-bind ps)
  binds-layer (RPat-F.Bind x e) =
      binds-rolled (RPat-F.Bind x e.0) (Pattern-F.Bind (params + x) (formed e.0)) (sym (pattern.rolls-Bind (params + x) (formed e.0))) (ap (λ (xs : List ℕ). (params + x) ∷ xs) e.1)

  -- a pattern binds what the rule's binds, behind the parameters
  pub binds-same : (p : RPat) → BindsSame p
  binds-same = ind-RPat BindsSame (λ x y is. subst (λ z. BindsSame (roll-RPat z)) is (binds-layer y))

  -- ---- expressions

  module _ (done : List ℕ) (k : Known) (there : (x : ℕ) → contains x done ≡ true → k (params + x) ≡ true) where
    abbrev of : RExp → Expression
    of = expression_of names params

    abbrev Knows : RExp → Type 0
    Knows e = can_use (uses e) done ≡ true → knows k (of e) ≡ true

    knows-rolled : (y : RExp-F RExp) (z : Expression-F Expression) → expression_at names params (map-RExp RExp Expression of y) ≡ roll-Expression z
        → (can_use (uses_at (map-RExp RExp (List ℕ) uses y)) done ≡ true → knows_at k (map-Expression Expression Bool (knows k) z) ≡ true) → Knows (roll-RExp y)
    knows-rolled y z e f h =
        ap (knows k) (fold-roll-RExp Expression (expression_at names params) y ∙ e) ∙ fold-roll-Expression Bool (knows_at k) z
        ∙ f (ap (λ (xs : List ℕ). can_use xs done) (sym (fold-roll-RExp (List ℕ) uses_at y)) ∙ h)

    abbrev Parts : Type 0
    Parts = List ((x : RExp) × Knows x)

    abbrev exps : Parts → List RExp
    exps es = map (λ e. e.0) es

    use-both : (xs ys : List ℕ) → can_use (xs ++ ys) done ≡ true → (can_use xs done ≡ true) × (can_use ys done ≡ true)
    use-both xs ys h =
        let two = both (can_use xs done) (can_use ys done) (sym (list_all-append (λ x. contains x done) xs ys) ∙ h) in
        (two.first, two.second)

    parts-know : (es : Parts) → can_use (concat (map uses (exps es))) done ≡ true → list_all (λ b. b) (map (knows k) (map of (exps es))) ≡ true
    parts-know [] h = refl
    parts-know (e ∷ es) h =
        let two = use-both (uses e.0) (concat (map uses (exps es))) h in
        joined (knows k (of e.0)) (list_all (λ b. b) (map (knows k) (map of (exps es)))) (e.1 two.0) (parts-know es two.1)

    var-known : (x : ℕ) → can_use (x ∷ []) done ≡ true → k (params + x) ≡ true
    var-known x h = there x (both (contains x done) true h).first

    knows-layer : (y : RExp-F ((x : RExp) × Knows x)) → Knows (roll-RExp (map-RExp ((x : RExp) × Knows x) RExp (λ e. e.0) y))
    knows-layer (RExp-F.Lit l) = knows-rolled (RExp-F.Lit l) (Expression-F.Lit (literal_of names l)) (sym (expression.rolls-Lit (literal_of names l))) (λ h. refl)
    knows-layer (RExp-F.Var x) = knows-rolled (RExp-F.Var x) (Expression-F.Var (params + x)) (sym (expression.rolls-Var (params + x))) (var-known x)
    knows-layer (RExp-F.Val j) = knows-rolled (RExp-F.Val j) (Expression-F.Val j) (sym (expression.rolls-Val j)) (λ h. refl)
    knows-layer (RExp-F.Rel r) = knows-rolled (RExp-F.Rel r) (Expression-F.Rel r) (sym (expression.rolls-Rel r)) (λ h. refl)
    knows-layer (RExp-F.Con c es) = knows-rolled (RExp-F.Con c (exps es)) (Expression-F.Con c (map of (exps es))) (sym (expression.rolls-Con c (map of (exps es)))) (parts-know es)
    knows-layer (RExp-F.Tuple es) = knows-rolled (RExp-F.Tuple (exps es)) (Expression-F.Tuple (map of (exps es))) (sym (expression.rolls-Tuple (map of (exps es)))) (parts-know es)
    knows-layer (RExp-F.List es) = knows-rolled (RExp-F.List (exps es)) (Expression-F.List (map of (exps es))) (sym (expression.rolls-List (map of (exps es)))) (parts-know es)
    knows-layer (RExp-F.Cons es) = knows-rolled (RExp-F.Cons (exps es)) (Expression-F.Cons (map of (exps es))) (sym (expression.rolls-Cons (map of (exps es)))) (parts-know es)

    -- where the rule may use an expression, its variables are known
    pub expression-known : (e : RExp) → Knows e
    expression-known = ind-RExp Knows (λ x y is. subst (λ z. Knows (roll-RExp z)) is (knows-layer y))

-- ---- statements

scopes : (s : Stmt) (y : Stmt-F Action Block Block) (given next : Checked) (t : InScope) → scoped s ≡ scoped_at y → scoped_at y given next t ≡ true → scoped s given next t ≡ true
scopes s y given next t e h = ap (λ (a : Action). a given next t) e ∙ h

scopes-Match : (x : ℕ) (p : Pattern) → scoped (stmt.Match x p) ≡ scoped_at (Stmt-F.Match x p)
scopes-Match x p = ap scoped (sym (stmt.rolls-Match x p)) ∙ fold-roll-Stmt Action Block Block scoped_at alternative_scoped_at case_scoped_at (Stmt-F.Match x p)

scopes-Set : (x : ℕ) (e : Expression) → scoped (stmt.Set x e) ≡ scoped_at (Stmt-F.Set x e)
scopes-Set x e = ap scoped (sym (stmt.rolls-Set x e)) ∙ fold-roll-Stmt Action Block Block scoped_at alternative_scoped_at case_scoped_at (Stmt-F.Set x e)

scopes-Call : (f : Callee) (xs ys : List ℕ) → scoped (stmt.Call f xs ys) ≡ scoped_at (Stmt-F.Call f xs ys)
scopes-Call f xs ys = ap scoped (sym (stmt.rolls-Call f xs ys)) ∙ fold-roll-Stmt Action Block Block scoped_at alternative_scoped_at case_scoped_at (Stmt-F.Call f xs ys)

scopes-Builtin : (k : ℕ) (xs ys : List ℕ) → scoped (stmt.Builtin k xs ys) ≡ scoped_at (Stmt-F.Builtin k xs ys)
scopes-Builtin k xs ys = ap scoped (sym (stmt.rolls-Builtin k xs ys)) ∙ fold-roll-Stmt Action Block Block scoped_at alternative_scoped_at case_scoped_at (Stmt-F.Builtin k xs ys)

scopes-Equal : (x y : ℕ) → scoped (stmt.Equal x y) ≡ scoped_at (Stmt-F.Equal x y)
scopes-Equal x y = ap scoped (sym (stmt.rolls-Equal x y)) ∙ fold-roll-Stmt Action Block Block scoped_at alternative_scoped_at case_scoped_at (Stmt-F.Equal x y)

scopes-Not : (b : List Stmt) → scoped (stmt.Not b) ≡ scoped_at (Stmt-F.Not (map scoped b))
scopes-Not b = ap scoped (sym (stmt.rolls-Not b)) ∙ fold-roll-Stmt Action Block Block scoped_at alternative_scoped_at case_scoped_at (Stmt-F.Not b)

scopes-Give : (xs : List ℕ) → scoped (stmt.Give xs) ≡ scoped_at (Stmt-F.Give xs)
scopes-Give xs = ap scoped (sym (stmt.rolls-Give xs)) ∙ fold-roll-Stmt Action Block Block scoped_at alternative_scoped_at case_scoped_at (Stmt-F.Give xs)

-- statements before what follows them
abbrev before : List Stmt → Checked → Checked → Checked
before [] given next = next
before (x ∷ xs) given next = scoped x given (before xs given next)

before-block : (xs ys : List Stmt) (given : Checked) → in_turn (map scoped (xs ++ ys)) given ≡ before xs given (in_turn (map scoped ys) given)
before-block [] ys given = refl
before-block (x ∷ xs) ys given = ap (λ (n : Checked). scoped x given n) (before-block xs ys given)

before-both : (xs ys : List Stmt) (given next : Checked) → before (xs ++ ys) given next ≡ before xs given (before ys given next)
before-both [] ys given next = refl
before-both (x ∷ xs) ys given next = ap (λ (n : Checked). scoped x given n) (before-both xs ys given next)

give-passes : (xs : List ℕ) (t : InScope) → knows_all t.vars xs ≡ true → in_turn (map scoped (stmt.Give xs ∷ [])) at_end t ≡ true
give-passes xs t h = scopes (stmt.Give xs) (Stmt-F.Give xs) at_end (in_turn [] at_end) t (scopes-Give xs) (joined (knows_all t.vars xs) true h refl)

-- the variables that statements in a row set and receive
fresh-split : (xs ys : List Stmt) (more : List ℕ) → fresh_in (xs ++ ys) ++ more ≡ fresh_in xs ++ (fresh_in ys ++ more)
fresh-split xs ys more = ap (λ (zs : List ℕ). zs ++ more) (fresh_append xs ys) ∙ append_assoc (fresh_in xs) (fresh_in ys) more

fresh-first : (x : Stmt) (ys : List ℕ) (rest : List Stmt) (more : List ℕ) → fresh x ≡ ys → fresh_in (x ∷ rest) ++ more ≡ ys ++ (fresh_in rest ++ more)
fresh-first x ys rest more e = ap (λ (zs : List ℕ). (zs ++ fresh_in rest) ++ more) e ∙ append_assoc ys (fresh_in rest) more

-- ---- what a premise uses and binds

used-if : (t : Bool) (zs last : List ℕ) → (if t then Some zs else None) ≡ Some last → (t ≡ true) × (zs ≡ last)
used-if true zs last e = (refl, same_Some zs last e)
used-if false zs last e = absurd (cc)

used-then : (xs ys done last : List ℕ) → use_then_bind xs ys done ≡ Some last → (can_use xs done ≡ true) × (done ++ ys ≡ last)
used-then xs ys done last e = used-if (can_use xs done) (done ++ ys) last e

negated-if : (o : Option (List ℕ)) (done last : List ℕ) → option_map (λ inside. done) o ≡ Some last → (inside : List ℕ) × (o ≡ Some inside) × (done ≡ last)
negated-if None done last e = absurd (cc)
negated-if (Some inside) done last e = (inside, refl, same_Some done last e)

passed-if : (o : Option (List ℕ)) (f : search.Part) (last : List ℕ) → option_and_then f o ≡ Some last → (middle : List ℕ) × (o ≡ Some middle) × (f middle ≡ Some last)
passed-if None f last e = absurd (cc)
passed-if (Some middle) f last e = (middle, refl, e)

module _ (f : Called) (es : List RExp) (ps : List RPat) where
  after-Call : after_goal (goal.Call f es ps) ≡ use_then_bind (callee_uses f ++ all_use es) (all_bind ps)
  after-Call = ap after_goal (sym (goal.rolls-Call f es ps)) ∙ fold-roll-RGoal search.Part bound_at (RGoal-F.Call f es ps)

  binds-Call : goal_binds (goal.Call f es ps) ≡ all_bind ps
  binds-Call = ap goal_binds (sym (goal.rolls-Call f es ps)) ∙ fold-roll-RGoal (List ℕ) goal_binds_at (RGoal-F.Call f es ps)

after-Equal : (a b : RExp) → after_goal (goal.Equal a b) ≡ use_then_bind (uses a ++ uses b) []
after-Equal a b = ap after_goal (sym (goal.rolls-Equal a b)) ∙ fold-roll-RGoal search.Part bound_at (RGoal-F.Equal a b)

binds-Equal : (a b : RExp) → goal_binds (goal.Equal a b) ≡ []
binds-Equal a b = ap goal_binds (sym (goal.rolls-Equal a b)) ∙ fold-roll-RGoal (List ℕ) goal_binds_at (RGoal-F.Equal a b)

after-Let : (p : RPat) (e : RExp) → after_goal (goal.Let p e) ≡ use_then_bind (uses e) (search.binds p)
after-Let p e = ap after_goal (sym (goal.rolls-Let p e)) ∙ fold-roll-RGoal search.Part bound_at (RGoal-F.Let p e)

binds-Let : (p : RPat) (e : RExp) → goal_binds (goal.Let p e) ≡ search.binds p
binds-Let p e = ap goal_binds (sym (goal.rolls-Let p e)) ∙ fold-roll-RGoal (List ℕ) goal_binds_at (RGoal-F.Let p e)

after-Not : (g : RGoal) (done : List ℕ) → after_goal (goal.Not g) done ≡ option_map (λ inside. done) (after_goal g done)
after-Not g done = ap (λ (part : search.Part). part done) (ap after_goal (sym (goal.rolls-Not g)) ∙ fold-roll-RGoal search.Part bound_at (RGoal-F.Not g))

binds-Not : (g : RGoal) → goal_binds (goal.Not g) ≡ goal_binds g
binds-Not g = ap goal_binds (sym (goal.rolls-Not g)) ∙ fold-roll-RGoal (List ℕ) goal_binds_at (RGoal-F.Not g)

after-All : (gs : List RGoal) → after_goal (goal.All gs) ≡ after_goals gs
after-All gs = ap after_goal (sym (goal.rolls-All gs)) ∙ fold-roll-RGoal search.Part bound_at (RGoal-F.All gs)

binds-All : (gs : List RGoal) → goal_binds (goal.All gs) ≡ concat (map goal_binds gs)
binds-All gs = ap goal_binds (sym (goal.rolls-All gs)) ∙ fold-roll-RGoal (List ℕ) goal_binds_at (RGoal-F.All gs)

uses-Var : (x : ℕ) → uses (exp.Var x) ≡ x ∷ []
uses-Var x = ap uses (sym (exp.rolls-Var x)) ∙ fold-roll-RExp (List ℕ) uses_at (RExp-F.Var x)

knows-Val : (k : Known) (j : ℕ) → knows k (expression.Val j) ≡ true
knows-Val k j = ap (knows k) (sym (expression.rolls-Val j)) ∙ fold-roll-Expression Bool (knows_at k) (Expression-F.Val j)

split-use : (xs ys done : List ℕ) → can_use (xs ++ ys) done ≡ true → (can_use xs done ≡ true) × (can_use ys done ≡ true)
split-use xs ys done h =
    let two = both (can_use xs done) (can_use ys done) (sym (list_all-append (λ x. contains x done) xs ys) ∙ h) in
    (two.first, two.second)

-- ---- the walk

module _ (names : List (List ℕ)) (params vars : ℕ) where
  abbrev Stand : List ℕ → List ℕ → List ℕ → Known → Type 0
  Stand = Stands params vars

  -- what follows passes where it stands so, and where no less is known
  abbrev Then : List ℕ → List ℕ → List ℕ → Known → Checked → Type 0
  Then done coming more k next = (t : InScope) → Grows k t.vars → Stand done coming more t.vars → next t ≡ true

  done-as : (done last coming more : List ℕ) (k : Known) → done ≡ last → Stand done coming more k → Stand last coming more k
  done-as done last coming more k e h = subst (λ (ds : List ℕ). Stand ds coming more k) e h

  -- variables of the rule are bound
  bound-known : (xs done coming more : List ℕ) (next : Checked) (s : InScope) → Stand done (xs ++ coming) more s.vars → Then (done ++ xs) coming more s.vars next
      → binding (shifted names params xs) next s ≡ true
  bound-known [] done coming more next s h each = each s (grows-self s.vars) (done-as done (done ++ []) coming more s.vars (sym (append-nil done)) h)
  bound-known (x ∷ xs) done coming more next s h each =
      let k = with_var (params + x) s.vars in
      joined (not (s.vars (params + x))) (binding (shifted names params xs) next (record s { vars = k }))
      (not-false (s.vars (params + x)) (h.new x (in-first x (xs ++ coming))))
      (bound-known xs (done ++ x ∷ []) coming more next (record s { vars = k }) (stands-bound params vars x done (xs ++ coming) more s.vars h)
      (λ t g st. each t (grows-more s.vars k t.vars (grows-var (params + x) s.vars) g) (done-as ((done ++ x ∷ []) ++ xs) (done ++ (x ∷ xs)) coming more t.vars (append_assoc done (x ∷ []) xs) st)))

  -- variables are set or received
  new-known : (ys done coming more : List ℕ) (next : Checked) (s : InScope) → Stand done coming (ys ++ more) s.vars
      → ((t : InScope) → Grows s.vars t.vars → Stand done coming more t.vars → knows_all t.vars ys ≡ true → next t ≡ true) → binding ys next s ≡ true
  new-known [] done coming more next s h each = each s (grows-self s.vars) h refl
  new-known (y ∷ ys) done coming more next s h each =
      let k = with_var y s.vars in
      joined (not (s.vars y)) (binding ys next (record s { vars = k }))
      (not-false (s.vars y) h.awaited.1)
      (new-known ys done coming more next (record s { vars = k }) (stands-set params vars y done coming (ys ++ more) s.vars h)
      (λ t g st all. each t (grows-more s.vars k t.vars (grows-var y s.vars) g) st (joined (t.vars y) (knows_all t.vars ys) (g.at y (var-there y s.vars)) all)))

  module _ (given : Checked) where
    in-scoped : {e : RExp} {y : ℕ} {ss : List Stmt} → IsIn names params e y ss → (next : Checked) (done coming more : List ℕ) (s : InScope) → can_use (uses e) done ≡ true
        → Stand done coming (fresh_in ss ++ more) s.vars → ((t : InScope) → Grows s.vars t.vars → Stand done coming more t.vars → t.vars y ≡ true → next t ≡ true) → before ss given next s ≡ true
    in-scoped (IsIn.own x) next done coming more s may h each =
        let used : can_use (x ∷ []) done ≡ true = subst (λ (xs : List ℕ). can_use xs done ≡ true) (uses-Var x) may in
        each s (grows-self s.vars) h (h.known x (both (contains x done) true used).first)
    in-scoped (IsIn.set e y other) next done coming more s may h each =
        let made = expression_of names params e in
        let st = stands-as params vars done coming coming (fresh_in (stmt.Set y made ∷ []) ++ more) (y ∷ more) s.vars refl (fresh-first (stmt.Set y made) (y ∷ []) [] more (fresh-Set y made)) h in
        scopes (stmt.Set y made) (Stmt-F.Set y made) given next s (scopes-Set y made)
        (joined (knows s.vars made) (binding (y ∷ []) next s) (expression-known names params done s.vars h.known e may)
        (new-known (y ∷ []) done coming more next s st (λ t g st1 all. each t g st1 (both (t.vars y) true all).first)))

    ins-scoped : {es : List RExp} {ys : List ℕ} {ss : List Stmt} → AreIn names params es ys ss → (next : Checked) (done coming more : List ℕ) (s : InScope) → can_use (all_use es) done ≡ true
        → Stand done coming (fresh_in ss ++ more) s.vars → ((t : InScope) → Grows s.vars t.vars → Stand done coming more t.vars → knows_all t.vars ys ≡ true → next t ≡ true) → before ss given next s ≡ true
    ins-scoped AreIn.none next done coming more s may h each = each s (grows-self s.vars) h refl
    ins-scoped (AreIn.more e es y ys first rest i is) next done coming more s may h each =
        let two = split-use (uses e) (all_use es) done may in
        ap (λ (c : Checked). c s) (before-both first rest given next)
        ∙ in-scoped i (before rest given next) done coming (fresh_in rest ++ more) s two.0
        (stands-as params vars done coming coming (fresh_in (first ++ rest) ++ more) (fresh_in first ++ (fresh_in rest ++ more)) s.vars refl (fresh-split first rest more) h)
        (λ t g st there. ins-scoped is next done coming more t two.1 st
        (λ u g1 st1 all. each u (grows-more s.vars t.vars u.vars g g1) st1 (joined (u.vars y) (knows_all u.vars ys) (g1.at y there) all)))

    matched-scoped : {ps : List RPat} {ys : List ℕ} {ss : List Stmt} → AreMatched names params ps ys ss → (next : Checked) (done coming more : List ℕ) (s : InScope) → knows_all s.vars ys ≡ true
        → Stand done (all_bind ps ++ coming) more s.vars → Then (done ++ all_bind ps) coming more s.vars next → before ss given next s ≡ true
    matched-scoped AreMatched.none next done coming more s all h each = each s (grows-self s.vars) (done-as done (done ++ []) coming more s.vars (sym (append-nil done)) h)
    matched-scoped (AreMatched.more p ps y ys rest m) next done coming more s all h each =
        let two = both (s.vars y) (knows_all s.vars ys) all in
        let st = stands-as params vars done (search.binds p ++ (all_bind ps ++ coming)) (all_bind (p ∷ ps) ++ coming) more more s.vars (append_assoc (search.binds p) (all_bind ps) coming) refl h in
        scopes (stmt.Match y (pattern_of names params p)) (Stmt-F.Match y (pattern_of names params p)) given (before rest given next) s (scopes-Match y (pattern_of names params p))
        (joined (s.vars y) (binding (bound (pattern_of names params p)) (before rest given next) s) two.first
        (ap (λ (xs : List ℕ). binding xs (before rest given next) s) (binds-same names params p)
        ∙ bound-known (search.binds p) done (all_bind ps ++ coming) more (before rest given next) s st
        (λ t g st1. matched-scoped m next (done ++ search.binds p) coming more t (all-grow s.vars t.vars ys g two.second) st1
        (λ u g1 st2. each u (grows-more s.vars t.vars u.vars g g1)
        (done-as ((done ++ search.binds p) ++ all_bind ps) (done ++ all_bind (p ∷ ps)) coming more u.vars (append_assoc done (search.binds p) (all_bind ps)) st2)))))

    -- what is called receives its results, which are matched
    received-scoped : {ps : List RPat} {ys : List ℕ} {matches : List Stmt} (c : Stmt) → AreMatched names params ps ys matches → fresh c ≡ ys → (next : Checked) (done coming more : List ℕ) (s : InScope)
        → ((on : Checked) → binding ys on s ≡ true → scoped c given on s ≡ true)
        → Stand done (all_bind ps ++ coming) (fresh_in (c ∷ matches) ++ more) s.vars → Then (done ++ all_bind ps) coming more s.vars next → before (c ∷ matches) given next s ≡ true
    received-scoped {ps} {ys} {matches} c outs sets next done coming more s passes h each =
        let rest = fresh-first c ys matches more sets ∙ ap (λ (zs : List ℕ). ys ++ (zs ++ more)) (fresh_matches outs) in
        passes (before matches given next)
        (new-known ys done (all_bind ps ++ coming) more (before matches given next) s
        (stands-as params vars done (all_bind ps ++ coming) (all_bind ps ++ coming) (fresh_in (c ∷ matches) ++ more) (ys ++ more) s.vars refl rest h)
        (λ t g st there. matched-scoped outs next done coming more t there st (λ u g1 st1. each u (grows-more s.vars t.vars u.vars g g1) st1)))

    called-scoped : {es : List RExp} {ps : List RPat} {xs ys : List ℕ} {sets matches : List Stmt} (c : Stmt) → AreIn names params es xs sets → AreMatched names params ps ys matches → fresh c ≡ ys
        → (next : Checked) (done coming more : List ℕ) (s : InScope)
        → ((on : Checked) (t : InScope) → Grows s.vars t.vars → knows_all t.vars xs ≡ true → binding ys on t ≡ true → scoped c given on t ≡ true) → can_use (all_use es) done ≡ true
        → Stand done (all_bind ps ++ coming) (fresh_in (sets ++ c ∷ matches) ++ more) s.vars → Then (done ++ all_bind ps) coming more s.vars next → before (sets ++ c ∷ matches) given next s ≡ true
    called-scoped {es} {ps} {xs} {ys} {sets} {matches} c ins outs new next done coming more s passes may h each =
        ap (λ (k : Checked). k s) (before-both sets (c ∷ matches) given next)
        ∙ ins-scoped ins (before (c ∷ matches) given next) done (all_bind ps ++ coming) (fresh_in (c ∷ matches) ++ more) s may
        (stands-as params vars done (all_bind ps ++ coming) (all_bind ps ++ coming) (fresh_in (sets ++ c ∷ matches) ++ more) (fresh_in sets ++ (fresh_in (c ∷ matches) ++ more)) s.vars refl (fresh-split sets (c ∷ matches) more) h)
        (λ t g st all. received-scoped c outs new next done coming more t (λ on b. passes on t g all b) st (λ u g1 st1. each u (grows-more s.vars t.vars u.vars g g1) st1))

  mutual
    premise-scoped : {g : RGoal} {ss : List Stmt} → IsPremise names params g ss → (given next : Checked) (done last coming more : List ℕ) (s : InScope) → after_goal g done ≡ Some last
        → Stand done (goal_binds g ++ coming) (fresh_in ss ++ more) s.vars → Then last coming more s.vars next → before ss given next s ≡ true
    premise-scoped (IsPremise.relation r es ps xs ys sets matches ins outs) given next done last coming more s after h each =
        let used = used-then (all_use es) (all_bind ps) done last (ap (λ (part : search.Part). part done) (sym (after-Call (called.Rel r) es ps)) ∙ after) in
        let call = stmt.Call (callee.Rel r) xs ys in
        called-scoped given call ins outs (fresh-Call (callee.Rel r) xs ys) next done coming more s
        (λ on t g all b. scopes call (Stmt-F.Call (callee.Rel r) xs ys) given on t (scopes-Call (callee.Rel r) xs ys) (joined (knows_callee t.vars (callee.Rel r) && knows_all t.vars xs) (binding ys on t) all b))
        used.0 (stands-as params vars done (all_bind ps ++ coming) (goal_binds (goal.Call (called.Rel r) es ps) ++ coming) _ _ s.vars (ap (λ (zs : List ℕ). zs ++ coming) (binds-Call (called.Rel r) es ps)) refl h)
        (λ t g st. each t g (done-as (done ++ all_bind ps) last coming more t.vars used.1 st))
    premise-scoped (IsPremise.variable x es ps xs ys sets matches ins outs) given next done last coming more s after h each =
        let used = used-then (x ∷ all_use es) (all_bind ps) done last (ap (λ (part : search.Part). part done) (sym (after-Call (called.Var x) es ps)) ∙ after) in
        let two = both (contains x done) (can_use (all_use es) done) used.0 in
        let call = stmt.Call (callee.Var (params + x)) xs ys in
        called-scoped given call ins outs (fresh-Call (callee.Var (params + x)) xs ys) next done coming more s
        (λ on t g all b. scopes call (Stmt-F.Call (callee.Var (params + x)) xs ys) given on t (scopes-Call (callee.Var (params + x)) xs ys)
        (joined (t.vars (params + x) && knows_all t.vars xs) (binding ys on t) (joined (t.vars (params + x)) (knows_all t.vars xs) (g.at (params + x) (h.known x two.first)) all) b))
        two.second (stands-as params vars done (all_bind ps ++ coming) (goal_binds (goal.Call (called.Var x) es ps) ++ coming) _ _ s.vars (ap (λ (zs : List ℕ). zs ++ coming) (binds-Call (called.Var x) es ps)) refl h)
        (λ t g st. each t g (done-as (done ++ all_bind ps) last coming more t.vars used.1 st))
    premise-scoped (IsPremise.val k y es ps xs ys sets matches ins outs) given next done last coming more s after h each =
        let used = used-then (all_use es) (all_bind ps) done last (ap (λ (part : search.Part). part done) (sym (after-Call (called.Val k) es ps)) ∙ after) in
        let set = stmt.Set y (expression.Val k) in
        let call = stmt.Call (callee.Var y) xs ys in
        let rest = set ∷ call ∷ matches in
        let behind = all_bind ps ++ coming in
        ap (λ (c : Checked). c s) (before-both sets rest given next)
        ∙ ins-scoped given ins (before rest given next) done behind (fresh_in rest ++ more) s used.0
        (stands-as params vars done behind (goal_binds (goal.Call (called.Val k) es ps) ++ coming) (fresh_in (sets ++ rest) ++ more) (fresh_in sets ++ (fresh_in rest ++ more)) s.vars
        (ap (λ (zs : List ℕ). zs ++ coming) (binds-Call (called.Val k) es ps)) (fresh-split sets rest more) h)
        (λ t g st all.
        scopes set (Stmt-F.Set y (expression.Val k)) given (before (call ∷ matches) given next) t (scopes-Set y (expression.Val k))
        (joined (knows t.vars (expression.Val k)) (binding (y ∷ []) (before (call ∷ matches) given next) t) (knows-Val t.vars k)
        (new-known (y ∷ []) done behind (fresh_in (call ∷ matches) ++ more) (before (call ∷ matches) given next) t
        (stands-as params vars done behind behind (fresh_in rest ++ more) (y ∷ (fresh_in (call ∷ matches) ++ more)) t.vars refl (fresh-first set (y ∷ []) (call ∷ matches) more (fresh-Set y (expression.Val k))) st)
        (λ u g1 st1 there.
        received-scoped given call outs (fresh-Call (callee.Var y) xs ys) next done coming more u
        (λ on b. scopes call (Stmt-F.Call (callee.Var y) xs ys) given on u (scopes-Call (callee.Var y) xs ys)
        (joined (u.vars y && knows_all u.vars xs) (binding ys on u) (joined (u.vars y) (knows_all u.vars xs) (both (u.vars y) true there).first (all-grow t.vars u.vars xs g1 all)) b))
        st1 (λ v g2 st2. each v (grows-more s.vars t.vars v.vars g (grows-more t.vars u.vars v.vars g1 g2)) (done-as (done ++ all_bind ps) last coming more v.vars used.1 st2))))))
    premise-scoped (IsPremise.built_in k es ps xs ys sets matches ins outs) given next done last coming more s after h each =
        let used = used-then (all_use es) (all_bind ps) done last (ap (λ (part : search.Part). part done) (sym (after-Call (called.Built k) es ps)) ∙ after) in
        let call = stmt.Builtin k xs ys in
        called-scoped given call ins outs (fresh-Builtin k xs ys) next done coming more s
        (λ on t g all b. scopes call (Stmt-F.Builtin k xs ys) given on t (scopes-Builtin k xs ys) (joined (knows_all t.vars xs) (binding ys on t) all b))
        used.0 (stands-as params vars done (all_bind ps ++ coming) (goal_binds (goal.Call (called.Built k) es ps) ++ coming) _ _ s.vars (ap (λ (zs : List ℕ). zs ++ coming) (binds-Call (called.Built k) es ps)) refl h)
        (λ t g st. each t g (done-as (done ++ all_bind ps) last coming more t.vars used.1 st))
    premise-scoped (IsPremise.equality a b x y first second i j) given next done last coming more s after h each =
        let used = used-then (uses a ++ uses b) [] done last (ap (λ (part : search.Part). part done) (sym (after-Equal a b)) ∙ after) in
        let two = split-use (uses a) (uses b) done used.0 in
        let equal = stmt.Equal x y in
        let split = fresh-split (first ++ second) (equal ∷ []) more ∙ fresh-split first second (fresh_in (equal ∷ []) ++ more) in
        ap (λ (c : Checked). c s) (before-both (first ++ second) (equal ∷ []) given next ∙ before-both first second given (before (equal ∷ []) given next))
        ∙ in-scoped given i (before second given (before (equal ∷ []) given next)) done coming (fresh_in second ++ (fresh_in (equal ∷ []) ++ more)) s two.0
        (stands-as params vars done coming (goal_binds (goal.Equal a b) ++ coming) _ _ s.vars (ap (λ (zs : List ℕ). zs ++ coming) (binds-Equal a b)) split h)
        (λ t g st there. in-scoped given j (before (equal ∷ []) given next) done coming (fresh_in (equal ∷ []) ++ more) t two.1 st
        (λ u g1 st1 here.
        scopes equal (Stmt-F.Equal x y) given next u (scopes-Equal x y)
        (joined (u.vars x && u.vars y) (next u) (joined (u.vars x) (u.vars y) (g1.at x there) here)
        (each u (grows-more s.vars t.vars u.vars g g1)
        (done-as done last coming more u.vars (sym (append-nil done) ∙ used.1)
        (stands-as params vars done coming coming (fresh_in (equal ∷ []) ++ more) more u.vars refl (fresh-first equal [] [] more (fresh-Equal x y)) st1))))))
    premise-scoped (IsPremise.binding p e y first i) given next done last coming more s after h each =
        let used = used-then (uses e) (search.binds p) done last (ap (λ (part : search.Part). part done) (sym (after-Let p e)) ∙ after) in
        let matched = stmt.Match y (pattern_of names params p) in
        let behind = search.binds p ++ coming in
        ap (λ (c : Checked). c s) (before-both first (matched ∷ []) given next)
        ∙ in-scoped given i (before (matched ∷ []) given next) done behind (fresh_in (matched ∷ []) ++ more) s used.0
        (stands-as params vars done behind (goal_binds (goal.Let p e) ++ coming) (fresh_in (first ++ matched ∷ []) ++ more) (fresh_in first ++ (fresh_in (matched ∷ []) ++ more)) s.vars
        (ap (λ (zs : List ℕ). zs ++ coming) (binds-Let p e)) (fresh-split first (matched ∷ []) more) h)
        (λ t g st there.
        scopes matched (Stmt-F.Match y (pattern_of names params p)) given next t (scopes-Match y (pattern_of names params p))
        (joined (t.vars y) (binding (bound (pattern_of names params p)) next t) there
        (ap (λ (xs : List ℕ). binding xs next t) (binds-same names params p)
        ∙ bound-known (search.binds p) done coming more next t
        (stands-as params vars done behind behind (fresh_in (matched ∷ []) ++ more) more t.vars refl (fresh-first matched [] [] more (fresh-Match y (pattern_of names params p))) st)
        (λ u g1 st1. each u (grows-more s.vars t.vars u.vars g g1) (done-as (done ++ search.binds p) last coming more u.vars used.1 st1)))))
    premise-scoped (IsPremise.negation g block i) given next done last coming more s after h each =
        let inside = block ++ stmt.Give [] ∷ [] in
        let negated = negated-if (after_goal g done) done last (sym (after-Not g done) ∙ after) in
        let set = fresh-first (stmt.Not inside) (fresh_in block) [] more (fresh-Not inside ∙ fresh-before-give block []) in
        let st = stands-as params vars done (goal_binds g ++ coming) (goal_binds (goal.Not g) ++ coming) (fresh_in (stmt.Not inside ∷ []) ++ more) (fresh_in block ++ more) s.vars
        (ap (λ (zs : List ℕ). zs ++ coming) (binds-Not g)) set h in
        scopes (stmt.Not inside) (Stmt-F.Not (map scoped inside)) given next s (scopes-Not inside)
        (joined (in_turn (map scoped inside) at_end (without_bodies s)) (next s)
        (ap (λ (c : Checked). c (without_bodies s)) (before-block block (stmt.Give [] ∷ []) at_end)
        ∙ premise-scoped i at_end (in_turn (map scoped (stmt.Give [] ∷ [])) at_end) done negated.0 coming more (without_bodies s) negated.1 st (λ t g1 st1. give-passes [] t refl))
        (each s (grows-self s.vars) (done-as done last coming more s.vars negated.2 (stands-back params vars done (goal_binds g) coming (fresh_in block) more s.vars st))))
    premise-scoped (IsPremise.brackets gs block is) given next done last coming more s after h each =
        premises-scoped is given next done last coming more s (ap (λ (part : search.Part). part done) (sym (after-All gs)) ∙ after)
        (stands-as params vars done (concat (map goal_binds gs) ++ coming) (goal_binds (goal.All gs) ++ coming) _ _ s.vars (ap (λ (zs : List ℕ). zs ++ coming) (binds-All gs)) refl h) each

    premises-scoped : {gs : List RGoal} {ss : List Stmt} → ArePremises names params gs ss → (given next : Checked) (done last coming more : List ℕ) (s : InScope) → after_goals gs done ≡ Some last
        → Stand done (concat (map goal_binds gs) ++ coming) (fresh_in ss ++ more) s.vars → Then last coming more s.vars next → before ss given next s ≡ true
    premises-scoped ArePremises.none given next done last coming more s after h each = each s (grows-self s.vars) (done-as done last coming more s.vars (same_Some done last after) h)
    premises-scoped (ArePremises.more g gs first rest i is) given next done last coming more s after h each =
        let passed = passed-if (after_goal g done) (after_goals gs) last after in
        let behind = concat (map goal_binds gs) ++ coming in
        ap (λ (c : Checked). c s) (before-both first rest given next)
        ∙ premise-scoped i given (before rest given next) done passed.0 behind (fresh_in rest ++ more) s passed.1
        (stands-as params vars done (goal_binds g ++ behind) (concat (map goal_binds (g ∷ gs)) ++ coming) (fresh_in (first ++ rest) ++ more) (fresh_in first ++ (fresh_in rest ++ more)) s.vars
        (append_assoc (goal_binds g) (concat (map goal_binds gs)) coming) (fresh-split first rest more) h)
        (λ t g1 st. premises-scoped is given next passed.0 last coming more t passed.2 st (λ u g2 st1. each u (grows-more s.vars t.vars u.vars g1 g2) st1))

-- ---- rules and relations

-- what is known of a rule: what it binds is below the number of its variables, none of it twice, and bound before it is used
pub record IsBinding (r : RRule) : Type 0 where
  pub below : Below r.vars (rule_binds r)
  pub apart : is_distinct (rule_binds r) ≡ true
  pub used : uses_bound r ≡ true

params-known : (params x n : ℕ) → x + n ≤ params → knows_all (λ y. nat_lt y params) (numbers_from x n) ≡ true
params-known params x zero le = refl
params-known params x (suc n) le = joined (nat_lt x params) (knows_all (λ y. nat_lt y params) (numbers_from (suc x) n)) (lt-ltb x params (omega arith)) (params-known params (suc x) n (omega arith))

has-some : (xs : List ℕ) (o : Option (List ℕ)) → has_all xs o ≡ true → (done : List ℕ) × (o ≡ Some done) × (can_use xs done ≡ true)
has-some xs None h = absurd (cc)
has-some xs (Some done) h = (done, refl, h)

module _ (names : List (List ℕ)) (params : ℕ) where
  rule-scoped : {r : RRule} {block : List Stmt} → IsRule names params r block → IsBinding r → AreFresh (params + r.vars) (fresh_in block) → in_turn (map scoped block) at_end (at_beginning params) ≡ true
  rule-scoped {r} {block} i known new =
      let before_give = (i.head ++ i.premises) ++ i.sets in
      let goals = concat (map goal_binds r.goals) in
      let give = in_turn (map scoped (stmt.Give i.results ∷ [])) at_end in
      let found = has-some (all_use r.results) (before_results r) known.used in
      let numbers : fresh_in block ≡ fresh_in i.premises ++ (fresh_in i.sets ++ []) =
      ap (λ (b : List Stmt). fresh_in b) i.is ∙ fresh-before-give before_give i.results ∙ fresh_append (i.head ++ i.premises) i.sets
      ∙ ap (λ (zs : List ℕ). zs ++ fresh_in i.sets) (fresh_append i.head i.premises ∙ ap (λ (zs : List ℕ). zs ++ fresh_in i.premises) (fresh_matches i.matched))
      ∙ ap (λ (zs : List ℕ). fresh_in i.premises ++ zs) (sym (append-nil (fresh_in i.sets))) in
      let start : Stands params r.vars [] (rule_binds r) (fresh_in block) (λ x. nat_lt x params) = record {
        first = λ x low. lt-ltb x params low;
        known = λ x there. absurd (cc);
        new = λ x there. grind (arith, nat_tests);
        below = known.below;
        apart = known.apart;
        awaited = awaited-first (params + r.vars) params (fresh_in block) (omega arith) new;
      } in
      let st = stands-as params r.vars [] (all_bind r.inputs ++ (goals ++ [])) (rule_binds r) (fresh_in block) (fresh_in i.premises ++ (fresh_in i.sets ++ [])) (λ x. nat_lt x params)
      (ap (λ (zs : List ℕ). all_bind r.inputs ++ zs) (sym (append-nil goals))) numbers start in
      ap (λ (b : List Stmt). in_turn (map scoped b) at_end (at_beginning params)) i.is
      ∙ ap (λ (c : Checked). c (at_beginning params))
      (before-block before_give (stmt.Give i.results ∷ []) at_end ∙ before-both (i.head ++ i.premises) i.sets at_end give ∙ before-both i.head i.premises at_end (before i.sets at_end give))
      ∙ matched-scoped names params r.vars at_end i.matched (before i.premises at_end (before i.sets at_end give)) [] (goals ++ []) (fresh_in i.premises ++ (fresh_in i.sets ++ [])) (at_beginning params)
      (params-known params 0 params (omega arith)) st
      (λ t g st1. premises-scoped names params r.vars i.searched at_end (before i.sets at_end give) (all_bind r.inputs) found.0 [] (fresh_in i.sets ++ []) t found.1 st1
      (λ u g1 st2. ins-scoped names params r.vars at_end i.given give found.0 [] [] u found.2 st2 (λ v g2 st3 all. give-passes i.results v all)))

  abbrev alternative_scoped : Alternative → Block
  alternative_scoped = fold-Alternative Action Block Block scoped_at alternative_scoped_at case_scoped_at

  rules-scoped : {rules : List RRule} {alternatives : List Alternative} → AreRules names params rules alternatives → ((k : ℕ) (d : RRule) → k < length rules → IsBinding (slice_index_or rules k d))
      → EachFresh params rules alternatives → all_scoped (map alternative_scoped alternatives) at_end (at_beginning params) ≡ true
  rules-scoped AreRules.none known new = refl
  rules-scoped (AreRules.more r rs a rest i is) known new =
      joined (alternative_scoped a at_end (at_beginning params)) (all_scoped (map alternative_scoped rest) at_end (at_beginning params))
      (ap (λ (b : Block). b at_end (at_beginning params))
      (ap alternative_scoped (sym (roll-out-Alternative a)) ∙ fold-roll-Alternative Action Block Block scoped_at alternative_scoped_at case_scoped_at (out-Alternative a))
      ∙ rule-scoped i (known 0 r (omega arith)) new.0)
      (rules-scoped is (λ k d less. known (suc k) d (omega arith)) new.1)

  -- a body in plain form uses only what was bound before
  pub body-scoped : {rules : List RRule} {alternatives : List Alternative} {body : List Stmt} → AreRules names params rules alternatives → body ≡ stmt.Or alternatives ∷ []
      → ((k : ℕ) (d : RRule) → k < length rules → IsBinding (slice_index_or rules k d)) → EachFresh params rules alternatives → in_turn (map scoped body) at_end (at_beginning params) ≡ true
  body-scoped {rules} {alternatives} each is known new =
      ap (λ (b : List Stmt). in_turn (map scoped b) at_end (at_beginning params)) is
      ∙ scopes (stmt.Or alternatives) (Stmt-F.Or (map alternative_scoped alternatives)) at_end (in_turn [] at_end) (at_beginning params)
      (ap scoped (sym (stmt.rolls-Or alternatives)) ∙ fold-roll-Stmt Action Block Block scoped_at alternative_scoped_at case_scoped_at (Stmt-F.Or alternatives))
      (rules-scoped each known new)
