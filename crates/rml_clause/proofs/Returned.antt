-- What the calls of the pass for single goals return, said of the goal that they are for.
use Rattle.std.proofs.Common.{◌≡◌, ℕ, ◌+◌, ◌<◌, ◌≤◌, List, [], ◌∷◌, ◌++◌, length, get_or, take, Result, Ok, Err, refl, sym, ap, subst, ◌∙◌, arith}
use Rattle.std.specs.Prelude.{OnOk, map, sum, sum_by}
use Rattle.std.proofs.lemmas.List.{take_more}
use Rattle.std.proofs.lemmas.List.Sums.{sum_by-cons, sum_by_push}
use Rattle.rml_resolved.specs.declared.trees.RPat.{RPat}
use Rattle.rml_resolved.specs.declared.trees.RExp.{RExp}
use Rattle.rml_resolved.specs.declared.trees.Callee.{Callee}
use Rattle.rml_resolved.specs.declared.trees.Callee.TheVariants as called
use Rattle.rml_resolved.specs.declared.trees.RGoal.{RGoal, fold-roll-RGoal}
use Rattle.rml_resolved.specs.declared.trees.RGoal.TheOpen.{RGoal-F}
use Rattle.rml_resolved.specs.declared.trees.RGoal.TheVariants as goal
use Rattle.rml_resolved.specs.declared.trees.RGoal.TheVariants.{rolls-Call, rolls-Not, rolls-All}
use Rattle.rml_resolved.specs.Size.{pattern_size, exp_size, goal_size, goal_size_at}
use Rattle.rml_fol.specs.declared.terms.Expression.TheVariants as expression
use Rattle.rml_fol.specs.declared.statements.Stmt.TheVariants as stmt
use Rattle.rml_fol.specs.declared.statements.Callee.TheVariants as callee
use Rattle.rml_clause.specs.declared.pass.making.Making.{Making}
use Rattle.rml_clause.specs.Plain.{AreIn, IsPremise, ArePremises}
use Rattle.rml_clause.specs.Added.{Adds, Receives, Negates}
use Rattle.rml_clause.proofs.Adding.{adds-both, adds-more, premises-last}
use Rattle.rml_clause.proofs.Rows.{patterns-count}
use Rattle.rml_clause.proofs.MadePremises.{relation-premise, variable-premise, built-in-premise, val-premise}

on-ok : {T E P Q : Type 0} (r : Result T E) → (P → Q) → OnOk r P → OnOk r Q
on-ok (Ok x) f h = f h
on-ok (Err e) f h = h

pub goal_size-Call : (f : Callee) (es : List RExp) (ps : List RPat) → goal_size (goal.Call f es ps) ≡ 1 + sum_by exp_size es + sum_by pattern_size ps
goal_size-Call f es ps = ap goal_size (sym (rolls-Call f es ps)) ∙ fold-roll-RGoal ℕ goal_size_at (RGoal-F.Call f es ps)

total : (gs : List RGoal) → 1 + sum (map goal_size gs) ≡ 1 + sum_by goal_size gs
total [] = refl
total (g ∷ gs) =
    let r = total gs in
    let e = sum_by-cons (λ (n : ℕ). n) (goal_size g) (map goal_size gs) in
    let f = sum_by-cons goal_size g gs in
    omega (arith, r, e, f)

module _ (names : List (List ℕ)) (params : ℕ) where
  module _ (es : List RExp) (ps : List RPat) (xs : List ℕ) (a b : Making) (sets : Adds a b (sum_by exp_size es) (AreIn names params es xs)) where
    pub relation-returns : {T E : Type 0} (r : Result T E) (c : Making) (f : Callee) (n : ℕ) → f ≡ called.Rel n
        → OnOk r (Adds b c (length ps) (Receives names params (λ ys. stmt.Call (callee.Rel n) xs ys) ps)) → OnOk r (Adds a c (sum_by exp_size es + 1 + length ps) (IsPremise names params (goal.Call f es ps)))
    relation-returns r c f n is h =
        on-ok r
        (λ g. subst (λ k. Adds a c (sum_by exp_size es + 1 + length ps) (IsPremise names params (goal.Call k es ps))) (sym is) (relation-premise names params es ps xs a b c sets n g)) h

    pub variable-returns : {T E : Type 0} (r : Result T E) (c : Making) (f : Callee) (x : ℕ) → f ≡ called.Var x
        → OnOk r (Adds b c (length ps) (Receives names params (λ ys. stmt.Call (callee.Var (params + x)) xs ys) ps)) → OnOk r (Adds a c (sum_by exp_size es + 1 + length ps) (IsPremise names params (goal.Call f es ps)))
    variable-returns r c f x is h =
        on-ok r
        (λ g. subst (λ k. Adds a c (sum_by exp_size es + 1 + length ps) (IsPremise names params (goal.Call k es ps))) (sym is) (variable-premise names params es ps xs a b c sets x g)) h

    pub built-in-returns : {T E : Type 0} (r : Result T E) (c : Making) (f : Callee) (n : ℕ) → f ≡ called.Built n
        → OnOk r (Adds b c (length ps) (Receives names params (λ ys. stmt.Builtin n xs ys) ps)) → OnOk r (Adds a c (sum_by exp_size es + 1 + length ps) (IsPremise names params (goal.Call f es ps)))
    built-in-returns r c f n is h =
        on-ok r
        (λ g. subst (λ k. Adds a c (sum_by exp_size es + 1 + length ps) (IsPremise names params (goal.Call k es ps))) (sym is) (built-in-premise names params es ps xs a b c sets n g)) h

    pub val-returns : {T E : Type 0} (r : Result T E) (c : Making) (f : Callee) (k y : ℕ) (h : Making) → f ≡ called.Val k → y ≡ b.next → h.stmts ≡ b.stmts ++ stmt.Set y (expression.Val k) ∷ [] → h.next ≡ b.next + 1
        → OnOk r (Adds h c (length ps) (Receives names params (λ ys. stmt.Call (callee.Var y) xs ys) ps)) → OnOk r (Adds a c (sum_by exp_size es + 1 + length ps) (IsPremise names params (goal.Call f es ps)))
    val-returns r c f k y h is first added next made =
        on-ok r
        (λ g. subst (λ z. Adds a c (sum_by exp_size es + 1 + length ps) (IsPremise names params (goal.Call z es ps))) (sym is) (val-premise names params es ps xs a b c sets k y h first added next g)) made

  pub call-returns : {T E : Type 0} (r : Result T E) (a c : Making) (g : RGoal) (f : Callee) (es : List RExp) (ps : List RPat) → g ≡ goal.Call f es ps
      → OnOk r (Adds a c (sum_by exp_size es + 1 + length ps) (IsPremise names params (goal.Call f es ps))) → OnOk r (Adds a c (goal_size g) (IsPremise names params g))
  call-returns r a c g f es ps is h =
      let few : length ps ≤ sum_by pattern_size ps = patterns-count ps in
      let size : goal_size (goal.Call f es ps) ≡ 1 + sum_by exp_size es + sum_by pattern_size ps = goal_size-Call f es ps in
      on-ok r
      (λ k. subst (λ z. Adds a c (goal_size z) (IsPremise names params z)) (sym is) (adds-more a c (sum_by exp_size es + 1 + length ps) (goal_size (goal.Call f es ps)) (omega arith) (λ s p. p) k)) h

  pub not-returns : {T E : Type 0} (r : Result T E) (a c : Making) (g h : RGoal) → g ≡ goal.Not h
      → OnOk r (Adds a c (goal_size h) (Negates (IsPremise names params h))) → OnOk r (Adds a c (goal_size g) (IsPremise names params g))
  not-returns r a c g h is made =
      let size : goal_size (goal.Not h) ≡ 1 + goal_size h = ap goal_size (sym (rolls-Not h)) ∙ fold-roll-RGoal ℕ goal_size_at (RGoal-F.Not h) in
      on-ok r
      (λ k.
      subst (λ z. Adds a c (goal_size z) (IsPremise names params z)) (sym is)
      (adds-more a c (goal_size h) (goal_size (goal.Not h)) (omega arith) (λ s n. subst (λ u. IsPremise names params (goal.Not h) u) (sym n.is) (IsPremise.negation h n.block n.form)) k))
      made

  pub all-returns : {T E : Type 0} (r : Result T E) (a c : Making) (g : RGoal) (gs : List RGoal) → g ≡ goal.All gs
      → OnOk r (Adds a c (sum_by goal_size gs) (ArePremises names params gs)) → OnOk r (Adds a c (goal_size g) (IsPremise names params g))
  all-returns r a c g gs is h =
      let size : goal_size (goal.All gs) ≡ 1 + sum_by goal_size gs = ap goal_size (sym (rolls-All gs)) ∙ fold-roll-RGoal ℕ goal_size_at (RGoal-F.All gs) ∙ total gs in
      on-ok r
      (λ k. subst (λ z. Adds a c (goal_size z) (IsPremise names params z)) (sym is) (adds-more a c (sum_by goal_size gs) (goal_size (goal.All gs)) (omega arith) (λ s p. IsPremise.brackets gs s p) k)) h

  -- a turn of a loop over goals
  pub premised-more : (a b c : Making) (gs : List RGoal) (i : ℕ) (g d : RGoal) → i < length gs → g ≡ get_or gs i d
      → Adds a b (sum_by goal_size (take i gs)) (ArePremises names params (take i gs)) → Adds b c (goal_size g) (IsPremise names params g)
      → Adds a c (sum_by goal_size (take (i + 1) gs)) (ArePremises names params (take (i + 1) gs))
  premised-more a b c gs i g d h is f k =
      let t : take (i + 1) gs ≡ take i gs ++ g ∷ [] = take_more gs i d h ∙ ap (λ z. take i gs ++ z ∷ []) (sym is) in
      let all : sum_by goal_size (take i gs ++ g ∷ []) ≡ sum_by goal_size (take i gs) + goal_size g = sum_by_push goal_size (take i gs) g in
      subst (λ zs. Adds a c (sum_by goal_size zs) (ArePremises names params zs)) (sym t)
      (subst (λ (n : ℕ). Adds a c n (ArePremises names params (take i gs ++ g ∷ []))) (sym all)
      (adds-both a b c (sum_by goal_size (take i gs)) (goal_size g) f k (λ s u p q. premises-last names params (take i gs) s g u p q)))
