-- The statements of rules in plain form fit in the tables in clause form.
use Rattle.std.proofs.Common.{◌≡◌, ℕ, ◌+◌, ◌≤◌, zero, suc, Bool, true, List, [], ◌∷◌, ◌++◌, map, length, refl, sym, ap, subst, ◌∙◌, arith}
use Rattle.std.specs.Prelude.{◌&&◌, nat_lt, slice_get}
use Rattle.std.specs.List.{list_all}
use Rattle.std.proofs.lemmas.Bool.{lt-ltb}
use Rattle.std.proofs.lemmas.List.Folds.{list_all-append, list_all-map}
use Rattle.rml_builtin.specs.declared.row.TheConstants.{ROWS}
use Rattle.rml_resolved.specs.declared.parts.Counts.{Counts}
use Rattle.rml_resolved.specs.declared.tables.ConDef.{ConDef}
use Rattle.rml_resolved.specs.declared.tables.RRule.{RRule}
use Rattle.rml_resolved.specs.declared.trees.RPat.{RPat}
use Rattle.rml_resolved.specs.declared.trees.RExp.{RExp, fold-roll-RExp}
use Rattle.rml_resolved.specs.declared.trees.RExp.TheOpen.{RExp-F}
use Rattle.rml_resolved.specs.declared.trees.RExp.TheVariants as exp
use Rattle.rml_resolved.specs.declared.trees.Callee.{Callee as Called}
use Rattle.rml_resolved.specs.declared.trees.Callee.TheVariants as called
use Rattle.rml_resolved.specs.declared.trees.RGoal.{RGoal, fold-roll-RGoal}
use Rattle.rml_resolved.specs.declared.trees.RGoal.TheOpen.{RGoal-F}
use Rattle.rml_resolved.specs.declared.trees.RGoal.TheVariants as goal
use Rattle.rml_resolved.specs.Fits as fits
use Rattle.rml_resolved.specs.Fits.{pattern_fits, patterns_fit, exp_fits, exps_fit, callee_fits, goal_fits, goals_fit, goal_fits_at, rule_fits}
use Rattle.rml_resolved.proofs.Callers.{both}
use Rattle.rml_fol.specs.declared.terms.Pattern.{Pattern}
use Rattle.rml_fol.specs.declared.terms.Expression.{Expression, fold-roll-Expression}
use Rattle.rml_fol.specs.declared.terms.Expression.TheOpen.{Expression-F}
use Rattle.rml_fol.specs.declared.terms.Expression.TheVariants as expression
use Rattle.rml_fol.specs.declared.statements.Callee.{Callee}
use Rattle.rml_fol.specs.declared.statements.Callee.TheVariants as callee
use Rattle.rml_fol.specs.declared.statements.Stmt.{Stmt, fold-roll-Stmt}
use Rattle.rml_fol.specs.declared.statements.Stmt.TheVariants as stmt
use Rattle.rml_fol.specs.declared.statements.Stmt.TheOpen.{Stmt-F}
use Rattle.rml_fol.specs.declared.statements.Alternative.{Alternative, out-Alternative, fold-Alternative, fold-roll-Alternative, roll-out-Alternative}
use Rattle.rml_fol.specs.Fits as made
use Rattle.rml_fol.specs.Fits.{Signature, Signatures, takes_and_gives, row_takes_and_gives, expression_fits_at, expression_fits, vars_fit, stmt_fits_at, alternative_fits_at, case_fits_at, stmt_fits}
use Rattle.rml_clause.specs.Fresh.{fresh, fresh_in}
use Rattle.rml_clause.specs.Plain.{numbers_from, pattern_of, expression_of, IsIn, AreIn, AreMatched, IsPremise, ArePremises, IsRule, AreRules}
use Rattle.rml_clause.specs.Clauses.{EachNumbered, AreClauses}
use Rattle.rml_clause.proofs.Callers.{EachOf, each-both, in-length, counts_matched, fresh_append, fresh-before-give, fresh-Set, fresh-Call, fresh-Builtin, fresh-Not, joined}
use Rattle.rml_clauses.specs.Agrees.{callee_agrees, goal_agrees_at, goal_agrees}
use Rattle.rml_clauses.proofs.Rows.{every}
use Rattle.rml_clauses.proofs.Terms.{Declares, var-fits, expression-fits, pattern-fits}

-- ---- variables

-- each is a number below this
abbrev Below : ℕ → List ℕ → Type 0
Below most xs = vars_fit most xs ≡ true

pub record Parts (most : ℕ) (xs ys : List ℕ) : Type 0 where
  pub first : Below most xs
  pub second : Below most ys

parts : (most : ℕ) (xs ys zs : List ℕ) → zs ≡ xs ++ ys → Below most zs → Parts most xs ys
parts most xs ys zs is h =
    let two = both (vars_fit most xs) (vars_fit most ys) (sym (list_all-append (λ (x : ℕ). nat_lt x most) xs ys) ∙ ap (vars_fit most) (sym is) ∙ h) in
    record { first = two.first; second = two.second }

pub numbers-below : (most from count : ℕ) → from + count ≤ most → Below most (numbers_from from count)
numbers-below most from zero h = refl
numbers-below most from (suc count) h = joined (nat_lt from most) (vars_fit most (numbers_from (suc from) count)) (lt-ltb from most (omega arith)) (numbers-below most (suc from) count (omega arith))

-- the parts of a block that begins with a statement
stmt-parts : (most : ℕ) (s : Stmt) (ss : List Stmt) (xs : List ℕ) → fresh s ≡ xs → Below most (fresh_in (s ∷ ss)) → Parts most xs (fresh_in ss)
stmt-parts most s ss xs is h = parts most xs (fresh_in ss) (fresh_in (s ∷ ss)) (ap (λ (zs : List ℕ). zs ++ fresh_in ss) is) h

both-parts : (most : ℕ) (xs ys : List Stmt) → Below most (fresh_in (xs ++ ys)) → Parts most (fresh_in xs) (fresh_in ys)
both-parts most xs ys h = parts most (fresh_in xs) (fresh_in ys) (fresh_in (xs ++ ys)) (fresh_append xs ys) h

-- ---- each statement

module _ (all : Signatures) (most : ℕ) where
  abbrev Fits : Stmt → Type 0
  Fits s = stmt_fits all most 0 s ≡ true

  match-fits : (x : ℕ) (p : Pattern) → nat_lt x most ≡ true → made.pattern_fits all most p ≡ true → Fits (stmt.Match x p)
  match-fits x p h k =
      ap (stmt_fits all most 0) (sym (stmt.rolls-Match x p)) ∙ fold-roll-Stmt Bool Bool Bool (stmt_fits_at all most 0) alternative_fits_at (case_fits_at all most) (Stmt-F.Match x p)
      ∙ joined (nat_lt x most) (made.pattern_fits all most p) h k

  set-fits : (x : ℕ) (e : Expression) → nat_lt x most ≡ true → expression_fits all most e ≡ true → Fits (stmt.Set x e)
  set-fits x e h k =
      ap (stmt_fits all most 0) (sym (stmt.rolls-Set x e)) ∙ fold-roll-Stmt Bool Bool Bool (stmt_fits_at all most 0) alternative_fits_at (case_fits_at all most) (Stmt-F.Set x e)
      ∙ joined (nat_lt x most) (expression_fits all most e) h k

  call-fits : (f : Callee) (xs ys : List ℕ) → made.callee_fits all most (length xs) (length ys) f ≡ true → Below most xs → Below most ys → Fits (stmt.Call f xs ys)
  call-fits f xs ys h v w =
      ap (stmt_fits all most 0) (sym (stmt.rolls-Call f xs ys)) ∙ fold-roll-Stmt Bool Bool Bool (stmt_fits_at all most 0) alternative_fits_at (case_fits_at all most) (Stmt-F.Call f xs ys)
      ∙ joined (made.callee_fits all most (length xs) (length ys) f && vars_fit most xs) (vars_fit most ys) (joined (made.callee_fits all most (length xs) (length ys) f) (vars_fit most xs) h v) w

  built-in-fits : (k : ℕ) (xs ys : List ℕ) → row_takes_and_gives (length xs) (length ys) (slice_get ROWS k) ≡ true → Below most xs → Below most ys → Fits (stmt.Builtin k xs ys)
  built-in-fits k xs ys h v w =
      ap (stmt_fits all most 0) (sym (stmt.rolls-Builtin k xs ys)) ∙ fold-roll-Stmt Bool Bool Bool (stmt_fits_at all most 0) alternative_fits_at (case_fits_at all most) (Stmt-F.Builtin k xs ys)
      ∙ joined (row_takes_and_gives (length xs) (length ys) (slice_get ROWS k) && vars_fit most xs) (vars_fit most ys)
      (joined (row_takes_and_gives (length xs) (length ys) (slice_get ROWS k)) (vars_fit most xs) h v) w

  equal-fits : (x y : ℕ) → nat_lt x most ≡ true → nat_lt y most ≡ true → Fits (stmt.Equal x y)
  equal-fits x y h k =
      ap (stmt_fits all most 0) (sym (stmt.rolls-Equal x y)) ∙ fold-roll-Stmt Bool Bool Bool (stmt_fits_at all most 0) alternative_fits_at (case_fits_at all most) (Stmt-F.Equal x y)
      ∙ joined (nat_lt x most) (nat_lt y most) h k

  give-fits : (xs : List ℕ) → Below most xs → Fits (stmt.Give xs)
  give-fits xs h =
      ap (stmt_fits all most 0) (sym (stmt.rolls-Give xs)) ∙ fold-roll-Stmt Bool Bool Bool (stmt_fits_at all most 0) alternative_fits_at (case_fits_at all most) (Stmt-F.Give xs) ∙ h

  all-fit : {ss : List Stmt} → EachOf Fits ss → every (map (stmt_fits all most 0) ss) ≡ true
  all-fit EachOf.none = refl
  all-fit (EachOf.more s ss f fs) = joined (stmt_fits all most 0 s) (every (map (stmt_fits all most 0) ss)) f (all-fit fs)

  not-fits : (block : List Stmt) → EachOf Fits block → Fits (stmt.Not block)
  not-fits block h =
      ap (stmt_fits all most 0) (sym (stmt.rolls-Not block)) ∙ fold-roll-Stmt Bool Bool Bool (stmt_fits_at all most 0) alternative_fits_at (case_fits_at all most) (Stmt-F.Not block) ∙ all-fit h

-- ---- goals

module _ (names : List (List ℕ)) (n : Counts) (cons : List ConDef) (all : Signatures) (same : Declares names n cons all) (params vars most : ℕ) (le : params + vars ≤ most) where
  abbrev Fit : Stmt → Type 0
  Fit = Fits all most

  one : (s : Stmt) → Fit s → EachOf Fit (s ∷ [])
  one s h = EachOf.more s [] h EachOf.none

  -- statements that fit, and a variable
  record Set (s : List Stmt) (y : ℕ) : Type 0 where
    fit : EachOf Fit s
    below : nat_lt y most ≡ true

  record Sets (s : List Stmt) (ys : List ℕ) : Type 0 where
    fit : EachOf Fit s
    below : Below most ys

  var-was : (x : ℕ) → exp_fits n cons vars (exp.Var x) ≡ nat_lt x vars
  var-was x = ap (exp_fits n cons vars) (sym (exp.rolls-Var x)) ∙ fold-roll-RExp Bool (fits.exp_at n cons vars) (RExp-F.Var x)

  in-fits : {e : RExp} {y : ℕ} {s : List Stmt} → IsIn names params e y s → exp_fits n cons vars e ≡ true → Below most (fresh_in s) → Set s y
  in-fits (IsIn.own x) h v = record { fit = EachOf.none; below = var-fits names n cons all same params vars most le x (sym (var-was x) ∙ h) }
  in-fits (IsIn.set e y other) h v =
      let two = stmt-parts most (stmt.Set y (expression_of names params e)) [] (y ∷ []) (fresh-Set y (expression_of names params e)) v in
      let below = (both (nat_lt y most) true two.first).first in
      record { fit = one (stmt.Set y (expression_of names params e)) (set-fits all most y (expression_of names params e) below (expression-fits names n cons all same params vars most le e h)); below = below }

  ins-fit : {es : List RExp} {ys : List ℕ} {s : List Stmt} → AreIn names params es ys s → exps_fit n cons vars es ≡ true → Below most (fresh_in s) → Sets s ys
  ins-fit AreIn.none h v = record { fit = EachOf.none; below = refl }
  ins-fit (AreIn.more e es y ys first rest i is) h v =
      let two = both (exp_fits n cons vars e) (exps_fit n cons vars es) h in
      let bound = both-parts most first rest v in
      let now = in-fits i two.first bound.first in
      let later = ins-fit is two.second bound.second in
      record { fit = each-both first rest now.fit later.fit; below = joined (nat_lt y most) (vars_fit most ys) now.below later.below }

  matched-fit : {ps : List RPat} {ys : List ℕ} {s : List Stmt} → AreMatched names params ps ys s → patterns_fit n cons vars ps ≡ true → Below most ys → EachOf Fit s
  matched-fit AreMatched.none h v = EachOf.none
  matched-fit (AreMatched.more p ps y ys rest m) h v =
      let two = both (pattern_fits n cons vars p) (patterns_fit n cons vars ps) h in
      let bound = both (nat_lt y most) (vars_fit most ys) v in
      EachOf.more (stmt.Match y (pattern_of names params p)) rest
      (match-fits all most y (pattern_of names params p) bound.first (pattern-fits names n cons all same params vars most le p two.first)) (matched-fit m two.second bound.second)

  -- what is known of a call
  record Call (f : Called) (es : List RExp) (ps : List RPat) : Type 0 where
    callee : callee_fits n vars f ≡ true
    exps : exps_fit n cons vars es ≡ true
    pats : patterns_fit n cons vars ps ≡ true
    agrees : callee_agrees all.rels (length es) (length ps) f ≡ true

  called-with : (f : Called) (es : List RExp) (ps : List RPat) → goal_fits n cons vars (goal.Call f es ps) ≡ true → goal_agrees all.rels (goal.Call f es ps) ≡ true → Call f es ps
  called-with f es ps h a =
      let fit = sym (ap (goal_fits n cons vars) (sym (goal.rolls-Call f es ps)) ∙ fold-roll-RGoal Bool (goal_fits_at n cons vars) (RGoal-F.Call f es ps)) ∙ h in
      let two = both (callee_fits n vars f && exps_fit n cons vars es) (patterns_fit n cons vars ps) fit in
      let both_of = both (callee_fits n vars f) (exps_fit n cons vars es) two.first in
      record {
        callee = both_of.first;
        exps = both_of.second;
        pats = two.second;
        agrees = sym (ap (goal_agrees all.rels) (sym (goal.rolls-Call f es ps)) ∙ fold-roll-RGoal Bool (goal_agrees_at all.rels) (RGoal-F.Call f es ps)) ∙ a;
      }

  -- the sets before a call, what it takes and gives, and the matches behind it
  record Around (sets : List Stmt) (s : Stmt) (matches : List Stmt) (xs ys : List ℕ) : Type 0 where
    before : EachOf Fit sets
    taken : Below most xs
    given : Below most ys
    behind : EachOf Fit matches

  around : {es : List RExp} {ps : List RPat} {xs ys : List ℕ} {sets matches : List Stmt} (s : Stmt) → fresh s ≡ ys → AreIn names params es xs sets → AreMatched names params ps ys matches
      → exps_fit n cons vars es ≡ true → patterns_fit n cons vars ps ≡ true → Below most (fresh_in (sets ++ s ∷ matches)) → Around sets s matches xs ys
  around {es} {ps} {xs} {ys} {sets} {matches} s is ins outs h k v =
      let two = both-parts most sets (s ∷ matches) v in
      let bound = stmt-parts most s matches ys is two.second in
      let before = ins-fit ins h two.first in
      record { before = before.fit; taken = before.below; given = bound.first; behind = matched-fit outs k bound.first }

  same-counts : {es : List RExp} {ps : List RPat} {xs ys : List ℕ} {sets matches : List Stmt} → AreIn names params es xs sets → AreMatched names params ps ys matches → (test : ℕ → ℕ → Bool)
      → test (length es) (length ps) ≡ true → test (length xs) (length ys) ≡ true
  same-counts {es} {ps} {xs} {ys} ins outs test h = ap (λ (k : ℕ). test k (length ys)) (in-length ins) ∙ ap (λ (k : ℕ). test (length es) k) (sym (counts_matched outs)) ∙ h

  call-around : {es : List RExp} {ps : List RPat} {xs ys : List ℕ} {sets matches : List Stmt} (f : Callee) → AreIn names params es xs sets → AreMatched names params ps ys matches
      → exps_fit n cons vars es ≡ true → patterns_fit n cons vars ps ≡ true → made.callee_fits all most (length xs) (length ys) f ≡ true
      → Below most (fresh_in (sets ++ stmt.Call f xs ys ∷ matches)) → EachOf Fit (sets ++ stmt.Call f xs ys ∷ matches)
  call-around {es} {ps} {xs} {ys} {sets} {matches} f ins outs h k fit v =
      let it = around (stmt.Call f xs ys) (fresh-Call f xs ys) ins outs h k v in
      each-both sets (stmt.Call f xs ys ∷ matches) it.before (EachOf.more (stmt.Call f xs ys) matches (call-fits all most f xs ys fit it.taken it.given) it.behind)

  mutual
    premise-fits : {g : RGoal} {s : List Stmt} → IsPremise names params g s → goal_fits n cons vars g ≡ true → goal_agrees all.rels g ≡ true → Below most (fresh_in s) → EachOf Fit s
    premise-fits (IsPremise.relation r es ps xs ys sets matches ins outs) h a v =
        let it = called-with (called.Rel r) es ps h a in
        call-around (callee.Rel r) ins outs it.exps it.pats (same-counts ins outs (λ (t g : ℕ). takes_and_gives t g (slice_get all.rels r)) it.agrees) v
    premise-fits (IsPremise.variable x es ps xs ys sets matches ins outs) h a v =
        let it = called-with (called.Var x) es ps h a in
        call-around (callee.Var (params + x)) ins outs it.exps it.pats (var-fits names n cons all same params vars most le x it.callee) v
    premise-fits (IsPremise.val k y es ps xs ys sets matches ins outs) h a v =
        let it = called-with (called.Val k) es ps h a in
        let call = stmt.Call (callee.Var y) xs ys in
        let set = stmt.Set y (expression.Val k) in
        let two = both-parts most sets (set ∷ call ∷ matches) v in
        let bound = stmt-parts most set (call ∷ matches) (y ∷ []) (fresh-Set y (expression.Val k)) two.second in
        let given = stmt-parts most call matches ys (fresh-Call (callee.Var y) xs ys) bound.second in
        let below = (both (nat_lt y most) true bound.first).first in
        let before = ins-fit ins it.exps two.first in
        let held : expression_fits all most (expression.Val k) ≡ true =
        ap (expression_fits all most) (sym (expression.rolls-Val k)) ∙ fold-roll-Expression Bool (expression_fits_at all most) (Expression-F.Val k) ∙ ap (λ (m : ℕ). nat_lt k m) same.same_vals ∙ it.callee in
        each-both sets (set ∷ call ∷ matches) before.fit
        (EachOf.more set (call ∷ matches) (set-fits all most y (expression.Val k) below held)
        (EachOf.more call matches (call-fits all most (callee.Var y) xs ys below before.below given.first) (matched-fit outs it.pats given.first)))
    premise-fits (IsPremise.built_in k es ps xs ys sets matches ins outs) h a v =
        let it = called-with (called.Built k) es ps h a in
        let about = around (stmt.Builtin k xs ys) (fresh-Builtin k xs ys) ins outs it.exps it.pats v in
        each-both sets (stmt.Builtin k xs ys ∷ matches) about.before
        (EachOf.more (stmt.Builtin k xs ys) matches
        (built-in-fits all most k xs ys (same-counts ins outs (λ (t g : ℕ). row_takes_and_gives t g (slice_get ROWS k)) it.agrees) about.taken about.given) about.behind)
    premise-fits (IsPremise.equality b c x y first second i j) h a v =
        let fit = sym (ap (goal_fits n cons vars) (sym (goal.rolls-Equal b c)) ∙ fold-roll-RGoal Bool (goal_fits_at n cons vars) (RGoal-F.Equal b c)) ∙ h in
        let two = both (exp_fits n cons vars b) (exp_fits n cons vars c) fit in
        let bound = both-parts most (first ++ second) (stmt.Equal x y ∷ []) v in
        let sets = both-parts most first second bound.first in
        let left = in-fits i two.first sets.first in
        let right = in-fits j two.second sets.second in
        each-both (first ++ second) (stmt.Equal x y ∷ []) (each-both first second left.fit right.fit) (one (stmt.Equal x y) (equal-fits all most x y left.below right.below))
    premise-fits (IsPremise.binding p e y first i) h a v =
        let fit = sym (ap (goal_fits n cons vars) (sym (goal.rolls-Let p e)) ∙ fold-roll-RGoal Bool (goal_fits_at n cons vars) (RGoal-F.Let p e)) ∙ h in
        let two = both (pattern_fits n cons vars p) (exp_fits n cons vars e) fit in
        let bound = both-parts most first (stmt.Match y (pattern_of names params p) ∷ []) v in
        let now = in-fits i two.second bound.first in
        each-both first (stmt.Match y (pattern_of names params p) ∷ []) now.fit
        (one (stmt.Match y (pattern_of names params p)) (match-fits all most y (pattern_of names params p) now.below (pattern-fits names n cons all same params vars most le p two.first)))
    premise-fits (IsPremise.negation g block i) h a v =
        let fit = sym (ap (goal_fits n cons vars) (sym (goal.rolls-Not g)) ∙ fold-roll-RGoal Bool (goal_fits_at n cons vars) (RGoal-F.Not g)) ∙ h in
        let agrees = sym (ap (goal_agrees all.rels) (sym (goal.rolls-Not g)) ∙ fold-roll-RGoal Bool (goal_agrees_at all.rels) (RGoal-F.Not g)) ∙ a in
        let inside = block ++ stmt.Give [] ∷ [] in
        let bound = stmt-parts most (stmt.Not inside) [] (fresh_in inside) (fresh-Not inside) v in
        let below = ap (vars_fit most) (sym (fresh-before-give block [])) ∙ bound.first in
        one (stmt.Not inside) (not-fits all most inside (each-both block (stmt.Give [] ∷ []) (premise-fits i fit agrees below) (one (stmt.Give []) (give-fits all most [] refl))))
    premise-fits (IsPremise.brackets gs block is) h a v =
        let fit = sym (ap (goal_fits n cons vars) (sym (goal.rolls-All gs)) ∙ fold-roll-RGoal Bool (goal_fits_at n cons vars) (RGoal-F.All gs)) ∙ h in
        let agrees = sym (ap (goal_agrees all.rels) (sym (goal.rolls-All gs)) ∙ fold-roll-RGoal Bool (goal_agrees_at all.rels) (RGoal-F.All gs)) ∙ a in
        premises-fit is fit agrees v

    premises-fit : {gs : List RGoal} {s : List Stmt} → ArePremises names params gs s → every (map (goal_fits n cons vars) gs) ≡ true → every (map (goal_agrees all.rels) gs) ≡ true → Below most (fresh_in s) → EachOf Fit s
    premises-fit ArePremises.none h a v = EachOf.none
    premises-fit (ArePremises.more g gs first rest i is) h a v =
        let fit = both (goal_fits n cons vars g) (every (map (goal_fits n cons vars) gs)) h in
        let agrees = both (goal_agrees all.rels g) (every (map (goal_agrees all.rels) gs)) a in
        let bound = both-parts most first rest v in
        each-both first rest (premise-fits i fit.first agrees.first bound.first) (premises-fit is fit.second agrees.second bound.second)

  rule-fits : {r : RRule} {block : List Stmt} → IsRule names params r block → patterns_fit n cons vars r.inputs ≡ true → goals_fit n cons vars r.goals ≡ true → exps_fit n cons vars r.results ≡ true
      → every (map (goal_agrees all.rels) r.goals) ≡ true → Below most (fresh_in block) → EachOf Fit block
  rule-fits i inputs goals results agrees v =
      let before = (i.head ++ i.premises) ++ i.sets in
      let give = stmt.Give i.results in
      let whole = ap (λ (b : List Stmt). vars_fit most (fresh_in b)) (sym i.is) ∙ v in
      let three = both-parts most before (give ∷ []) whole in
      let two = both-parts most (i.head ++ i.premises) i.sets three.first in
      let first = both-parts most i.head i.premises two.first in
      let heads = matched-fit i.matched inputs (numbers-below most 0 params (omega arith)) in
      let premises = premises-fit i.searched goals agrees first.second in
      let given = ins-fit i.given results two.second in
      subst (λ (b : List Stmt). EachOf Fit b) (sym i.is)
      (each-both before (give ∷ []) (each-both (i.head ++ i.premises) i.sets (each-both i.head i.premises heads premises) given.fit) (one give (give-fits all most i.results given.below)))

-- ---- relations

module _ (names : List (List ℕ)) (n : Counts) (cons : List ConDef) (all : Signatures) (same : Declares names n cons all) (params most : ℕ) where
  abbrev alternative-fit : Alternative → Bool
  alternative-fit = fold-Alternative Bool Bool Bool (stmt_fits_at all most 0) alternative_fits_at (case_fits_at all most)

  abbrev calls-agree : RRule → Bool
  calls-agree r = list_all (goal_agrees all.rels) r.goals

  alternatives-fit : {rules : List RRule} {alternatives : List Alternative} → AreRules names params rules alternatives → list_all (rule_fits n cons) rules ≡ true → list_all calls-agree rules ≡ true
      → EachNumbered params most rules alternatives → every (map alternative-fit alternatives) ≡ true
  alternatives-fit AreRules.none h a v = refl
  alternatives-fit (AreRules.more r rs x rest i is) h a v =
      let fit = both (rule_fits n cons r) (list_all (rule_fits n cons) rs) h in
      let agrees = both (calls-agree r) (list_all calls-agree rs) a in
      let two = both (patterns_fit n cons r.vars r.inputs && goals_fit n cons r.vars r.goals) (exps_fit n cons r.vars r.results) fit.first in
      let ones = both (patterns_fit n cons r.vars r.inputs) (goals_fit n cons r.vars r.goals) two.first in
      let numbered = v.0 in
      let le : params + r.vars ≤ most = omega (arith, numbered.below) in
      let below = ap (vars_fit most) numbered.in_order ∙ numbers-below most (params + r.vars) numbered.count numbered.below in
      let each = rule-fits names n cons all same params r.vars most le i ones.first ones.second two.second (list_all-map (λ (b : Bool). b) (goal_agrees all.rels) r.goals ∙ agrees.first) below in
      joined (alternative-fit x) (every (map alternative-fit rest))
      (ap alternative-fit (sym (roll-out-Alternative x)) ∙ fold-roll-Alternative Bool Bool Bool (stmt_fits_at all most 0) alternative_fits_at (case_fits_at all most) (out-Alternative x) ∙ all-fit all most each)
      (alternatives-fit is fit.second agrees.second v.1)

  pub body-fits : {rules : List RRule} {body : List Stmt} → AreClauses names params rules body most → list_all (rule_fits n cons) rules ≡ true → list_all calls-agree rules ≡ true
      → list_all (stmt_fits all most 0) body ≡ true
  body-fits c h a =
      ap (λ (b : List Stmt). list_all (stmt_fits all most 0) b) c.is
      ∙ joined (stmt_fits all most 0 (stmt.Or c.alternatives)) true
      (ap (stmt_fits all most 0) (sym (stmt.rolls-Or c.alternatives)) ∙ fold-roll-Stmt Bool Bool Bool (stmt_fits_at all most 0) alternative_fits_at (case_fits_at all most) (Stmt-F.Or c.alternatives)
      ∙ alternatives-fit c.each h a c.numbered)
      refl
