-- The plain form of rules is as large as the rules: two statements or patterns for each part of a rule at most, and two besides.
use Rattle.std.proofs.Common.{◌≡◌, ℕ, ◌+◌, ◌*◌, ◌≤◌, true, List, [], ◌∷◌, ◌++◌, map, refl, sym, ap, subst, ◌∙◌, arith}
use Rattle.std.specs.Prelude.{sum, sum_by}
use Rattle.std.specs.List.{list_all}
use Rattle.std.proofs.lemmas.List.Sums.{sum_by-append, sum_by-cons}
use Rattle.rml_resolved.specs.declared.tables.RRule.{RRule}
use Rattle.rml_resolved.specs.declared.trees.RPat.{RPat, map-RPat, roll-RPat, fold-roll-RPat, ind-RPat}
use Rattle.rml_resolved.specs.declared.trees.RPat.TheOpen.{RPat-F}
use Rattle.rml_resolved.specs.declared.trees.RExp.{RExp}
use Rattle.rml_resolved.specs.declared.trees.Callee.TheVariants as called
use Rattle.rml_resolved.specs.declared.trees.RGoal.{RGoal, fold-roll-RGoal}
use Rattle.rml_resolved.specs.declared.trees.RGoal.TheOpen.{RGoal-F}
use Rattle.rml_resolved.specs.declared.trees.RGoal.TheVariants as goal
use Rattle.rml_resolved.specs.Size as parts_of
use Rattle.rml_resolved.specs.Size.{pattern_size, exp_size, goal_size, goal_size_at, rule_size, rule_is_small}
use Rattle.rml_resolved.specs.Binding.{binds_once}
use Rattle.rml_resolved.proofs.Callers.{both}
use Rattle.rml_fol.specs.declared.terms.Pattern.{Pattern, map-Pattern, roll-Pattern, fold-roll-Pattern}
use Rattle.rml_fol.specs.declared.terms.Pattern.TheOpen.{Pattern-F}
use Rattle.rml_fol.specs.declared.terms.Pattern.TheVariants as pattern
use Rattle.rml_fol.specs.declared.terms.Expression.{Expression}
use Rattle.rml_fol.specs.declared.terms.Expression.TheVariants as expression
use Rattle.rml_fol.specs.declared.statements.Callee.{Callee}
use Rattle.rml_fol.specs.declared.statements.Callee.TheVariants as callee
use Rattle.rml_fol.specs.declared.statements.Stmt.{Stmt, fold-roll-Stmt}
use Rattle.rml_fol.specs.declared.statements.Stmt.TheVariants as stmt
use Rattle.rml_fol.specs.declared.statements.Stmt.TheOpen.{Stmt-F}
use Rattle.rml_fol.specs.declared.statements.Alternative.{Alternative, out-Alternative, fold-roll-Alternative, roll-out-Alternative}
use Rattle.rml_fol.specs.Size.{pattern_nodes_at, pattern_nodes, size_at, alternative_size_at, case_size_at, size, alternative_size}
use Rattle.rml_clause.specs.Plain.{literal_of, pattern_at, pattern_of, expression_of, IsIn, AreIn, AreMatched, IsPremise, ArePremises, IsRule, AreRules}
use Rattle.rml_clause.specs.Clauses.{AreClauses, AreEnough}
use Rattle.rml_clause.proofs.Callers.{goal_size-Call, pattern-counts, expression-counts}
use Rattle.rml_clauses.proofs.Rows.{sum-cons, sum-mapped}
use Rattle.rml_clauses.proofs.Within.{vars-few}
use Rattle.rml_clauses.proofs.Ready.{small-rule}

-- ---- single statements

size-Match : (x : ℕ) (p : Pattern) → size (stmt.Match x p) ≡ 1 + pattern_nodes p
size-Match x p = ap size (sym (stmt.rolls-Match x p)) ∙ fold-roll-Stmt ℕ ℕ ℕ size_at alternative_size_at case_size_at (Stmt-F.Match x p)

size-Set : (x : ℕ) (e : Expression) → size (stmt.Set x e) ≡ 1
size-Set x e = ap size (sym (stmt.rolls-Set x e)) ∙ fold-roll-Stmt ℕ ℕ ℕ size_at alternative_size_at case_size_at (Stmt-F.Set x e)

size-Call : (f : Callee) (xs ys : List ℕ) → size (stmt.Call f xs ys) ≡ 1
size-Call f xs ys = ap size (sym (stmt.rolls-Call f xs ys)) ∙ fold-roll-Stmt ℕ ℕ ℕ size_at alternative_size_at case_size_at (Stmt-F.Call f xs ys)

size-Builtin : (k : ℕ) (xs ys : List ℕ) → size (stmt.Builtin k xs ys) ≡ 1
size-Builtin k xs ys = ap size (sym (stmt.rolls-Builtin k xs ys)) ∙ fold-roll-Stmt ℕ ℕ ℕ size_at alternative_size_at case_size_at (Stmt-F.Builtin k xs ys)

size-Equal : (x y : ℕ) → size (stmt.Equal x y) ≡ 1
size-Equal x y = ap size (sym (stmt.rolls-Equal x y)) ∙ fold-roll-Stmt ℕ ℕ ℕ size_at alternative_size_at case_size_at (Stmt-F.Equal x y)

size-Give : (xs : List ℕ) → size (stmt.Give xs) ≡ 1
size-Give xs = ap size (sym (stmt.rolls-Give xs)) ∙ fold-roll-Stmt ℕ ℕ ℕ size_at alternative_size_at case_size_at (Stmt-F.Give xs)

size-Not : (block : List Stmt) → size (stmt.Not block) ≡ 1 + sum (map size block)
size-Not block = ap size (sym (stmt.rolls-Not block)) ∙ fold-roll-Stmt ℕ ℕ ℕ size_at alternative_size_at case_size_at (Stmt-F.Not block)

size-Or : (alternatives : List Alternative) → size (stmt.Or alternatives) ≡ 1 + sum (map alternative_size alternatives)
size-Or alternatives = ap size (sym (stmt.rolls-Or alternatives)) ∙ fold-roll-Stmt ℕ ℕ ℕ size_at alternative_size_at case_size_at (Stmt-F.Or alternatives)

abbrev total : List Stmt → ℕ
total s = sum_by size s

first-size : (s : Stmt) (ss : List Stmt) → size s ≡ 1 → total (s ∷ ss) ≡ 1 + total ss
first-size s ss one = let e = sum_by-cons size s ss in omega (arith, e, one)

joined-size : (xs ys : List Stmt) → total (xs ++ ys) ≡ total xs + total ys
joined-size xs ys = sum_by-append size xs ys

-- ---- goals

module _ (names : List (List ℕ)) (params : ℕ) where
  abbrev formed : RPat → Pattern
  formed = pattern_of names params

  abbrev SameNodes : RPat → Type 0
  SameNodes p = pattern_nodes (formed p) ≡ pattern_size p

  nodes-rolled : (y : RPat-F RPat) (z : Pattern-F Pattern) → pattern_at names params (map-RPat RPat Pattern formed y) ≡ roll-Pattern z
      → pattern_nodes_at (map-Pattern Pattern ℕ pattern_nodes z) ≡ parts_of.pattern_at (map-RPat RPat ℕ pattern_size y) → SameNodes (roll-RPat y)
  nodes-rolled y z e h =
      ap pattern_nodes (fold-roll-RPat Pattern (pattern_at names params) y ∙ e) ∙ fold-roll-Pattern ℕ pattern_nodes_at z ∙ h ∙ sym (fold-roll-RPat ℕ parts_of.pattern_at y)

  abbrev pats : List ((x : RPat) × SameNodes x) → List RPat
  pats ps = map (λ e. e.0) ps

  parts-same : (ps : List ((x : RPat) × SameNodes x)) → map pattern_nodes (map formed (pats ps)) ≡ map pattern_size (pats ps)
  parts-same [] = refl
  parts-same (p ∷ ps) = ap (λ (k : ℕ). k ∷ map pattern_nodes (map formed (pats ps))) p.1 ∙ ap (λ (ks : List ℕ). pattern_size p.0 ∷ ks) (parts-same ps)

  sums-same : (ps : List ((x : RPat) × SameNodes x)) → 1 + sum (map pattern_nodes (map formed (pats ps))) ≡ 1 + sum (map pattern_size (pats ps))
  sums-same ps = ap (λ (ks : List ℕ). 1 + sum ks) (parts-same ps)

  nodes-layer : (y : RPat-F ((x : RPat) × SameNodes x)) → SameNodes (roll-RPat (map-RPat ((x : RPat) × SameNodes x) RPat (λ e. e.0) y))
  nodes-layer RPat-F.Any = nodes-rolled RPat-F.Any Pattern-F.Any (sym pattern.rolls-Any) refl
  nodes-layer (RPat-F.Lit l) = nodes-rolled (RPat-F.Lit l) (Pattern-F.Lit (literal_of names l)) (sym (pattern.rolls-Lit (literal_of names l))) refl
  nodes-layer (RPat-F.Var x) = nodes-rolled (RPat-F.Var x) (Pattern-F.Var (params + x)) (sym (pattern.rolls-Var (params + x))) refl
  nodes-layer (RPat-F.Con c ps) = nodes-rolled (RPat-F.Con c (pats ps)) (Pattern-F.Con c (map formed (pats ps))) (sym (pattern.rolls-Con c (map formed (pats ps)))) (sums-same ps)
  nodes-layer (RPat-F.Tuple ps) = nodes-rolled (RPat-F.Tuple (pats ps)) (Pattern-F.Tuple (map formed (pats ps))) (sym (pattern.rolls-Tuple (map formed (pats ps)))) (sums-same ps)
  nodes-layer (RPat-F.List ps) = nodes-rolled (RPat-F.List (pats ps)) (Pattern-F.List (map formed (pats ps))) (sym (pattern.rolls-List (map formed (pats ps)))) (sums-same ps)
  nodes-layer (RPat-F.Cons ps) = nodes-rolled (RPat-F.Cons (pats ps)) (Pattern-F.Cons (map formed (pats ps))) (sym (pattern.rolls-Cons (map formed (pats ps)))) (sums-same ps)
  nodes-layer (RPat-F.Bind x e) =
      nodes-rolled (RPat-F.Bind x e.0) (Pattern-F.Bind (params + x) (formed e.0)) (sym (pattern.rolls-Bind (params + x) (formed e.0))) (ap (λ (k : ℕ). 1 + k) e.1)

  -- as many patterns as there were
  nodes-same : (p : RPat) → SameNodes p
  nodes-same = ind-RPat SameNodes (λ x y is. subst (λ z. SameNodes (roll-RPat z)) is (nodes-layer y))

  in-size : {e : RExp} {y : ℕ} {s : List Stmt} → IsIn names params e y s → total s ≤ exp_size e
  in-size (IsIn.own x) = omega arith
  in-size (IsIn.set e y other) =
      let one = first-size (stmt.Set y (expression_of names params e)) [] (size-Set y (expression_of names params e)) in
      let some = expression-counts e in
      omega (arith, one, some)

  ins-size : {es : List RExp} {ys : List ℕ} {s : List Stmt} → AreIn names params es ys s → total s ≤ sum_by exp_size es
  ins-size AreIn.none = omega arith
  ins-size (AreIn.more e es y ys first rest i is) =
      let now = in-size i in
      let later = ins-size is in
      let both = joined-size first rest in
      let parts = sum_by-cons exp_size e es in
      omega (arith, now, later, both, parts)

  matched-size : {ps : List RPat} {ys : List ℕ} {s : List Stmt} → AreMatched names params ps ys s → total s ≤ 2 * sum_by pattern_size ps
  matched-size AreMatched.none = omega arith
  matched-size (AreMatched.more p ps y ys rest m) =
      let one = sum_by-cons size (stmt.Match y (pattern_of names params p)) rest in
      let this = size-Match y (pattern_of names params p) in
      let nodes = nodes-same p in
      let later = matched-size m in
      let some = pattern-counts p in
      let parts = sum_by-cons pattern_size p ps in
      omega (arith, one, this, nodes, later, some, parts)

  called-size : {es : List RExp} {ps : List RPat} {xs ys : List ℕ} {sets matches : List Stmt} (s : Stmt) → size s ≡ 1 → AreIn names params es xs sets → AreMatched names params ps ys matches
      → total (sets ++ s ∷ matches) ≤ 1 + sum_by exp_size es + 2 * sum_by pattern_size ps
  called-size {es} {ps} {xs} {ys} {sets} {matches} s one ins outs =
      let both = joined-size sets (s ∷ matches) in
      let next = first-size s matches one in
      let before = ins-size ins in
      let behind = matched-size outs in
      omega (arith, both, next, before, behind)

  mutual
    premise-size : {g : RGoal} {s : List Stmt} → IsPremise names params g s → total s ≤ 2 * goal_size g
    premise-size (IsPremise.relation r es ps xs ys sets matches ins outs) =
        let small = called-size (stmt.Call (callee.Rel r) xs ys) (size-Call (callee.Rel r) xs ys) ins outs in
        let parts = goal_size-Call (called.Rel r) es ps in
        omega (arith, small, parts)
    premise-size (IsPremise.variable x es ps xs ys sets matches ins outs) =
        let small = called-size (stmt.Call (callee.Var (params + x)) xs ys) (size-Call (callee.Var (params + x)) xs ys) ins outs in
        let parts = goal_size-Call (called.Var x) es ps in
        omega (arith, small, parts)
    premise-size (IsPremise.val k y es ps xs ys sets matches ins outs) =
        let call = stmt.Call (callee.Var y) xs ys in
        let set = stmt.Set y (expression.Val k) in
        let both = joined-size sets (set ∷ call ∷ matches) in
        let one = first-size set (call ∷ matches) (size-Set y (expression.Val k)) in
        let next = first-size call matches (size-Call (callee.Var y) xs ys) in
        let before = ins-size ins in
        let behind = matched-size outs in
        let parts = goal_size-Call (called.Val k) es ps in
        omega (arith, both, one, next, before, behind, parts)
    premise-size (IsPremise.built_in k es ps xs ys sets matches ins outs) =
        let small = called-size (stmt.Builtin k xs ys) (size-Builtin k xs ys) ins outs in
        let parts = goal_size-Call (called.Built k) es ps in
        omega (arith, small, parts)
    premise-size (IsPremise.equality a b x y first second i j) =
        let all = joined-size (first ++ second) (stmt.Equal x y ∷ []) in
        let both = joined-size first second in
        let one = first-size (stmt.Equal x y) [] (size-Equal x y) in
        let left = in-size i in
        let right = in-size j in
        let parts = ap goal_size (sym (goal.rolls-Equal a b)) ∙ fold-roll-RGoal ℕ goal_size_at (RGoal-F.Equal a b) in
        omega (arith, all, both, one, left, right, parts)
    premise-size (IsPremise.binding p e y first i) =
        let both = joined-size first (stmt.Match y (pattern_of names params p) ∷ []) in
        let one = sum_by-cons size (stmt.Match y (pattern_of names params p)) [] in
        let this = size-Match y (pattern_of names params p) in
        let nodes = nodes-same p in
        let some = pattern-counts p in
        let left = in-size i in
        let parts = ap goal_size (sym (goal.rolls-Let p e)) ∙ fold-roll-RGoal ℕ goal_size_at (RGoal-F.Let p e) in
        omega (arith, both, one, this, nodes, some, left, parts)
    premise-size (IsPremise.negation g block i) =
        let inside = block ++ stmt.Give [] ∷ [] in
        let whole = sum_by-cons size (stmt.Not inside) [] in
        let one = size-Not inside in
        let mapped = sum-mapped size inside in
        let both = joined-size block (stmt.Give [] ∷ []) in
        let last = first-size (stmt.Give []) [] (size-Give []) in
        let small = premise-size i in
        let parts = ap goal_size (sym (goal.rolls-Not g)) ∙ fold-roll-RGoal ℕ goal_size_at (RGoal-F.Not g) in
        omega (arith, whole, one, mapped, both, last, small, parts)
    premise-size (IsPremise.brackets gs block is) =
        let small = premises-size is in
        let mapped = sum-mapped goal_size gs in
        let parts = ap goal_size (sym (goal.rolls-All gs)) ∙ fold-roll-RGoal ℕ goal_size_at (RGoal-F.All gs) in
        omega (arith, small, mapped, parts)

    premises-size : {gs : List RGoal} {s : List Stmt} → ArePremises names params gs s → total s ≤ 2 * sum_by goal_size gs
    premises-size ArePremises.none = omega arith
    premises-size (ArePremises.more g gs first rest i is) =
        let now = premise-size i in
        let later = premises-size is in
        let both = joined-size first rest in
        let parts = sum_by-cons goal_size g gs in
        omega (arith, now, later, both, parts)

  -- ---- rules

  rule-total : {r : RRule} {block : List Stmt} → IsRule names params r block → total block ≤ 1 + 2 * rule_size r
  rule-total i =
      let same = ap total i.is in
      let all = joined-size ((i.head ++ i.premises) ++ i.sets) (stmt.Give i.results ∷ []) in
      let three = joined-size (i.head ++ i.premises) i.sets in
      let two = joined-size i.head i.premises in
      let one = first-size (stmt.Give i.results) [] (size-Give i.results) in
      let heads = matched-size i.matched in
      let goals = premises-size i.searched in
      let sets = ins-size i.given in
      omega (arith, same, all, three, two, one, heads, goals, sets)

  alternatives-size : {rules : List RRule} {alternatives : List Alternative} → AreRules names params rules alternatives → list_all rule_is_small rules ≡ true
      → sum (map alternative_size alternatives) ≤ 18 * sum_by (λ (r : RRule). r.tokens) rules
  alternatives-size AreRules.none h = omega arith
  alternatives-size (AreRules.more r rs a rest i is) h =
      let two = both (rule_is_small r) (list_all rule_is_small rs) h in
      let small = small-rule r two.first in
      let block = (out-Alternative a).block in
      let one = ap alternative_size (sym (roll-out-Alternative a)) ∙ fold-roll-Alternative ℕ ℕ ℕ size_at alternative_size_at case_size_at (out-Alternative a) in
      let mapped = sum-mapped size block in
      let whole = rule-total i in
      let later = alternatives-size is two.second in
      let sizes = sum-cons (alternative_size a) (map alternative_size rest) in
      let tokens = sum_by-cons (λ (x : RRule). x.tokens) r rs in
      omega (arith, small.0, small.1, one, mapped, whole, later, sizes, tokens)

  pub body-size : {rules : List RRule} {body : List Stmt} {vars : ℕ} → AreClauses names params rules body vars → list_all rule_is_small rules ≡ true → sum_by size body ≤ 1 + 18 * sum_by (λ (r : RRule). r.tokens) rules
  body-size c h =
      let same = ap total c.is in
      let whole = sum_by-cons size (stmt.Or c.alternatives) [] in
      let one = size-Or c.alternatives in
      let parts = alternatives-size c.each h in
      omega (arith, same, whole, one, parts)

-- so many numbers are enough for the variables of rules of a relation with so many tokens
pub enough : (params tokens : ℕ) (rules : List RRule) → params ≤ 8 * tokens → sum_by (λ (r : RRule). r.tokens) rules ≤ tokens → list_all rule_is_small rules ≡ true → list_all binds_once rules ≡ true
    → AreEnough params (64 * tokens) rules
enough params tokens [] few part small once = tt
enough params tokens (r ∷ rules) few part small once =
    let smalls = both (rule_is_small r) (list_all rule_is_small rules) small in
    let onces = both (binds_once r) (list_all binds_once rules) once in
    let size = small-rule r smalls.first in
    let vars = vars-few r onces.first in
    let sum = sum_by-cons (λ (x : RRule). x.tokens) r rules in
    (omega (arith, few, part, size.0, vars, sum), enough params tokens rules few (omega (arith, part, sum)) smalls.second onces.second)
