-- What each step of the pass adds to a block.
use Rattle.std.proofs.Common.{◌≡◌, ℕ, ◌+◌, List, [], ◌∷◌, ◌++◌, length, get_or, take, ◌<◌, refl, sym, ap, subst, ◌∙◌, append-nil, append_assoc, arith}
use Rattle.std.proofs.lemmas.List.{take_more}
use Rattle.std.proofs.lemmas.List.Sums.{sum_by_push}
use Rattle.std.specs.Prelude.{sum_by}
use Rattle.rml_resolved.specs.declared.trees.RPat.{RPat}
use Rattle.rml_resolved.specs.declared.trees.RExp.{RExp, out-RExp, roll-RExp}
use Rattle.rml_resolved.specs.declared.trees.RExp.TheOpen.{RExp-F}
use Rattle.rml_resolved.specs.declared.trees.RExp.TheVariants as exp
use Rattle.rml_resolved.specs.declared.trees.RExp.TheVariants.{rolls-Var}
use Rattle.rml_resolved.specs.declared.trees.RGoal.TheVariants as goal
use Rattle.rml_resolved.specs.declared.trees.Callee.TheVariants as called
use Rattle.rml_resolved.specs.Size.{exp_size}
use Rattle.rml_fol.specs.declared.terms.Expression.{Expression}
use Rattle.rml_fol.specs.declared.terms.Expression.TheVariants as expression
use Rattle.rml_fol.specs.declared.terms.Pattern.{Pattern}
use Rattle.rml_fol.specs.declared.statements.Stmt.{Stmt, fold-roll-Stmt}
use Rattle.rml_fol.specs.declared.statements.Stmt.TheVariants as stmt
use Rattle.rml_fol.specs.declared.statements.Stmt.TheVariants.{rolls-Match, rolls-Set, rolls-Call, rolls-Builtin, rolls-Equal, rolls-Not}
use Rattle.rml_fol.specs.declared.statements.Stmt.TheOpen.{Stmt-F}
use Rattle.rml_fol.specs.declared.statements.Callee.{Callee}
use Rattle.rml_fol.specs.declared.statements.Callee.TheVariants as callee
use Rattle.rml_clause.specs.declared.pass.making.Making.{Making}
use Rattle.rml_clause.specs.Fresh.{fresh, fresh_in, fresh_at, alternative_fresh_at, case_fresh_at}
use Rattle.rml_clause.specs.Plain.{numbers_from, pattern_of, IsIn, AreIn, AreMatched, IsPremise, IsNoVariableAt, expression_of}
use Rattle.rml_clause.specs.Added.{Adds, Receives, Negates}
use Rattle.rml_clause.proofs.Adding.{adds-both, adds-more, adds-one, adds-nothing, numbers-both, in-last, matched-last}
use Rattle.rml_clause.proofs.Blocks.{fresh-before-give}
use Rattle.rml_clause.proofs.Rows.{expression-made, expression-counts}

-- ---- the variables of single statements

fresh-Match : (x : ℕ) (p : Pattern) → fresh (stmt.Match x p) ≡ []
fresh-Match x p = ap fresh (sym (rolls-Match x p)) ∙ fold-roll-Stmt (List ℕ) (List ℕ) (List ℕ) fresh_at alternative_fresh_at case_fresh_at (Stmt-F.Match x p)

fresh-Set : (x : ℕ) (e : Expression) → fresh (stmt.Set x e) ≡ x ∷ []
fresh-Set x e = ap fresh (sym (rolls-Set x e)) ∙ fold-roll-Stmt (List ℕ) (List ℕ) (List ℕ) fresh_at alternative_fresh_at case_fresh_at (Stmt-F.Set x e)

fresh-Call : (f : Callee) (xs ys : List ℕ) → fresh (stmt.Call f xs ys) ≡ ys
fresh-Call f xs ys = ap fresh (sym (rolls-Call f xs ys)) ∙ fold-roll-Stmt (List ℕ) (List ℕ) (List ℕ) fresh_at alternative_fresh_at case_fresh_at (Stmt-F.Call f xs ys)

fresh-Builtin : (k : ℕ) (xs ys : List ℕ) → fresh (stmt.Builtin k xs ys) ≡ ys
fresh-Builtin k xs ys = ap fresh (sym (rolls-Builtin k xs ys)) ∙ fold-roll-Stmt (List ℕ) (List ℕ) (List ℕ) fresh_at alternative_fresh_at case_fresh_at (Stmt-F.Builtin k xs ys)

fresh-Equal : (x y : ℕ) → fresh (stmt.Equal x y) ≡ []
fresh-Equal x y = ap fresh (sym (rolls-Equal x y)) ∙ fold-roll-Stmt (List ℕ) (List ℕ) (List ℕ) fresh_at alternative_fresh_at case_fresh_at (Stmt-F.Equal x y)

fresh-Not : (b : List Stmt) → fresh (stmt.Not b) ≡ fresh_in b
fresh-Not b = ap fresh (sym (rolls-Not b)) ∙ fold-roll-Stmt (List ℕ) (List ℕ) (List ℕ) fresh_at alternative_fresh_at case_fresh_at (Stmt-F.Not b)

-- the sets of expressions, and one of a val
record Held (names : List (List ℕ)) (params : ℕ) (es : List RExp) (xs : List ℕ) (k y : ℕ) (s : List Stmt) : Type 0 where
  before : List Stmt
  ins : AreIn names params es xs before
  is : s ≡ before ++ stmt.Set y (expression.Val k) ∷ []

-- the set of an expression, and a comparison
record Compares (names : List (List ℕ)) (params : ℕ) (f : RExp) (x y : ℕ) (s : List Stmt) : Type 0 where
  before : List Stmt
  second : IsIn names params f y before
  is : s ≡ before ++ stmt.Equal x y ∷ []

-- ---- statements that are added

-- a match binds nothing of its own
pub adds-match : {P : List Stmt → Type 0} (a b : Making) (x : ℕ) (p : Pattern) → b.stmts ≡ a.stmts ++ stmt.Match x p ∷ [] → b.next ≡ a.next → P (stmt.Match x p ∷ []) → Adds a b 0 P
adds-match a b x p added same h = adds-one a b (stmt.Match x p) 0 added (omega (arith, same)) (fresh-Match x p) h

-- the next variable is set
pub adds-set : {P : List Stmt → Type 0} (a b : Making) (y : ℕ) (e : Expression) → y ≡ a.next → b.stmts ≡ a.stmts ++ stmt.Set y e ∷ [] → b.next ≡ a.next + 1 → P (stmt.Set y e ∷ []) → Adds a b 1 P
adds-set a b y e is added next h = adds-one a b (stmt.Set y e) 1 added next (fresh-Set y e ∙ ap (λ x. x ∷ []) is) h

pub adds-equal : {P : List Stmt → Type 0} (a b : Making) (x y : ℕ) → b.stmts ≡ a.stmts ++ stmt.Equal x y ∷ [] → b.next ≡ a.next → P (stmt.Equal x y ∷ []) → Adds a b 0 P
adds-equal a b x y added same h = adds-one a b (stmt.Equal x y) 0 added (omega (arith, same)) (fresh-Equal x y) h

module _ (names : List (List ℕ)) (params : ℕ) where
  -- a call, or a built-in, whose results are received in the next variables, and the matches of these
  received : (calls : List ℕ → Stmt) → ((ys : List ℕ) → fresh (calls ys) ≡ ys) → (ps : List RPat) (a b c : Making) (n : ℕ) (ys : List ℕ) → n ≡ length ps → ys ≡ numbers_from a.next n
      → b.stmts ≡ a.stmts ++ calls ys ∷ [] → b.next ≡ a.next + n → Adds b c 0 (AreMatched names params ps (numbers_from a.next (length ps)))
      → Adds a c (length ps) (Receives names params calls ps)
  received calls binds ps a b c n ys counted are added next f =
      let one : Adds a b n (λ s. s ≡ calls ys ∷ []) = adds-one a b (calls ys) n added next (binds ys ∙ are) refl in
      adds-more a c (n + 0) (length ps) (omega (arith, counted)) (λ s h. h)
      (adds-both a b c n 0 one f
      (λ s t is m. record {
        ys = ys;
        matches = t;
        matched = subst (λ zs. AreMatched names params ps zs t) (ap (λ k. numbers_from a.next k) (sym counted) ∙ sym are) m;
        is = ap (λ z. z ++ t) is;
      }))

  pub calls-relation : (f : Callee) (xs : List ℕ) (ps : List RPat) (a b c : Making) (n : ℕ) (ys : List ℕ) → n ≡ length ps → ys ≡ numbers_from a.next n
      → b.stmts ≡ a.stmts ++ stmt.Call f xs ys ∷ [] → b.next ≡ a.next + n → Adds b c 0 (AreMatched names params ps (numbers_from a.next (length ps)))
      → Adds a c (length ps) (Receives names params (λ ys. stmt.Call f xs ys) ps)
  calls-relation f xs ps = received (λ ys. stmt.Call f xs ys) (λ ys. fresh-Call f xs ys) ps

  pub calls-built-in : (k : ℕ) (xs : List ℕ) (ps : List RPat) (a b c : Making) (n : ℕ) (ys : List ℕ) → n ≡ length ps → ys ≡ numbers_from a.next n
      → b.stmts ≡ a.stmts ++ stmt.Builtin k xs ys ∷ [] → b.next ≡ a.next + n → Adds b c 0 (AreMatched names params ps (numbers_from a.next (length ps)))
      → Adds a c (length ps) (Receives names params (λ ys. stmt.Builtin k xs ys) ps)
  calls-built-in k xs ps = received (λ ys. stmt.Builtin k xs ys) (λ ys. fresh-Builtin k xs ys) ps

  -- ---- premises

  module _ (es : List RExp) (ps : List RPat) (xs : List ℕ) (a b c : Making) (sets : Adds a b (sum_by exp_size es) (AreIn names params es xs)) where
    more : {P : List Stmt → Type 0} → Adds a c (sum_by exp_size es + length ps) P → Adds a c (sum_by exp_size es + 1 + length ps) P
    more f = adds-more a c (sum_by exp_size es + length ps) (sum_by exp_size es + 1 + length ps) (omega arith) (λ s h. h) f

    pub relation-premise : (r : ℕ) → Adds b c (length ps) (Receives names params (λ ys. stmt.Call (callee.Rel r) xs ys) ps)
        → Adds a c (sum_by exp_size es + 1 + length ps) (IsPremise names params (goal.Call (called.Rel r) es ps))
    relation-premise r f =
        more
        (adds-both a b c (sum_by exp_size es) (length ps) sets f
        (λ s t p q. subst (λ u. IsPremise names params (goal.Call (called.Rel r) es ps) (s ++ u)) (sym q.is) (IsPremise.relation r es ps xs q.ys s q.matches p q.matched)))

    pub variable-premise : (x : ℕ) → Adds b c (length ps) (Receives names params (λ ys. stmt.Call (callee.Var (params + x)) xs ys) ps)
        → Adds a c (sum_by exp_size es + 1 + length ps) (IsPremise names params (goal.Call (called.Var x) es ps))
    variable-premise x f =
        more
        (adds-both a b c (sum_by exp_size es) (length ps) sets f
        (λ s t p q. subst (λ u. IsPremise names params (goal.Call (called.Var x) es ps) (s ++ u)) (sym q.is) (IsPremise.variable x es ps xs q.ys s q.matches p q.matched)))

    pub built-in-premise : (k : ℕ) → Adds b c (length ps) (Receives names params (λ ys. stmt.Builtin k xs ys) ps)
        → Adds a c (sum_by exp_size es + 1 + length ps) (IsPremise names params (goal.Call (called.Built k) es ps))
    built-in-premise k f =
        more
        (adds-both a b c (sum_by exp_size es) (length ps) sets f
        (λ s t p q. subst (λ u. IsPremise names params (goal.Call (called.Built k) es ps) (s ++ u)) (sym q.is) (IsPremise.built_in k es ps xs q.ys s q.matches p q.matched)))

    -- a val that is called is set first
    pub val-premise : (k y : ℕ) (h : Making) → y ≡ b.next → h.stmts ≡ b.stmts ++ stmt.Set y (expression.Val k) ∷ [] → h.next ≡ b.next + 1
        → Adds h c (length ps) (Receives names params (λ ys. stmt.Call (callee.Var y) xs ys) ps)
        → Adds a c (sum_by exp_size es + 1 + length ps) (IsPremise names params (goal.Call (called.Val k) es ps))
    val-premise k y h is added next f =
        let one : Adds b h 1 (λ s. s ≡ stmt.Set y (expression.Val k) ∷ []) = adds-set b h y (expression.Val k) is added next refl in
        let two : Adds a h (sum_by exp_size es + 1) (Held names params es xs k y) = adds-both a b h (sum_by exp_size es) 1 sets one (λ s t p q. record { before = s; ins = p; is = ap (λ u. s ++ u) q }) in
        adds-both a h c (sum_by exp_size es + 1) (length ps) two f
        (λ s t p q.
        subst (λ u. IsPremise names params (goal.Call (called.Val k) es ps) u)
        (sym (ap (λ u. u ++ t) p.is ∙ append_assoc p.before (stmt.Set y (expression.Val k) ∷ []) t ∙ ap (λ u. p.before ++ stmt.Set y (expression.Val k) ∷ u) q.is))
        (IsPremise.val k y es ps xs q.ys p.before q.matches p.ins q.matched))

  pub equality-premise : (e f : RExp) (x y : ℕ) (a b c d : Making) → Adds a b (exp_size e) (IsIn names params e x) → Adds b c (exp_size f) (IsIn names params f y)
      → d.stmts ≡ c.stmts ++ stmt.Equal x y ∷ [] → d.next ≡ c.next → Adds a d (exp_size e + exp_size f) (IsPremise names params (goal.Equal e f))
  equality-premise e f x y a b c d i j added same =
      let one : Adds c d 0 (λ s. s ≡ stmt.Equal x y ∷ []) = adds-equal c d x y added same refl in
      let two : Adds b d (exp_size f + 0) (Compares names params f x y) = adds-both b c d (exp_size f) 0 j one (λ s t p q. record { before = s; second = p; is = ap (λ u. s ++ u) q }) in
      adds-more a d (exp_size e + (exp_size f + 0)) (exp_size e + exp_size f) (omega arith) (λ s h. h)
      (adds-both a b d (exp_size e) (exp_size f + 0) i two
      (λ s t p q.
      subst (λ u. IsPremise names params (goal.Equal e f) u) (sym (ap (λ u. s ++ u) q.is ∙ sym (append_assoc s q.before (stmt.Equal x y ∷ []))))
      (IsPremise.equality e f x y s q.before p q.second)))

  pub binding-premise : (p : RPat) (e : RExp) (y : ℕ) (a b c : Making) → Adds a b (exp_size e) (IsIn names params e y)
      → c.stmts ≡ b.stmts ++ stmt.Match y (pattern_of names params p) ∷ [] → c.next ≡ b.next → Adds a c (exp_size e) (IsPremise names params (goal.Let p e))
  binding-premise p e y a b c i added same =
      let one : Adds b c 0 (λ s. s ≡ stmt.Match y (pattern_of names params p) ∷ []) = adds-match b c y (pattern_of names params p) added same refl in
      adds-more a c (exp_size e + 0) (exp_size e) (omega arith) (λ s h. h)
      (adds-both a b c (exp_size e) 0 i one
      (λ s t q r. subst (λ u. IsPremise names params (goal.Let p e) (s ++ u)) (sym r) (IsPremise.binding p e y s q)))

-- a `not` whose block was made by itself
pub negates : {P : List Stmt → Type 0} (a start inside given b : Making) (m : ℕ) → start.stmts ≡ [] → start.next ≡ a.next → Adds start inside m P
    → given.stmts ≡ inside.stmts ++ stmt.Give [] ∷ [] → given.next ≡ inside.next → b.stmts ≡ a.stmts ++ stmt.Not given.stmts ∷ [] → b.next ≡ given.next
    → Adds a b m (Negates P)
negates a start inside given b m empty from f gives same added next =
    let made : inside.stmts ≡ f.stmts = f.are_added ∙ ap (λ z. z ++ f.stmts) empty in
    let block : given.stmts ≡ f.stmts ++ stmt.Give [] ∷ [] = gives ∙ ap (λ z. z ++ stmt.Give [] ∷ []) made in
    record {
      stmts = stmt.Not given.stmts ∷ [];
      count = f.count;
      form = record { block = f.stmts; form = f.form; is = ap (λ z. stmt.Not z ∷ []) block };
      are_added = added;
      next = omega (arith, next, same, f.next, from);
      few = f.few;
      in_order =
          append-nil (fresh (stmt.Not given.stmts)) ∙ fresh-Not given.stmts ∙ ap fresh_in block ∙ fresh-before-give f.stmts [] ∙ f.in_order
          ∙ ap (λ x. numbers_from x f.count) from;
    }

-- ---- where the value of an expression is

no-variable-at : (y : RExp-F RExp) → ((x : ℕ) → roll-RExp y ≡ exp.Var x → ⊥) → IsNoVariableAt y
no-variable-at (RExp-F.Lit l) h = tt
no-variable-at (RExp-F.Var x) h = h x (rolls-Var x)
no-variable-at (RExp-F.Val k) h = tt
no-variable-at (RExp-F.Rel r) h = tt
no-variable-at (RExp-F.Con c es) h = tt
no-variable-at (RExp-F.Tuple es) h = tt
no-variable-at (RExp-F.List es) h = tt
no-variable-at (RExp-F.Cons es) h = tt

no-variable : (e : RExp) → ((x : ℕ) → e ≡ exp.Var x → ⊥) → IsNoVariableAt (out-RExp e)
no-variable e h = no-variable-at (out-RExp e) (λ x is. h x (expression-made e ∙ is))

module _ (names : List (List ℕ)) (params : ℕ) where
  pub placed-own : (a : Making) (e : RExp) (x : ℕ) → e ≡ exp.Var x → Adds a a (exp_size e) (IsIn names params e (params + x))
  placed-own a e x is = adds-nothing a (exp_size e) (subst (λ f. IsIn names params f (params + x) []) (sym is) (IsIn.own x))

  pub placed-set : (a b : Making) (e : RExp) (y : ℕ) (v : Expression) → ((x : ℕ) → e ≡ exp.Var x → ⊥) → v ≡ expression_of names params e → y ≡ a.next
      → b.stmts ≡ a.stmts ++ stmt.Set y v ∷ [] → b.next ≡ a.next + 1 → Adds a b (exp_size e) (IsIn names params e y)
  placed-set a b e y v none is first added next =
      adds-more a b 1 (exp_size e) (expression-counts e) (λ s h. h)
      (adds-set a b y v first added next (subst (λ u. IsIn names params e y (stmt.Set y u ∷ [])) (sym is) (IsIn.set e y (no-variable e none))))

  -- a turn of a loop over expressions
  pub placed-more : (a b c : Making) (es : List RExp) (i : ℕ) (e d : RExp) (ys later : List ℕ) (y : ℕ) → i < length es → e ≡ get_or es i d
      → Adds a b (sum_by exp_size (take i es)) (AreIn names params (take i es) ys) → Adds b c (exp_size e) (IsIn names params e y) → later ≡ ys ++ y ∷ []
      → Adds a c (sum_by exp_size (take (i + 1) es)) (AreIn names params (take (i + 1) es) later)
  placed-more a b c es i e d ys later y h is f g next =
      let t : take (i + 1) es ≡ take i es ++ e ∷ [] = take_more es i d h ∙ ap (λ z. take i es ++ z ∷ []) (sym is) in
      let total : sum_by exp_size (take i es ++ e ∷ []) ≡ sum_by exp_size (take i es) + exp_size e = sum_by_push exp_size (take i es) e in
      subst (λ zs. Adds a c (sum_by exp_size zs) (AreIn names params zs later)) (sym t)
      (subst (λ vs. Adds a c (sum_by exp_size (take i es ++ e ∷ [])) (AreIn names params (take i es ++ e ∷ []) vs)) (sym next)
      (subst (λ (n : ℕ). Adds a c n (AreIn names params (take i es ++ e ∷ []) (ys ++ y ∷ []))) (sym total)
      (adds-both a b c (sum_by exp_size (take i es)) (exp_size e) f g (λ s u p q. in-last names params (take i es) ys s e y u p q))))

  -- and of one over patterns
  pub matched-more : (a b c : Making) (ps : List RPat) (i : ℕ) (p d : RPat) (x first : ℕ) (m : Pattern) → i < length ps → p ≡ get_or ps i d
      → Adds a b 0 (AreMatched names params (take i ps) (numbers_from first i)) → m ≡ pattern_of names params p → x ≡ first + i
      → c.stmts ≡ b.stmts ++ stmt.Match x m ∷ [] → c.next ≡ b.next → Adds a c 0 (AreMatched names params (take (i + 1) ps) (numbers_from first (i + 1)))
  matched-more a b c ps i p d x first m h is f made at added same =
      let t : take (i + 1) ps ≡ take i ps ++ p ∷ [] = take_more ps i d h ∙ ap (λ z. take i ps ++ z ∷ []) (sym is) in
      let n : numbers_from first (i + 1) ≡ numbers_from first i ++ x ∷ [] = numbers-both first i 1 ∙ ap (λ z. numbers_from first i ++ z ∷ []) (sym at) in
      let one : Adds b c 0 (λ s. s ≡ stmt.Match x (pattern_of names params p) ∷ []) =
      adds-match b c x (pattern_of names params p) (added ∙ ap (λ z. b.stmts ++ stmt.Match x z ∷ []) made) same refl in
      subst (λ qs. Adds a c 0 (AreMatched names params qs (numbers_from first (i + 1)))) (sym t)
      (subst (λ ys. Adds a c 0 (AreMatched names params (take i ps ++ p ∷ []) ys)) (sym n)
      (adds-both a b c 0 0 f one
      (λ s u q r.
      subst (λ v. AreMatched names params (take i ps ++ p ∷ []) (numbers_from first i ++ x ∷ []) (s ++ v)) (sym r)
      (matched-last names params (take i ps) (numbers_from first i) s p x q))))
