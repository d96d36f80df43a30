-- What is added to a block that is being made, one after another.
use Rattle.std.proofs.Common.{◌≡◌, ℕ, ◌<◌, zero, suc, ◌+◌, ◌≤◌, List, [], ◌∷◌, ◌++◌, refl, sym, ap, subst, ◌∙◌, append_assoc, append-nil, zero-add, add-zero, arith}
use Rattle.rml_resolved.specs.declared.trees.RPat.{RPat}
use Rattle.rml_resolved.specs.declared.trees.RExp.{RExp}
use Rattle.rml_resolved.specs.declared.trees.RGoal.{RGoal}
use Rattle.rml_fol.specs.declared.statements.Stmt.{Stmt}
use Rattle.rml_fol.specs.declared.statements.Stmt.TheVariants as stmt
use Rattle.rml_clause.specs.declared.pass.making.Making.{Making}
use Rattle.rml_clause.specs.Fresh.{fresh, fresh_in, IsNoneOf, AreFresh}
use Rattle.rml_clause.specs.Plain.{numbers_from, pattern_of, IsIn, AreIn, AreMatched, IsPremise, ArePremises}
use Rattle.rml_clause.specs.Added.{Adds}

-- ---- numbers and fresh variables of two parts

pub fresh-both : (xs ys : List Stmt) → fresh_in (xs ++ ys) ≡ fresh_in xs ++ fresh_in ys
fresh-both [] ys = refl
fresh-both (x ∷ xs) ys = ap (λ z. fresh x ++ z) (fresh-both xs ys) ∙ sym (append_assoc (fresh x) (fresh_in xs) (fresh_in ys))

pub numbers-both : (x m n : ℕ) → numbers_from x (m + n) ≡ numbers_from x m ++ numbers_from (x + m) n
numbers-both x zero n = ap (λ k. numbers_from x k) (zero-add n) ∙ ap (λ y. numbers_from y n) (sym (add-zero x))
numbers-both x (suc m) n =
    let more : suc m + n ≡ suc (m + n) = omega arith in
    let from : suc x + m ≡ x + suc m = omega arith in
    ap (λ k. numbers_from x k) more ∙ ap (λ z. x ∷ z) (numbers-both (suc x) m n) ∙ ap (λ y. x ∷ (numbers_from (suc x) m ++ numbers_from y n)) from

none-below : (x y count : ℕ) → x < y → IsNoneOf x (numbers_from y count)
none-below x y zero h = tt
none-below x y (suc count) h = (λ (e : x ≡ y). omega (arith, h, e), none-below x (suc y) count (omega arith))

-- numbers in a row are fresh: none stands twice
pub numbers-fresh : (low from count : ℕ) → low ≤ from → AreFresh low (numbers_from from count)
numbers-fresh low from zero h = tt
numbers-fresh low from (suc count) h = (h, none-below from (suc from) count (omega arith), numbers-fresh low (suc from) count (omega arith))

-- ---- two additions are one

pub adds-nothing : {P : List Stmt → Type 0} (a : Making) (m : ℕ) → P [] → Adds a a m P
adds-nothing a m p = record {
  stmts = [];
  count = 0;
  form = p;
  are_added = sym (append-nil a.stmts);
  next = omega arith;
  few = omega arith;
  in_order = refl;
}

pub adds-both : {P Q R : List Stmt → Type 0} (a b c : Making) (m n : ℕ) → Adds a b m P → Adds b c n Q → ((s t : List Stmt) → P s → Q t → R (s ++ t)) → Adds a c (m + n) R
adds-both a b c m n f g r = record {
  stmts = f.stmts ++ g.stmts;
  count = f.count + g.count;
  form = r f.stmts g.stmts f.form g.form;
  are_added = g.are_added ∙ ap (λ z. z ++ g.stmts) f.are_added ∙ append_assoc a.stmts f.stmts g.stmts;
  next = omega (arith, f.next, g.next);
  few = omega (arith, f.few, g.few);
  in_order =
      fresh-both f.stmts g.stmts ∙ ap (λ z. z ++ fresh_in g.stmts) f.in_order
      ∙ ap (λ z. numbers_from a.next f.count ++ z) (g.in_order ∙ ap (λ x. numbers_from x g.count) f.next) ∙ sym (numbers-both a.next f.count g.count);
}

pub adds-more : {P Q : List Stmt → Type 0} (a b : Making) (m n : ℕ) → m ≤ n → ((s : List Stmt) → P s → Q s) → Adds a b m P → Adds a b n Q
adds-more a b m n le q f = record {
  stmts = f.stmts;
  count = f.count;
  form = q f.stmts f.form;
  are_added = f.are_added;
  next = f.next;
  few = omega (arith, f.few, le);
  in_order = f.in_order;
}

-- one statement, which binds so many of the next variables
pub adds-one : {P : List Stmt → Type 0} (a b : Making) (s : Stmt) (k : ℕ) → b.stmts ≡ a.stmts ++ s ∷ [] → b.next ≡ a.next + k → fresh s ≡ numbers_from a.next k → P (s ∷ []) → Adds a b k P
adds-one a b s k added next in_order p = record {
  stmts = s ∷ [];
  count = k;
  form = p;
  are_added = added;
  next = next;
  few = omega arith;
  in_order = append-nil (fresh s) ∙ in_order;
}

-- ---- one more of a row

module _ (names : List (List ℕ)) (params : ℕ) where
  pub in-last : (es : List RExp) (ys : List ℕ) (s : List Stmt) (e : RExp) (y : ℕ) (t : List Stmt) → AreIn names params es ys s → IsIn names params e y t
      → AreIn names params (es ++ e ∷ []) (ys ++ y ∷ []) (s ++ t)
  in-last es ys s e y t AreIn.none i = subst (λ u. AreIn names params (e ∷ []) (y ∷ []) u) (append-nil t) (AreIn.more e [] y [] t [] i AreIn.none)
  in-last es ys s e y t (AreIn.more d ds x xs first rest i is) j =
      subst (λ u. AreIn names params (d ∷ (ds ++ e ∷ [])) (x ∷ (xs ++ y ∷ [])) u) (sym (append_assoc first rest t))
      (AreIn.more d (ds ++ e ∷ []) x (xs ++ y ∷ []) first (rest ++ t) i (in-last ds xs rest e y t is j))

  pub matched-last : (ps : List RPat) (ys : List ℕ) (s : List Stmt) (p : RPat) (y : ℕ) → AreMatched names params ps ys s
      → AreMatched names params (ps ++ p ∷ []) (ys ++ y ∷ []) (s ++ stmt.Match y (pattern_of names params p) ∷ [])
  matched-last ps ys s p y AreMatched.none = AreMatched.more p [] y [] [] AreMatched.none
  matched-last ps ys s p y (AreMatched.more q qs x xs rest m) = AreMatched.more q (qs ++ p ∷ []) x (xs ++ y ∷ []) (rest ++ stmt.Match y (pattern_of names params p) ∷ []) (matched-last qs xs rest p y m)

  pub premises-last : (gs : List RGoal) (s : List Stmt) (g : RGoal) (t : List Stmt) → ArePremises names params gs s → IsPremise names params g t → ArePremises names params (gs ++ g ∷ []) (s ++ t)
  premises-last gs s g t ArePremises.none i = subst (λ u. ArePremises names params (g ∷ []) u) (append-nil t) (ArePremises.more g [] t [] i ArePremises.none)
  premises-last gs s g t (ArePremises.more h hs first rest i is) j =
      subst (λ u. ArePremises names params (h ∷ (hs ++ g ∷ [])) u) (sym (append_assoc first rest t))
      (ArePremises.more h (hs ++ g ∷ []) first (rest ++ t) i (premises-last hs rest g t is j))
