-- Walks over rows of patterns, expressions, goals and rules, and how large their parts are.
use Rattle.std.proofs.Common.{◌≡◌, ℕ, zero, suc, ◌+◌, ◌<◌, ◌≤◌, Bool, true, false, IsTrue, List, [], ◌∷◌, ◌++◌, map, length, get_or, take, Some, None, slice_get, refl, sym, ap, subst, ◌∙◌, arith}
use Rattle.std.proofs.lemmas.List.{map_more}
use Rattle.std.proofs.lemmas.List.Sums.{sum_by_more_le, sum_by-cons}
use Rattle.std.specs.Prelude.{◌&&◌, sum_by}
use Rattle.rml_resolved.specs.declared.trees.RPat.{RPat, out-RPat, roll-RPat, fold-roll-RPat, ind-RPat}
use Rattle.rml_resolved.specs.declared.trees.RPat.TheViews.{out-roll-RPat}
use Rattle.rml_resolved.specs.declared.trees.RPat.TheOpen.{RPat-F}
use Rattle.rml_resolved.specs.declared.trees.RExp.{RExp, out-RExp, roll-RExp, fold-roll-RExp, ind-RExp}
use Rattle.rml_resolved.specs.declared.trees.RExp.TheViews.{out-roll-RExp}
use Rattle.rml_resolved.specs.declared.trees.RExp.TheOpen.{RExp-F}
use Rattle.rml_resolved.specs.Size.{pattern_at, pattern_size, exp_at, exp_size}
use Rattle.rml_resolved.proofs.Callers.{both}
use Rattle.rml_clause.specs.Within.{every}

pub joined : (a b : Bool) → a ≡ true → b ≡ true → (a && b) ≡ true
joined true b f g = g
joined false b f g = absurd (cc)

-- what holds of each holds of one
pub every-at : {A : Type 0} (f : A → Bool) (xs : List A) (i : ℕ) (x d : A) → i < length xs → x ≡ get_or xs i d → IsTrue (every (map f xs)) → IsTrue (f x)
every-at f [] i x d h e t = absurd (omega arith)
every-at f (y ∷ ys) zero x d h e t = subst (λ z. IsTrue (f z)) (sym e) (both (f y) (every (map f ys)) t).first
every-at f (y ∷ ys) (suc i) x d h e t = every-at f ys i x d (omega arith) e (both (f y) (every (map f ys)) t).second

-- what came before and one more are no more than all
pub sum-at : {A : Type 0} (f : A → ℕ) (xs : List A) (i : ℕ) (x d : A) → i < length xs → x ≡ get_or xs i d → sum_by f (take i xs) + f x ≤ sum_by f xs
sum-at f xs i x d h e =
    let r = sum_by_more_le f xs i d h in
    let same = ap f e in
    omega (arith, r, same)

-- ---- each part counts

pub expression-made : (e : RExp) → e ≡ roll-RExp (out-RExp e)
expression-made = ind-RExp (λ e. e ≡ roll-RExp (out-RExp e)) (λ x y is. ap roll-RExp (sym (out-roll-RExp x)))

pattern-made : (p : RPat) → p ≡ roll-RPat (out-RPat p)
pattern-made = ind-RPat (λ p. p ≡ roll-RPat (out-RPat p)) (λ x y is. ap roll-RPat (sym (out-roll-RPat x)))

expression-layer : (y : RExp-F ℕ) → 1 ≤ exp_at y
expression-layer (RExp-F.Lit l) = omega arith
expression-layer (RExp-F.Var x) = omega arith
expression-layer (RExp-F.Val k) = omega arith
expression-layer (RExp-F.Rel r) = omega arith
expression-layer (RExp-F.Con c es) = omega arith
expression-layer (RExp-F.Tuple es) = omega arith
expression-layer (RExp-F.List es) = omega arith
expression-layer (RExp-F.Cons es) = omega arith

pattern-layer : (y : RPat-F ℕ) → 1 ≤ pattern_at y
pattern-layer RPat-F.Any = omega arith
pattern-layer (RPat-F.Lit l) = omega arith
pattern-layer (RPat-F.Var x) = omega arith
pattern-layer (RPat-F.Con c ps) = omega arith
pattern-layer (RPat-F.Tuple ps) = omega arith
pattern-layer (RPat-F.List ps) = omega arith
pattern-layer (RPat-F.Cons ps) = omega arith
pattern-layer (RPat-F.Bind x p) = omega arith

pub expression-counts : (e : RExp) → 1 ≤ exp_size e
expression-counts e =
    let is = ap exp_size (expression-made e) ∙ fold-roll-RExp ℕ exp_at (out-RExp e) in
    subst (λ (n : ℕ). 1 ≤ n) (sym is) (expression-layer _)

pub pattern-counts : (p : RPat) → 1 ≤ pattern_size p
pattern-counts p =
    let is = ap pattern_size (pattern-made p) ∙ fold-roll-RPat ℕ pattern_at (out-RPat p) in
    subst (λ (n : ℕ). 1 ≤ n) (sym is) (pattern-layer _)

pub patterns-count : (ps : List RPat) → length ps ≤ sum_by pattern_size ps
patterns-count [] = omega arith
patterns-count (p ∷ ps) =
    let one = pattern-counts p in
    let r = patterns-count ps in
    let e = sum_by-cons pattern_size p ps in
    omega (arith, one, r, e)

-- ---- a row that is read

pub absent : {A : Type 0} (xs : List A) (i : ℕ) (d : A) → slice_get xs i ≡ None → get_or xs i d ≡ d
absent [] zero d e = refl
absent [] (suc i) d e = refl
absent (x ∷ xs) zero d e = absurd (cc)
absent (x ∷ xs) (suc i) d e = absent xs i d e

pub present : {A : Type 0} (xs : List A) (i : ℕ) (x d : A) → slice_get xs i ≡ Some x → get_or xs i d ≡ x
present [] zero x d e = absurd (cc)
present [] (suc i) x d e = absurd (cc)
present (y ∷ xs) zero x d e = cc
present (y ∷ xs) (suc i) x d e = present xs i x d e

-- a turn of a loop that makes each of a row anew
pub made-more : {A B : Type 0} (f : A → B) (xs : List A) (i : ℕ) (x d : A) (y : B) (made later : List B) → i < length xs → x ≡ get_or xs i d → y ≡ f x → made ≡ map f (take i xs) → later ≡ made ++ y ∷ []
    → later ≡ map f (take (i + 1) xs)
made-more f xs i x d y made later h e is so_far next =
    next ∙ ap (λ z. z ++ y ∷ []) so_far ∙ ap (λ z. map f (take i xs) ++ z ∷ []) (is ∙ ap f e) ∙ sym (map_more f xs i d h)
