-- Counts of the numbers of a list, as it grows and shrinks at its end.
use Rattle.std.proofs.Common.{◌≡◌, ℕ, zero, suc, ◌+◌, ◌-◌, ◌<◌, ◌≤◌, Bool, true, false, List, [], ◌∷◌, ◌++◌, length, get_or, set, eqb, refl, sym, ap, ◌∙◌, inl, inr, arith}
use Rattle.std.specs.Prelude.{◌||◌, ◌==◌, if◌then◌else◌, nat_lt}
use Rattle.std.proofs.Math.ListN.{get_or-eq_default}
use Rattle.std.proofs.lemmas.Bool.{eqb-true}
use Rattle.std.proofs.lemmas.Bool.Decides.{nat_tests}
use Rattle.std.proofs.lemmas.Grind.{get_or-set_at}
use Rattle.std.proofs.lemmas.List.{get_or-set_other}
use Rattle.rml_resolved.specs.Binding.{contains}
use Rattle.rml_resolved.specs.Bound.{count, IsCounted}
use Rattle.rml_resolved.proofs.Rounds.{is_it}

positive : (b c : Bool) (n : ℕ) → c ≡ nat_lt 0 n → (b || c) ≡ nat_lt 0 (if b then n + 1 else n)
positive true c n h = grind (arith, nat_tests)
positive false c n h = h

pub contains-count : (x : ℕ) (xs : List ℕ) → contains x xs ≡ nat_lt 0 (count x xs)
contains-count x [] = refl
contains-count x (y ∷ ys) = positive (x == y) (contains x ys) (count x ys) (contains-count x ys)

one_more : (a b : Bool) (m n : ℕ) → m ≡ (if b then n + 1 else n) → (if a then m + 1 else m) ≡ (if b then (if a then n + 1 else n) + 1 else (if a then n + 1 else n))
one_more true true m n h = omega arith
one_more true false m n h = omega arith
one_more false true m n h = omega arith
one_more false false m n h = omega arith

pub count-append : (x : ℕ) (xs : List ℕ) (y : ℕ) → count x (xs ++ y ∷ []) ≡ (if x == y then count x xs + 1 else count x xs)
count-append x [] y = refl
count-append x (z ∷ zs) y = one_more (x == z) (x == y) (count x (zs ++ y ∷ [])) (count x zs) (count-append x zs y)

count-hit : (y : ℕ) (xs : List ℕ) (x : ℕ) → eqb y x ≡ true → count y (xs ++ x ∷ []) ≡ count y xs + 1
count-hit y xs x e = count-append y xs x ∙ rw e refl

count-miss : (y : ℕ) (xs : List ℕ) (x : ℕ) → eqb y x ≡ false → count y (xs ++ x ∷ []) ≡ count y xs
count-miss y xs x e = count-append y xs x ∙ rw e refl

apart : (y x : ℕ) → eqb y x ≡ false → y ≡ x → ⊥
apart y x e same = grind (arith, nat_tests)

pub counted-more : (xs counts : List ℕ) (x : ℕ) → IsCounted xs counts → x < length counts → IsCounted (xs ++ x ∷ []) (set counts x (get_or counts x 0 + 1))
counted-more xs counts x h less y =
    elim (is_it (eqb y x)) [
      | inl e ↦ (
          let same : y ≡ x = eqb-true y x e in
          let here : get_or (set counts x (get_or counts x 0 + 1)) y 0 ≡ get_or counts x 0 + 1 = get_or-set_at counts x y (get_or counts x 0 + 1) 0 same less in
          let there : count y (xs ++ x ∷ []) ≡ count y xs + 1 = count-hit y xs x e in
          let old : get_or counts y 0 ≡ count y xs = h y in
          let also : get_or counts y 0 ≡ get_or counts x 0 = ap (λ k. get_or counts k 0) same in
          omega arith)
      | inr e ↦ get_or-set_other counts x y (get_or counts x 0 + 1) 0 (apart y x e) ∙ h y ∙ sym (count-miss y xs x e)
    ]

pub counted-less : (xs counts : List ℕ) (x : ℕ) → IsCounted (xs ++ x ∷ []) counts → x < length counts → IsCounted xs (set counts x (get_or counts x 0 - 1))
counted-less xs counts x h less y =
    elim (is_it (eqb y x)) [
      | inl e ↦ (
          let same : y ≡ x = eqb-true y x e in
          let here : get_or (set counts x (get_or counts x 0 - 1)) y 0 ≡ get_or counts x 0 - 1 = get_or-set_at counts x y (get_or counts x 0 - 1) 0 same less in
          let there : count y (xs ++ x ∷ []) ≡ count y xs + 1 = count-hit y xs x e in
          let old : get_or counts y 0 ≡ count y (xs ++ x ∷ []) = h y in
          let also : get_or counts y 0 ≡ get_or counts x 0 = ap (λ k. get_or counts k 0) same in
          omega arith)
      | inr e ↦ get_or-set_other counts x y (get_or counts x 0 - 1) 0 (apart y x e) ∙ h y ∙ count-miss y xs x e
    ]

-- the last number of a list has a count, which is not 0
pub last-counted : (xs counts : List ℕ) (x : ℕ) → IsCounted (xs ++ x ∷ []) counts → 0 < get_or counts x 0
last-counted xs counts x h =
    let there : count x (xs ++ x ∷ []) ≡ count x xs + 1 = count-hit x xs x (grind (arith, nat_tests)) in
    let old : get_or counts x 0 ≡ count x (xs ++ x ∷ []) = h x in
    omega arith

pub has-place : (counts : List ℕ) (x : ℕ) → 0 < get_or counts x 0 → x < length counts
has-place [] x h = absurd (omega arith)
has-place (n ∷ counts) zero h = omega arith
has-place (n ∷ counts) (suc x) h = omega (arith, has-place counts x h)

pub get_or-zero : (counts : List ℕ) (y : ℕ) → get_or (counts ++ 0 ∷ []) y 0 ≡ get_or counts y 0
get_or-zero [] zero = refl
get_or-zero [] (suc y) = refl
get_or-zero (n ∷ counts) zero = refl
get_or-zero (n ∷ counts) (suc y) = get_or-zero counts y

-- the counts tell what a list contains
pub has-count : (xs counts : List ℕ) (x n : ℕ) → IsCounted xs counts → n ≡ get_or counts x 0 → nat_lt 0 n ≡ contains x xs
has-count xs counts x n h e = ap (nat_lt 0) (e ∙ h x) ∙ sym (contains-count x xs)

pub has-none : (xs counts : List ℕ) (x : ℕ) → IsCounted xs counts → length counts ≤ x → false ≡ contains x xs
has-none xs counts x h out = has-count xs counts x 0 h (sym (get_or-eq_default counts 0 out))

pub count-small : (x : ℕ) (xs : List ℕ) → count x xs ≤ length xs
count-small x [] = omega arith
count-small x (y ∷ ys) = elim (is_it (x == y)) [ inl e ↦ rw e (omega (arith, count-small x ys)) | inr e ↦ rw e (omega (arith, count-small x ys)) ]
