-- The order of places, where one place is compared with two.
use Rattle.std.proofs.Common.{◌≡◌, ◌⊎◌, inl, inr, ℕ, ◌<◌, Bool, true, false, ◌&&◌, ◌||◌, ◌==◌, sym, ◌∙◌, arith}
use Rattle.std.specs.Prelude.{nat_lt}
use Rattle.std.proofs.lemmas.Bool.Decides.{nat_tests}
use Rattle.rml_base.specs.declared.place.Place.{Place}
use Rattle.rml_base.specs.Order.{is_before}

-- by a first number, and then by what is left
abbrev first_then : ℕ → ℕ → Bool → Bool
first_then x y rest = nat_lt x y || ((x == y) && rest)

before-tells : (x y : ℕ) (b : Bool) → first_then x y b ≡ true → (x < y) ⊎ ((x ≡ y) × (b ≡ true))
before-tells x y true h = grind (arith, nat_tests)
before-tells x y false h = grind (arith, nat_tests)

not-before-tells : (x y : ℕ) (b : Bool) → first_then x y b ≡ false → (y < x) ⊎ ((x ≡ y) × (b ≡ false))
not-before-tells x y true h = grind (arith, nat_tests)
not-before-tells x y false h = grind (arith, nat_tests)

less-before : (x y : ℕ) (b : Bool) → x < y → first_then x y b ≡ true
less-before x y true h = grind (arith, nat_tests)
less-before x y false h = grind (arith, nat_tests)

more-not-before : (x y : ℕ) (b : Bool) → y < x → first_then x y b ≡ false
more-not-before x y true h = grind (arith, nat_tests)
more-not-before x y false h = grind (arith, nat_tests)

same-first : (x y : ℕ) (b : Bool) → x ≡ y → first_then x y b ≡ b
same-first x y true h = grind (arith, nat_tests)
same-first x y false h = grind (arith, nat_tests)

-- what a is before, and q is not after, q is before and is not before q
abbrev Follows : Bool → Bool → Bool → Bool → Type 0
Follows ab aq qb bq = ab ≡ true → aq ≡ false → (qb ≡ true) × (bq ≡ false)

by-first : (x y z : ℕ) (ab aq qb bq : Bool) → Follows ab aq qb bq → Follows (first_then x y ab) (first_then x z aq) (first_then z y qb) (first_then y z bq)
by-first x y z ab aq qb bq inner h k = on (before-tells x y ab h) (not-before-tells x z aq k)
  where
    on : (x < y) ⊎ ((x ≡ y) × (ab ≡ true)) → (z < x) ⊎ ((x ≡ z) × (aq ≡ false)) → (first_then z y qb ≡ true) × (first_then y z bq ≡ false)
    on (inl less) (inl more) = (less-before z y qb (omega arith), more-not-before y z bq (omega arith))
    on (inl less) (inr same) = let e = same.0 in (less-before z y qb (omega arith), more-not-before y z bq (omega arith))
    on (inr same) (inl more) = let e = same.0 in (less-before z y qb (omega arith), more-not-before y z bq (omega arith))
    on (inr same) (inr again) =
        let both = inner same.1 again.1 in let e = same.0 in let f = again.0 in
        (same-first z y qb (sym f ∙ e) ∙ both.0, same-first y z bq (sym e ∙ f) ∙ both.1)

by-number : (x y z : ℕ) → Follows (nat_lt x y) (nat_lt x z) (nat_lt z y) (nat_lt y z)
by-number x y z h k = grind (arith, nat_tests)

-- a place that is not after another is before whatever that is before
pub before-follows : (a b q : Place) → is_before a b ≡ true → is_before a q ≡ false → (is_before q b ≡ true) × (is_before b q ≡ false)
before-follows a b q =
    by-first a.text b.text q.text _ _ _ _ (by-first a.line b.line q.line _ _ _ _ (by-number a.column b.column q.column))
