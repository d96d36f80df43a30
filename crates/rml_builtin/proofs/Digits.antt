-- Reading digits from the left.
use Rattle.std.proofs.Common.{◌≡◌, ℕ, ◌+◌, ◌-◌, ◌*◌, ◌^◌, ◌<◌, ◌≤◌, List, [], ◌∷◌, Bool, true, false, Option, Some, None, length, get_or, drop, refl, sym, ap, ◌∙◌, inl, inr, add-one, drop-cons, arith}
use Rattle.std.specs.Prelude.{if◌then◌else◌}
use Rattle.std.specs.Str.{all_ascii_digits}
use Rattle.std.specs.Char.{is_ascii_digit}
use Rattle.rml_builtin.specs.Decimal.{digits_after, natural_of, number_after}
use Rattle.rml_builtin.specs.Capped.{capped}
use Rattle.std.proofs.lemmas.List.{length-drop, drop_all}
use Rattle.std.proofs.lemmas.Bool.{lt-leb, cases_lt}
use Rattle.std.proofs.lemmas.Bool.Decides.{nat_tests}

pub digits_after-ge : (n : ℕ) (cs : List ℕ) → n ≤ digits_after n cs
digits_after-ge n [] = omega arith
digits_after-ge n (c ∷ cs) = omega (arith, digits_after-ge (n * 10 + (c - 48)) cs)

capped-large : (n : ℕ) → 2 ^ 30 < n → capped (Some n) ≡ None
capped-large n h = rw (lt-leb n (2 ^ 30) h) refl

capped-small : (n : ℕ) → n ≤ 2 ^ 30 → capped (Some n) ≡ Some n
capped-small n h = grind (arith, nat_tests)

capped-after : (n : ℕ) (cs : List ℕ) → 2 ^ 30 < n → (b : Bool) → capped (if b then Some (digits_after n cs) else None) ≡ None
capped-after n cs h true = capped-large (digits_after n cs) (omega (arith, digits_after-ge n cs))
capped-after n cs h false = refl

number_after-digit : (n c : ℕ) (cs : List ℕ) → is_ascii_digit c ≡ true → number_after n (c ∷ cs) ≡ number_after (n * 10 + (c - 48)) cs
number_after-digit n c cs e = rw e refl

-- a number that is too large stays too large
too-large : (n c : ℕ) (cs : List ℕ) → is_ascii_digit c ≡ true → 2 ^ 30 < n * 10 + (c - 48) → capped (number_after n (c ∷ cs)) ≡ None
too-large n c cs e large =
    ap capped (number_after-digit n c cs e) ∙ capped-after (n * 10 + (c - 48)) cs large (all_ascii_digits cs)

-- where one more digit gives no number, nor do further ones
stays-none : (n c : ℕ) (cs : List ℕ) → capped (number_after n (c ∷ [])) ≡ None → capped (number_after n (c ∷ cs)) ≡ None
stays-none n c cs h = on (is_ascii_digit c) refl
  where
    on : (b : Bool) → is_ascii_digit c ≡ b → capped (number_after n (c ∷ cs)) ≡ None
    on false e = rw e refl
    on true e =
        elim (cases_lt (2 ^ 30) (n * 10 + (c - 48))) [
          | inl large ↦ too-large n c cs e large
          | inr small ↦
              let is : capped (number_after n (c ∷ [])) ≡ Some (n * 10 + (c - 48)) = ap capped (number_after-digit n c [] e) ∙ capped-small (n * 10 + (c - 48)) small in
              let clash : Some (n * 10 + (c - 48)) ≡ None = sym is ∙ h in absurd (cc)
        ]

pub none-after : (n i c : ℕ) (cs : List ℕ) → i < length cs → c ≡ get_or cs i 0 → capped (number_after n (c ∷ [])) ≡ None → capped (number_after n (drop i cs)) ≡ None
none-after n i c cs inside is h =
    let front : drop i cs ≡ c ∷ drop (i + 1) cs = rw (add-one, drop-cons cs i 0, ← is) refl in
    ap (λ ds. capped (number_after n ds)) front ∙ stays-none n c (drop (i + 1) cs) h

-- one digit more, and then the further ones
pub some-after : (n i c m : ℕ) (cs : List ℕ) → i < length cs → c ≡ get_or cs i 0 → capped (number_after n (c ∷ [])) ≡ Some m → capped (number_after n (drop i cs)) ≡ capped (number_after m (drop (i + 1) cs))
some-after n i c m cs inside is h = on (is_ascii_digit c) refl
  where
    front : drop i cs ≡ c ∷ drop (i + 1) cs
    front = rw (add-one, drop-cons cs i 0, ← is) refl

    on : (b : Bool) → is_ascii_digit c ≡ b → capped (number_after n (drop i cs)) ≡ capped (number_after m (drop (i + 1) cs))
    on false e = let none : capped (number_after n (c ∷ [])) ≡ None = rw e refl in let clash : Some m ≡ None = sym h ∙ none in absurd (cc)
    on true e =
        let is_more : capped (number_after n (c ∷ [])) ≡ capped (Some (n * 10 + (c - 48))) = ap capped (number_after-digit n c [] e) in
        elim (cases_lt (2 ^ 30) (n * 10 + (c - 48))) [
          | inl large ↦ let clash : Some m ≡ None = sym h ∙ is_more ∙ capped-large (n * 10 + (c - 48)) large in absurd (cc)
          | inr small ↦
              let same : Some (n * 10 + (c - 48)) ≡ Some m = sym (is_more ∙ capped-small (n * 10 + (c - 48)) small) ∙ h in
              let next : n * 10 + (c - 48) ≡ m = cc in
              ap (λ ds. capped (number_after n ds)) front ∙ ap capped (number_after-digit n c (drop (i + 1) cs) e) ∙ ap (λ k. capped (number_after k (drop (i + 1) cs))) next
        ]

-- what is capped is small
pub capped-le : (o : Option ℕ) (m : ℕ) → capped o ≡ Some m → m ≤ 2 ^ 30
capped-le None m h = absurd (cc)
capped-le (Some n) m h = grind (arith, nat_tests)

-- the beginning and the end of the digits from a place on
pub digits-begin : (first : ℕ) (cs : List ℕ) → first < length cs → natural_of (drop first cs) ≡ number_after 0 (drop first cs)
digits-begin first cs inside = on (drop first cs) (omega (arith, length-drop first cs, inside))
  where
    on : (ds : List ℕ) → 0 < length ds → natural_of ds ≡ number_after 0 ds
    on [] h = absurd (omega (arith, h))
    on (d ∷ ds) h = refl

pub digits-end : (n last : ℕ) (cs : List ℕ) → length cs ≤ last → n ≤ 2 ^ 30 → capped (number_after n (drop last cs)) ≡ Some n
digits-end n last cs past small = ap (λ ds. capped (number_after n ds)) (drop_all last cs past) ∙ capped-small n small

pub digits-none : (first : ℕ) (cs : List ℕ) → length cs ≤ first → natural_of (drop first cs) ≡ None
digits-none first cs past = ap natural_of (drop_all first cs past)
