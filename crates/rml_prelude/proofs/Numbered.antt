-- Byte strings that get their numbers one after the other: each keeps its own as more come.
use Rattle.std.proofs.Common.{◌≡◌, ℕ, ◌+◌, ◌<◌, ◌≤◌, Bool, true, false, List, [], ◌∷◌, ◌++◌, length, map, take, get_or, refl, sym, ap, subst, ◌∙◌, arith, append-nil, append_assoc}
use Rattle.std.specs.Prelude.{◌&&◌}
use Rattle.std.specs.List.{list_all, list_any, position_or_len}
use Rattle.std.proofs.Math.ListN.{length-append}
use Rattle.std.proofs.lemmas.List.{length-map, length-take, map_more, map_push, take_all}
use Rattle.std.proofs.lemmas.List.Folds.{list_all-append, list_any-append}
use Rattle.rml_base.specs.Numbering.{GrowsBy, is_known, number_in, same, with_name}
use Rattle.rml_base.proofs.Callers.{same-refl}

known-more : (names more : List (List ℕ)) (b : List ℕ) → is_known names b ≡ true → is_known (names ++ more) b ≡ true
known-more names more b h = rw (list_any-append (same b) names more, h) refl

place-append : (p : List ℕ → Bool) (xs ys : List (List ℕ)) → list_any p xs ≡ true → position_or_len p (xs ++ ys) ≡ position_or_len p xs
place-append p [] ys e = absurd (cc e)
place-append p (x ∷ xs) ys e = elim (p x) as (λ v. p x ≡ v → position_or_len p ((x ∷ xs) ++ ys) ≡ position_or_len p (x ∷ xs)) [
  | true ↦ λ h. rw h refl
  | false ↦ λ h. (let r : list_any p xs ≡ true = rw h at e in rw (h, place-append p xs ys r) refl)
] refl

name-one : (names : List (List ℕ)) (b : List ℕ) → GrowsBy 1 names (with_name names b)
name-one names b = elim (is_known names b) as (λ v. is_known names b ≡ v → GrowsBy 1 names (with_name names b)) [
  | true ↦ λ h. ([], rw h (sym (append-nil names)), omega arith)
  | false ↦ λ h. (b ∷ [], rw h refl, omega arith)
] refl

known-now : (names : List (List ℕ)) (b : List ℕ) → is_known (with_name names b) b ≡ true
known-now names b = elim (is_known names b) as (λ v. is_known names b ≡ v → is_known (with_name names b) b ≡ true) [
  | true ↦ λ h. rw h h
  | false ↦ λ h. rw (h, list_any-append (same b) names (b ∷ []), h, same-refl b) refl
] refl

pub first-of : (p q : Bool) → (p && q) ≡ true → p ≡ true
first-of true q h = refl
first-of false q h = absurd (cc h)

pub second-of : (p q : Bool) → (p && q) ≡ true → q ≡ true
second-of true q h = h
second-of false q h = absurd (cc h)

pub all-more : (names more ts : List (List ℕ)) → list_all (is_known names) ts ≡ true → list_all (is_known (names ++ more)) ts ≡ true
all-more names more [] h = refl
all-more names more (t ∷ ts) h =
    let a = known-more names more t (first-of (is_known names t) (list_all (is_known names) ts) h) in
    let b = all-more names more ts (second-of (is_known names t) (list_all (is_known names) ts) h) in
    rw (a, b) refl

pub numbers-more : (names more ts : List (List ℕ)) → list_all (is_known names) ts ≡ true → map (number_in (names ++ more)) ts ≡ map (number_in names) ts
numbers-more names more [] h = refl
numbers-more names more (t ∷ ts) h =
    let a : number_in (names ++ more) t ≡ number_in names t = place-append (same t) names more (first-of (is_known names t) (list_all (is_known names) ts) h) in
    let b = numbers-more names more ts (second-of (is_known names t) (list_all (is_known names) ts) h) in
    rw (a, b) refl

pub grows-further : (m n : ℕ) (a b c : List (List ℕ)) → GrowsBy m a b → GrowsBy n b c → GrowsBy (m + n) a c
grows-further m n a b c g h =
    (g.0 ++ h.0, h.1 ∙ ap (λ (l : List (List ℕ)). l ++ h.0) g.1 ∙ append_assoc a g.0 h.0, omega (arith, length-append g.0 h.0, g.2, h.2))

pub grows-not : (names : List (List ℕ)) → GrowsBy 0 names names
grows-not names = ([], sym (append-nil names), omega arith)

pub grows-most : (m n : ℕ) (a b : List (List ℕ)) → m ≤ n → GrowsBy m a b → GrowsBy n a b
grows-most m n a b le g = (g.0, g.1, omega (arith, le, g.2))

pub grown-length : (m : ℕ) (a b : List (List ℕ)) → GrowsBy m a b → length b ≤ length a + m
grown-length m a b g = omega (arith, ap length g.1, length-append a g.0, g.2)

-- some byte strings have got their numbers
pub record Numbered (old names : List (List ℕ)) (ns : List ℕ) (ts : List (List ℕ)) : Type 0 where
  pub numbers : ns ≡ map (number_in names) ts
  pub known : list_all (is_known names) ts ≡ true
  pub grows : GrowsBy (length ts) old names

pub none-numbered : (names : List (List ℕ)) → Numbered names names [] []
none-numbered names = record { numbers = refl; known = refl; grows = grows-not names }

last-place : (p : List ℕ → Bool) (xs : List (List ℕ)) (b : List ℕ) → p b ≡ true → position_or_len p (xs ++ b ∷ []) ≡ position_or_len p xs
last-place p [] b e = rw e refl
last-place p (x ∷ xs) b e = elim (p x) as (λ v. p x ≡ v → position_or_len p ((x ∷ xs) ++ b ∷ []) ≡ position_or_len p (x ∷ xs)) [
  | true ↦ λ h. rw h refl
  | false ↦ λ h. rw (h, last-place p xs b e) refl
] refl

-- the number that was given stands once the bytes are among the names
number-now : (names : List (List ℕ)) (b : List ℕ) → number_in (with_name names b) b ≡ number_in names b
number-now names b = elim (is_known names b) as (λ v. is_known names b ≡ v → number_in (with_name names b) b ≡ number_in names b) [
  | true ↦ λ h. rw h refl
  | false ↦ λ h. rw h (last-place (same b) names b (same-refl b))
] refl

pub one-more : (old names new ts : List (List ℕ)) (ns : List ℕ) (b : List ℕ) (k : ℕ) → Numbered old names ns ts → new ≡ with_name names b → k ≡ number_in names b
    → Numbered old new (ns ++ k ∷ []) (ts ++ b ∷ [])
one-more old names new ts ns b k h e ek =
    let g = name-one names b in
    let e' : new ≡ names ++ g.0 = e ∙ g.1 in
    let stay : map (number_in new) ts ≡ map (number_in names) ts = rw e' (numbers-more names g.0 ts h.known) in
    let kn : list_all (is_known new) ts ≡ true = rw e' (all-more names g.0 ts h.known) in
    let now : is_known new b ≡ true = rw e (known-now names b) in
    let at : number_in new b ≡ k = (rw e (number-now names b)) ∙ sym ek in
    record {
      numbers = (ap (λ (l : List ℕ). l ++ k ∷ []) (h.numbers ∙ sym stay) ∙ ap (λ (n : ℕ). map (number_in new) ts ++ n ∷ []) (sym at) ∙ sym (map_push (number_in new) ts b));
      known = (rw (list_all-append (is_known new) ts (b ∷ []), kn, now) refl);
      grows = grows-most (length ts + 1) (length (ts ++ b ∷ [])) old new (omega (arith, length-append ts (b ∷ []))) (grows-further (length ts) 1 old names new h.grows (g.0, e', g.2));
    }

-- the same of the first of some, and of the next
pub next-numbered : {K : Type 0} (f : K → List ℕ) (ks : List K) (i : ℕ) (d : K) (old names new : List (List ℕ)) (ns : List ℕ) (b : List ℕ) (k : ℕ)
    → i < length ks → b ≡ f (get_or ks i d) → Numbered old names ns (map f (take i ks)) → new ≡ with_name names b → k ≡ number_in names b
    → Numbered old new (ns ++ k ∷ []) (map f (take (i + 1) ks))
next-numbered {K} f ks i d old names new ns b k inside is h e ek =
    let front : map f (take (i + 1) ks) ≡ map f (take i ks) ++ b ∷ [] =
    map_more f ks i d inside ∙ ap (λ (t : List ℕ). map f (take i ks) ++ t ∷ []) (sym is) in
    rw front (one-more old names new (map f (take i ks)) ns b k h e ek)

module _ {K : Type 0} (f : K → List ℕ) (ks : List K) (old names : List (List ℕ)) (ns : List ℕ) where
  count-most : (i : ℕ) → length (map f (take i ks)) ≤ length ks
  count-most i = omega (arith, length-map (take i ks) f, length-take i ks)

  -- the names have grown by no more than there are
  pub grown-most : (i : ℕ) → Numbered old names ns (map f (take i ks)) → GrowsBy (length ks) old names
  grown-most i h = grows-most (length (map f (take i ks))) (length ks) old names (count-most i) h.grows

  -- and by no more if one more comes
  pub grown-one-more : (i : ℕ) (new : List (List ℕ)) (b : List ℕ) → i < length ks → Numbered old names ns (map f (take i ks)) → new ≡ with_name names b → GrowsBy (length ks) old new
  grown-one-more i new b inside h e =
      let n = length (map f (take i ks)) in
      subst
      (λ (l : List (List ℕ)). GrowsBy (length ks) old l)
      (sym e)
      (grows-most (n + 1) (length ks) old (with_name names b) (omega (arith, inside, length-map (take i ks) f, length-take i ks)) (grows-further n 1 old names (with_name names b) h.grows (name-one names b)))

  pub room : (i most : ℕ) → Numbered old names ns (map f (take i ks)) → length old ≤ most → length names ≤ most + length ks
  room i most h le = omega (arith, le, grown-length (length ks) old names (grown-most i h))

  -- all have their numbers in the end
  pub all-numbered : (i : ℕ) → length ks ≤ i → Numbered old names ns (map f (take i ks)) → Numbered old names ns (map f ks)
  all-numbered i le h = subst (λ (l : List K). Numbered old names ns (map f l)) (take_all i ks le) h

  pub all-count : (i : ℕ) → length ks ≤ i → Numbered old names ns (map f (take i ks)) → length ns ≡ length ks
  all-count i le h =
      let a = all-numbered i le h in
      ap length a.numbers ∙ length-map (map f ks) (number_in names) ∙ length-map ks f
