-- Places of names in lists, and lists that grow.
use Rattle.std.proofs.Common.{◌≡◌, ℕ, ◌+◌, ◌<◌, ◌≤◌, Bool, true, false, List, [], ◌∷◌, ◌++◌, length, refl, sym, ap, ◌∙◌, Some, None, arith, get_or, append_assoc}
use Rattle.std.specs.Prelude.{slice_get, take, if◌then◌else◌}
use Rattle.std.specs.Cmp.{IsEquivalence}
use Rattle.std.specs.List.{IsDistinct, list_any, position, position_or_len}
use Rattle.std.proofs.lemmas.List.{append-nil}
use Rattle.std.proofs.lemmas.List.Sums.{position_or_len_is, passes_at_first}
use Rattle.std.proofs.lemmas.Map.Keys.{apart_from_distinct}
use Rattle.std.proofs.lemmas.Option.{slice_get_within, get_or_from_slice_get, slice_get-get_or}
use Rattle.rml_tables.specs.Words.{AreDistinct, Grows, has, place_of, with_each, with_name}

module _ {X : Type 0} (p : X → Bool) where
  -- where nothing passes, the place is behind the last
  pub place-none : (xs : List X) → list_any p xs ≡ false → position_or_len p xs ≡ length xs
  place-none [] e = refl
  place-none (x ∷ xs) e = elim (p x) as (λ v. p x ≡ v → position_or_len p (x ∷ xs) ≡ length (x ∷ xs)) [
    | true ↦ λ h. absurd (let t : list_any p (x ∷ xs) ≡ true = rw h refl in cc (t, e))
    | false ↦ λ h. (let r : list_any p xs ≡ false = rw h at e in rw (h, place-none xs r) (omega arith))
  ] refl

  pub place-some : (xs : List X) → list_any p xs ≡ true → position_or_len p xs < length xs
  place-some [] e = absurd (cc e)
  place-some (x ∷ xs) e = elim (p x) as (λ v. p x ≡ v → position_or_len p (x ∷ xs) < length (x ∷ xs)) [
    | true ↦ λ h. rw h (omega arith)
    | false ↦ λ h. (let r : list_any p xs ≡ true = rw h at e in let q = place-some xs r in rw h (omega arith))
  ] refl

  -- what came behind changes no place
  pub place-append : (xs ys : List X) → list_any p xs ≡ true → position_or_len p (xs ++ ys) ≡ position_or_len p xs
  place-append [] ys e = absurd (cc e)
  place-append (x ∷ xs) ys e = elim (p x) as (λ v. p x ≡ v → position_or_len p ((x ∷ xs) ++ ys) ≡ position_or_len p (x ∷ xs)) [
    | true ↦ λ h. rw h refl
    | false ↦ λ h. (let r : list_any p xs ≡ true = rw h at e in rw (h, place-append xs ys r) refl)
  ] refl

any-push : {X : Type 0} (p : X → Bool) (xs : List X) (x : X) → p x ≡ true → list_any p (xs ++ x ∷ []) ≡ true
any-push p [] x e = rw e refl
any-push p (y ∷ ys) x e = elim (p y) as (λ v. p y ≡ v → list_any p ((y ∷ ys) ++ x ∷ []) ≡ true) [
  | true ↦ λ h. rw h refl
  | false ↦ λ h. rw h (any-push p ys x e)
] refl

-- in a list of different names each is found at its own place
pub own-places : {K : Type 0} {same : K → K → Bool} → IsEquivalence same → (names : List K) → IsDistinct same names → AreDistinct same names
own-places {K} {same} laws names distinct i name at =
    let within = slice_get_within names i name at in
    let there = get_or_from_slice_get names i name name at in
    position_or_len_is (same name) names i name (omega arith)
    (λ k below. laws.symm name (get_or names k name) ∙ ap (same (get_or names k name)) (sym there) ∙ apart_from_distinct same names k i name distinct below within)
    (λ _. ap (same name) there ∙ laws.refl name)

pub grows-not : {X : Type 0} (xs : List X) → Grows xs xs
grows-not xs = ([], sym (append-nil xs))

pub grows-further : {X : Type 0} (xs ys zs : List X) → Grows xs ys → Grows ys zs → Grows xs zs
grows-further xs ys zs a b = (a.0 ++ b.0, b.1 ∙ ap (λ l. l ++ b.0) a.1 ∙ append_assoc xs a.0 b.0)

module _ {K : Type 0} (same : K → K → Bool) where
  pub grows-name : (names : List K) (name : K) → Grows names (with_name same names name)
  grows-name names name = elim (has same name names) as (λ v. has same name names ≡ v → Grows names (with_name same names name)) [
    | true ↦ λ h. rw h (grows-not names)
    | false ↦ λ h. rw h (name ∷ [], refl)
  ] refl

  pub grows-each : (names more : List K) → Grows names (with_each same names more)
  grows-each names [] = grows-not names
  grows-each names (name ∷ more) = grows-further names (with_name same names name) (with_each same names (name ∷ more)) (grows-name names name) (grows-each (with_name same names name) more)

  pub place-grown : (name : K) (names more : List K) → Grows names more → has same name names ≡ true → place_of same name more ≡ place_of same name names
  place-grown name names more g e = rw g.1 (place-append (same name) names g.0 e)

  pub place-given : (names : List K) (name : K) → ((x : K) → same x x ≡ true) → place_of same name (with_name same names name) < length (with_name same names name)
  place-given names name itself = elim (has same name names) as (λ v. has same name names ≡ v → place_of same name (with_name same names name) < length (with_name same names name)) [
    | true ↦ λ h. rw h (place-some (same name) names h)
    | false ↦ λ h. rw h (place-some (same name) (names ++ name ∷ []) (any-push (same name) names name (itself name)))
  ] refl
