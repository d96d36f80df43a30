-- No item stands twice, read from the front: each is none of those before it.
use Rattle.std.proofs.Common.{◌≡◌, ℕ, suc, ◌+◌, ◌<◌, Bool, true, false, List, [], ◌∷◌, ◌++◌, length, get_or, drop, add-one, drop-cons, eqb, refl, sym, ap, ◌∙◌, inl, inr}
use Rattle.std.specs.Prelude.{◌&&◌, ◌||◌, ◌==◌, not}
use Rattle.std.specs.List.{list_all, list_any}
use Rattle.std.proofs.lemmas.List.Folds.{list_any-append}
use Rattle.std.proofs.Math.Bool.{and-false, and_assoc}
use Rattle.std.proofs.lemmas.Bool.{eqb-true}
use Rattle.rml_resolved.specs.Differ.{all_differ}
use Rattle.rml_resolved.proofs.Callers.{is_it}

-- none of the items is among those seen, and none stands twice
abbrev pub is_new : {X : Type 0} → (X → X → Bool) → List X → List X → Bool
is_new eq seen ys = list_all (λ y. not (list_any (eq y) seen)) ys && all_differ eq ys

all_new : {X : Type 0} (eq : X → X → Bool) (ys : List X) → list_all (λ y. not (list_any (eq y) [])) ys ≡ true
all_new eq [] = refl
all_new eq (y ∷ ys) = all_new eq ys

pub new_none : {X : Type 0} (eq : X → X → Bool) (ys : List X) → is_new eq [] ys ≡ all_differ eq ys
new_none eq ys = rw (all_new eq ys) refl

split : (a e c d : Bool) → (not (a || (e || false)) && (c && not d)) ≡ ((not a && c) && not (e || d))
split true e c d = refl
split false true c d = sym (and-false c)
split false false c d = refl

-- a test that holds of equal items alone does not mind their order
told-symmetric : {X : Type 0} (eq : X → X → Bool) → ((x y : X) → eq x y ≡ true → x ≡ y) → (x y : X) → eq y x ≡ eq x y
told-symmetric eq told x y = elim (is_it (eq y x)) [
  | inl e ↦ (let alike : y ≡ x = told y x e in ap (λ k. eq k x) alike ∙ ap (λ k. eq x k) (sym alike))
  | inr e ↦ elim (is_it (eq x y)) [ inl f ↦ (let alike : x ≡ y = told x y f in ap (λ k. eq k x) (sym alike) ∙ ap (λ k. eq x k) alike) | inr f ↦ e ∙ sym f ]
]

module _ {X : Type 0} (eq : X → X → Bool) (told : (x y : X) → eq x y ≡ true → x ≡ y) where
  new-more : (seen : List X) (x : X) (ys : List X) → list_all (λ y. not (list_any (eq y) (seen ++ x ∷ []))) ys ≡ (list_all (λ y. not (list_any (eq y) seen)) ys && not (list_any (eq x) ys))
  new-more seen x [] = refl
  new-more seen x (y ∷ ys) =
      rw (list_any-append (eq y) seen (x ∷ []), new-more seen x ys, told-symmetric eq told x y) (split (list_any (eq y) seen) (eq x y) (list_all (λ y. not (list_any (eq y) seen)) ys) (list_any (eq x) ys))

  new_next : (seen : List X) (x : X) (ys : List X) → list_any (eq x) seen ≡ false → is_new eq seen (x ∷ ys) ≡ is_new eq (seen ++ x ∷ []) ys
  new_next seen x ys e = rw (e, new-more seen x ys) (sym (and_assoc (list_all (λ y. not (list_any (eq y) seen)) ys) (not (list_any (eq x) ys)) (all_differ eq ys)))

  pub new_at : (seen xs : List X) (i : ℕ) (d : X) → i < length xs → list_any (eq (get_or xs i d)) seen ≡ false
      → is_new eq seen (drop i xs) ≡ is_new eq (seen ++ get_or xs i d ∷ []) (drop (i + 1) xs)
  new_at seen xs i d less e = rw (add-one, drop-cons xs i d) (new_next seen (get_or xs i d) (drop (suc i) xs) e)

  new_known : (seen : List X) (x : X) (ys : List X) → list_any (eq x) seen ≡ true → is_new eq seen (x ∷ ys) ≡ false
  new_known seen x ys e = rw e refl

  -- an item that was seen stands twice
  pub known_at : (seen xs : List X) (i : ℕ) (d : X) → i < length xs → list_any (eq (get_or xs i d)) seen ≡ true → is_new eq seen (drop i xs) ≡ false
  known_at seen xs i d less e = rw (drop-cons xs i d) (new_known seen (get_or xs i d) (drop (suc i) xs) e)
