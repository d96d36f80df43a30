-- Lists of parts that are formed so, one after another.
use Rattle.std.proofs.Common.{◌≡◌, ◌≤◌, Bool, true, false, List, ◌∷◌, map, refl, ◌∙◌, arith}
use Rattle.std.specs.Prelude.{◌&&◌, length, nat_le}
use Rattle.std.specs.List.{list_all}
use Rattle.std.proofs.lemmas.Bool.{le-leb}
use Rattle.std.proofs.lemmas.List.{length-map}
use Rattle.std.proofs.lemmas.List.Folds.{list_all-map}
use Rattle.rml_whole.specs.Parts.{all, some, two_or_more}

pub and-left : (p q : Bool) → (p && q) ≡ true → p ≡ true
and-left true q e = refl
and-left false q e = absurd cc

pub and-right : (p q : Bool) → (p && q) ≡ true → q ≡ true
and-right true q e = e
and-right false q e = absurd cc

module _ {X : Type 0} (f : X → Bool) where
  pub cons-of : (x : X) (xs : List X) → f x ≡ true → list_all f xs ≡ true → list_all f (x ∷ xs) ≡ true
  cons-of x xs h k = rw (h, k) refl

  pub all-of : (xs : List X) → list_all f xs ≡ true → all (map f xs) ≡ true
  all-of xs h = list_all-map (λ (b : Bool). b) f xs ∙ h

  pub some-of : (xs : List X) → 1 ≤ length xs → list_all f xs ≡ true → some (map f xs) ≡ true
  some-of xs h k =
      let many : nat_le 1 (length (map f xs)) ≡ true = le-leb 1 (length (map f xs)) (omega (arith, length-map xs f)) in
      rw (many, all-of xs k) refl

  pub two-of : (xs : List X) → 2 ≤ length xs → list_all f xs ≡ true → two_or_more (map f xs) ≡ true
  two-of xs h k =
      let many : nat_le 2 (length (map f xs)) ≡ true = le-leb 2 (length (map f xs)) (omega (arith, length-map xs f)) in
      rw (many, all-of xs k) refl
