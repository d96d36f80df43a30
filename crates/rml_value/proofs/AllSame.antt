-- How a loop over two lists compares them.
use Rattle.std.proofs.Common.{◌≡◌, ◌≢◌, ℕ, suc, ◌+◌, ◌<◌, Bool, true, false, ◌&&◌, List, [], ◌∷◌, map, length, get_or, drop, refl, ap, add-one, drop-cons}
use Rattle.rml_value.specs.declared.value.Value.{Value}
use Rattle.rml_value.specs.Same.{all_same}

and_false : (b : Bool) → (b && false) ≡ false
and_false true = refl
and_false false = refl

pub all_same-lengths : (f : Value → Value → Bool) (xs ys : List Value) → length xs ≢ length ys → all_same (map f xs) ys ≡ false
all_same-lengths f [] [] ne = absurd (ne refl)
all_same-lengths f [] (y ∷ ys) ne = refl
all_same-lengths f (x ∷ xs) [] ne = refl
all_same-lengths f (x ∷ xs) (y ∷ ys) ne = rw (all_same-lengths f xs ys (λ e. ne (ap suc e))) (and_false (f x y))

pub all_same-at : (f : Value → Value → Bool) (xs ys : List Value) (i : ℕ) (x y : Value) → i < length xs → i < length ys → x ≡ get_or xs i x → y ≡ get_or ys i y
    → all_same (map f (drop i xs)) (drop i ys) ≡ (f x y && all_same (map f (drop (i + 1) xs)) (drop (i + 1) ys))
all_same-at f xs ys i x y h k p q = rw (add-one, drop-cons xs i x, drop-cons ys i y, ← p, ← q)
