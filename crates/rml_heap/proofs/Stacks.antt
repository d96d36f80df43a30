-- A list that grows at its end, seen from its end on.
use Rattle.std.proofs.Common.{◌≡◌, ◌≢◌, ℕ, ◌-◌, ◌<◌, List, ◌++◌, length, get_or, set, take, drop, reverse, replicate, sym, ap, ◌∙◌, arith, inl, inr}
use Rattle.std.proofs.lemmas.List.{reverse-append, length-reverse, length-replicate, length-set, length-drop, get_or-reverse, get_or-replicate, get_or-set_same, get_or-set_other, take-append-drop, drop_at, same_lists}
use Rattle.std.proofs.lemmas.Bool.Decides.{eqb_tells}

pub reverse-replicate : {X : Type 0} (n : ℕ) (x : X) → reverse (replicate n x) ≡ replicate n x
reverse-replicate n x =
    let long : length (reverse (replicate n x)) ≡ n = length-reverse (replicate n x) ∙ length-replicate n x in
    same_lists (reverse (replicate n x)) (replicate n x) (long ∙ sym (length-replicate n x))
    (λ k d inside.
    let short : k < length (replicate n x) = omega (arith, inside, length-reverse (replicate n x)) in
    let below : k < n = omega (arith, inside, long) in
    let other : length (replicate n x) - 1 - k < n = omega (arith, length-replicate n x, below) in
    get_or-reverse (replicate n x) k d short ∙ get_or-replicate n (length (replicate n x) - 1 - k) x d other ∙ sym (get_or-replicate n k x d below))

-- more of the same at the end
pub reverse-grown : {X : Type 0} (xs : List X) (n : ℕ) (x : X) → reverse (xs ++ replicate n x) ≡ replicate n x ++ reverse xs
reverse-grown xs n x = reverse-append xs (replicate n x) ∙ ap (λ ys. ys ++ reverse xs) (reverse-replicate n x)

-- some taken away at the end
pub reverse-take : {X : Type 0} (xs : List X) (k : ℕ) → reverse (take k xs) ≡ drop (length xs - k) (reverse xs)
reverse-take xs k =
    let whole : reverse (drop k xs) ++ reverse (take k xs) ≡ reverse xs = sym (reverse-append (take k xs) (drop k xs)) ∙ ap reverse (take-append-drop k xs) in
    let gone : length (reverse (drop k xs)) ≡ length xs - k = length-reverse (drop k xs) ∙ length-drop k xs in
    sym (drop_at (reverse (drop k xs)) (reverse (take k xs)) (length xs - k) gone) ∙ ap (drop (length xs - k)) whole

-- one written
pub reverse-set : {X : Type 0} (xs : List X) (i : ℕ) (x : X) → i < length xs → reverse (set xs i x) ≡ set (reverse xs) (length xs - 1 - i) x
reverse-set xs i x inside =
    let long : length (reverse (set xs i x)) ≡ length xs = length-reverse (set xs i x) ∙ length-set xs i x in
    let back : length (reverse xs) ≡ length xs = length-reverse xs in
    same_lists (reverse (set xs i x)) (set (reverse xs) (length xs - 1 - i) x) (long ∙ sym back ∙ sym (length-set (reverse xs) (length xs - 1 - i) x))
    (λ k d within.
    let set_long : length (set xs i x) ≡ length xs = length-set xs i x in
    let here : k < length xs = omega (arith, within, long) in
    let there : k < length (set xs i x) = omega (arith, here, set_long) in
    let seen : get_or (reverse (set xs i x)) k d ≡ get_or (set xs i x) (length xs - 1 - k) d =
    get_or-reverse (set xs i x) k d there ∙ ap (λ n. get_or (set xs i x) (n - 1 - k) d) set_long
    in
    elim (eqb_tells k (length xs - 1 - i)) [
      | inl same ↦
          let is : k ≡ length xs - 1 - i = same.1 in
          let at : length xs - 1 - k ≡ i = omega (arith, is, inside) in
          let place : length xs - 1 - i < length (reverse xs) = omega (arith, back, inside) in
          seen ∙ ap (λ n. get_or (set xs i x) n d) at ∙ get_or-set_same xs i x d inside
          ∙ sym (get_or-set_same (reverse xs) (length xs - 1 - i) x d place)
          ∙ ap (λ n. get_or (set (reverse xs) (length xs - 1 - i) x) n d) (sym is)
      | inr other ↦
          let ne : k ≢ length xs - 1 - i = other.1 in
          let far : length xs - 1 - k ≢ i = λ e. ne (omega (arith, e, here)) in
          seen ∙ get_or-set_other xs i (length xs - 1 - k) x d far ∙ sym (get_or-reverse xs k d here) ∙ sym (get_or-set_other (reverse xs) (length xs - 1 - i) k x d ne)
    ])
