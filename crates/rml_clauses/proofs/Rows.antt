-- Tests over rows: what follows for each follows for all.
use Rattle.std.proofs.Common.{◌≡◌, ℕ, ◌+◌, ◌≤◌, Bool, true, false, List, [], ◌∷◌, map, length, refl, arith}
use Rattle.std.specs.Prelude.{◌&&◌, sum, sum_by}
use Rattle.std.specs.List.{list_all, concat}
use Rattle.std.proofs.lemmas.List.{length-append}
use Rattle.std.proofs.lemmas.List.Sums.{sum_by-cons}
use Rattle.rml_resolved.proofs.Callers.{both}
use Rattle.rml_clause.proofs.Callers.{joined}

abbrev pub every : List Bool → Bool
every = list_all (λ b. b)

-- parts, each with what follows for it
pub every-more : {X : Type 0} (f g : X → Bool) (xs : List ((x : X) × (f x ≡ true → g x ≡ true))) → every (map f (map (λ e. e.0) xs)) ≡ true → every (map g (map (λ e. e.0) xs)) ≡ true
every-more f g [] h = refl
every-more f g (e ∷ xs) h =
    let two = both (f e.0) (every (map f (map (λ z. z.0) xs))) h in
    joined (g e.0) (every (map g (map (λ z. z.0) xs))) (e.1 two.first) (every-more f g xs two.second)

-- parts that are made anew
pub every-made : {X Y : Type 0} (f : X → Bool) (made : X → Y) (g : Y → Bool) (xs : List ((x : X) × (f x ≡ true → g (made x) ≡ true))) → every (map f (map (λ e. e.0) xs)) ≡ true
    → every (map g (map made (map (λ e. e.0) xs))) ≡ true
every-made f made g [] h = refl
every-made f made g (e ∷ xs) h =
    let two = both (f e.0) (every (map f (map (λ z. z.0) xs))) h in
    joined (g (made e.0)) (every (map g (map made (map (λ z. z.0) xs)))) (e.1 two.first) (every-made f made g xs two.second)

-- a row in which it follows for each
pub row-more : {X : Type 0} (f g : X → Bool) → ((x : X) → f x ≡ true → g x ≡ true) → (xs : List X) → list_all f xs ≡ true → list_all g xs ≡ true
row-more f g each [] h = refl
row-more f g each (x ∷ xs) h = let two = both (f x) (list_all f xs) h in joined (g x) (list_all g xs) (each x two.first) (row-more f g each xs two.second)

pub mapped-more : {X : Type 0} (f g : X → Bool) → ((x : X) → f x ≡ true → g x ≡ true) → (xs : List X) → every (map f xs) ≡ true → every (map g xs) ≡ true
mapped-more f g each [] h = refl
mapped-more f g each (x ∷ xs) h = let two = both (f x) (every (map f xs)) h in joined (g x) (every (map g xs)) (each x two.first) (mapped-more f g each xs two.second)

-- ---- sums

pub sum-cons : (n : ℕ) (ns : List ℕ) → sum (n ∷ ns) ≡ n + sum ns
sum-cons n ns = sum_by-cons (λ k. k) n ns

pub sum-mapped : {X : Type 0} (f : X → ℕ) (xs : List X) → sum (map f xs) ≡ sum_by f xs
sum-mapped f [] = refl
sum-mapped f (x ∷ xs) = let r = sum-mapped f xs in let e = sum-cons (f x) (map f xs) in let g = sum_by-cons f x xs in omega (arith, r, e, g)

-- as many in all as in each
pub lengths-few : {X : Type 0} (f : X → List ℕ) (g : X → ℕ) (xs : List ((x : X) × (length (f x) ≤ g x))) → length (concat (map f (map (λ e. e.0) xs))) ≤ sum (map g (map (λ e. e.0) xs))
lengths-few f g [] = omega arith
lengths-few f g (e ∷ xs) =
    let r = lengths-few f g xs in
    let a = length-append (f e.0) (concat (map f (map (λ z. z.0) xs))) in
    let s = sum-cons (g e.0) (map g (map (λ z. z.0) xs)) in
    omega (arith, r, a, s, e.1)

pub row-few : {X : Type 0} (f : X → List ℕ) (g : X → ℕ) → ((x : X) → length (f x) ≤ g x) → (xs : List X) → length (concat (map f xs)) ≤ sum_by g xs
row-few f g each [] = omega arith
row-few f g each (x ∷ xs) =
    let r = row-few f g each xs in
    let a = length-append (f x) (concat (map f xs)) in
    let s = sum_by-cons g x xs in
    omega (arith, r, a, s, each x)
