-- Lists of pairs of nodes that wait.
use Rattle.std.proofs.Common.{◌≡◌, ℕ, zero, suc, ◌+◌, ◌<◌, ◌≤◌, List, [], ◌∷◌, ◌++◌, length, refl, sym, ap, ◌∙◌, arith, get_or, drop, append_assoc, add-one, drop-cons}
use Rattle.std.specs.Prelude.{slice_index}
use Rattle.rml_types.specs.Trees.{Tree, Same}
use Rattle.rml_types.specs.Waiting.{Agree, Pairs, PairsBelow, argument_pairs}

pub same-refl : (s : Tree) → Same s s
same-refl s path = refl

pub same-sym : (s t : Tree) → Same s t → Same t s
same-sym s t e path = sym (e path)

pub same-trans : (s t u : Tree) → Same s t → Same t u → Same s u
same-trans s t u e f path = e path ∙ f path

pub pairs-split : (h : ℕ → ℕ) (ps qs : List (ℕ × ℕ)) → Pairs h (ps ++ qs) → Pairs h ps × Pairs h qs
pairs-split h [] qs w = (tt, w)
pairs-split h (p ∷ ps) qs w = let r = pairs-split h ps qs w.1 in ((w.0, r.0), r.1)

pub pairs-join : (h : ℕ → ℕ) (ps qs : List (ℕ × ℕ)) → Pairs h ps → Pairs h qs → Pairs h (ps ++ qs)
pairs-join h [] qs a b = b
pairs-join h (p ∷ ps) qs a b = (a.0, pairs-join h ps qs a.1 b)

pub pairs-at : (h : ℕ → ℕ) (xs ys : List ℕ) (i : ℕ) → Pairs h (argument_pairs xs ys) → length xs ≡ length ys → i < length xs → h (slice_index xs i) ≡ h (slice_index ys i)
pairs-at h [] ys i w n lt = absurd (omega arith)
pairs-at h (x ∷ xs) [] i w n lt = absurd (omega arith)
pairs-at h (x ∷ xs) (y ∷ ys) zero w n lt = w.0
pairs-at h (x ∷ xs) (y ∷ ys) (suc i) w n lt = pairs-at h xs ys i w.1 (omega arith) (omega arith)

pub agree-split : (tree : ℕ → Tree) (ps qs : List (ℕ × ℕ)) → Agree tree (ps ++ qs) → Agree tree ps × Agree tree qs
agree-split tree [] qs w = (tt, w)
agree-split tree (p ∷ ps) qs w = let r = agree-split tree ps qs w.1 in ((w.0, r.0), r.1)

pub agree-join : (tree : ℕ → Tree) (ps qs : List (ℕ × ℕ)) → Agree tree ps → Agree tree qs → Agree tree (ps ++ qs)
agree-join tree [] qs a b = b
agree-join tree (p ∷ ps) qs a b = (a.0, agree-join tree ps qs a.1 b)

pub agree-arguments : (tree : ℕ → Tree) (xs ys : List ℕ) → length xs ≡ length ys → ((i : ℕ) → i < length xs → Same (tree (slice_index xs i)) (tree (slice_index ys i))) → Agree tree (argument_pairs xs ys)
agree-arguments tree [] ys n h = tt
agree-arguments tree (x ∷ xs) [] n h = tt
agree-arguments tree (x ∷ xs) (y ∷ ys) n h = (h zero (omega arith), agree-arguments tree xs ys (omega arith) (λ i lt. h (suc i) (omega arith)))

pub below-split : (k : ℕ) (ps qs : List (ℕ × ℕ)) → PairsBelow k (ps ++ qs) → PairsBelow k ps × PairsBelow k qs
below-split k [] qs w = (tt, w)
below-split k (p ∷ ps) qs w = let r = below-split k ps qs w.2 in ((w.0, w.1, r.0), r.1)

pub below-join : (k : ℕ) (ps qs : List (ℕ × ℕ)) → PairsBelow k ps → PairsBelow k qs → PairsBelow k (ps ++ qs)
below-join k [] qs a b = b
below-join k (p ∷ ps) qs a b = (a.0, a.1, below-join k ps qs a.2 b)

pub below-arguments : (k : ℕ) (xs ys : List ℕ) → ((i : ℕ) → i < length xs → slice_index xs i < k) → ((i : ℕ) → i < length ys → slice_index ys i < k) → PairsBelow k (argument_pairs xs ys)
below-arguments k [] ys h g = tt
below-arguments k (x ∷ xs) [] h g = tt
below-arguments k (x ∷ xs) (y ∷ ys) h g = (h zero (omega arith), g zero (omega arith), below-arguments k xs ys (λ i lt. h (suc i) (omega arith)) (λ i lt. g (suc i) (omega arith)))

pub pairs-length : (xs ys : List ℕ) → length (argument_pairs xs ys) ≤ length xs
pairs-length [] ys = omega arith
pairs-length (x ∷ xs) [] = omega arith
pairs-length (x ∷ xs) (y ∷ ys) = let p = pairs-length xs ys in omega arith

-- the pair of the next arguments
pub next-pair : (work : List (ℕ × ℕ)) (xs ys : List ℕ) (i : ℕ) → i < length xs → i < length ys
    → (work ++ (get_or xs i 0, get_or ys i 0) ∷ []) ++ argument_pairs (drop (i + 1) xs) (drop (i + 1) ys) ≡ work ++ argument_pairs (drop i xs) (drop i ys)
next-pair work xs ys i lx ly = rw (drop-cons xs i 0 lx, drop-cons ys i 0 ly, append_assoc, add-one) refl

pub no-pairs : (work : List (ℕ × ℕ)) → work ++ [] ≡ work
no-pairs [] = refl
no-pairs (p ∷ ps) = ap (λ x. p ∷ x) (no-pairs ps)

pub past-pairs : (xs ys : List ℕ) (i : ℕ) → length xs ≤ i → argument_pairs (drop i xs) ys ≡ []
past-pairs [] ys zero le = refl
past-pairs [] ys (suc i) le = refl
past-pairs (x ∷ xs) ys zero le = absurd (omega arith)
past-pairs (x ∷ xs) ys (suc i) le = past-pairs xs ys i (omega arith)

pub none-left : (ps : List (ℕ × ℕ)) → length ps ≡ 0 → ps ≡ []
none-left [] e = refl
none-left (p ∷ ps) e = absurd (omega arith)
