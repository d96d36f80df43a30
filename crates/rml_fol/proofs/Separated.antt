-- How loops write items: with something between them, or one after another.
use Rattle.std.proofs.Common.{◌≡◌, ℕ, suc, ◌+◌, ◌<◌, ◌≤◌, List, [], ◌∷◌, ◌++◌, map, length, get_or, take, refl, ap, subst, sym, ◌∙◌, append_assoc, append-nil, arith}
use Rattle.std.specs.List.{flat_map}
use Rattle.std.proofs.lemmas.List.{map_more, length-take-le, take_all, take_more, flat_map_more}
use Rattle.std.proofs.lemmas.Grind.{flat_map-append}
use Rattle.rml_fol.specs.TermText.{separated, separator_before}
use Rattle.rml_fol.specs.Text.{Lines, in_lines, lines_from}

separated-one : (between : List ℕ) (ts : List (List ℕ)) (t : List ℕ) → separated between (ts ++ t ∷ []) ≡ separated between ts ++ (separator_before between (length ts) ++ t)
unfolding separator_before
separated-one between [] t = append-nil t
separated-one between (u ∷ ts) t =
    ap (λ z. u ++ z) (flat_map-append (λ v. between ++ v) ts (t ∷ []) ∙ ap (λ z. flat_map (λ v. between ++ v) ts ++ z) (append-nil (between ++ t)))
    ∙ sym (append_assoc u (flat_map (λ v. between ++ v) ts) (between ++ t))

pub length-mapped : {A C : Type 0} (f : A → C) (xs : List A) → length (map f xs) ≡ length xs
length-mapped f [] = refl
length-mapped f (x ∷ xs) = ap suc (length-mapped f xs)

pub mapped-twice : {A C D : Type 0} (g : C → D) (f : A → C) (xs : List A) → map g (map f xs) ≡ map (λ x. g (f x)) xs
mapped-twice g f [] = refl
mapped-twice g f (x ∷ xs) = ap (λ ys. g (f x) ∷ ys) (mapped-twice g f xs)

separated-more : {A : Type 0} (between : List ℕ) (f : A → List ℕ) (xs : List A) (i : ℕ) (d : A) → i < length xs
    → separated between (map f (take (i + 1) xs)) ≡ separated between (map f (take i xs)) ++ (separator_before between i ++ f (get_or xs i d))
separated-more between f xs i d h =
    let n : length (map f (take i xs)) ≡ i = length-mapped f (take i xs) ∙ length-take-le i xs (omega arith) in
    ap (separated between) (map_more f xs i d h) ∙ separated-one between (map f (take i xs)) (f (get_or xs i d))
    ∙ ap (λ k. separated between (map f (take i xs)) ++ (separator_before between k ++ f (get_or xs i d))) n

-- a turn of a loop over xs, each of which is written as f says, with something between them
pub item-written : {A : Type 0} {w v u : List ℕ} (start : List ℕ) (between : List ℕ) (f : A → List ℕ) (xs : List A) (i : ℕ) (x d : A)
    → w ≡ start ++ separated between (map f (take i xs)) → i < length xs → x ≡ get_or xs i d → v ≡ w ++ separator_before between i → u ≡ v ++ f x
    → u ≡ start ++ separated between (map f (take (i + 1) xs))
item-written {w = w} {v = v} {u = u} start between f xs i x d so_far h e p q =
    q ∙ ap (λ z. z ++ f x) (p ∙ ap (λ z. z ++ separator_before between i) so_far)
    ∙ ap (λ z. ((start ++ separated between (map f (take i xs))) ++ separator_before between i) ++ f z) e
    ∙ append_assoc (start ++ separated between (map f (take i xs))) (separator_before between i) (f (get_or xs i d))
    ∙ append_assoc start (separated between (map f (take i xs))) (separator_before between i ++ f (get_or xs i d))
    ∙ ap (λ z. start ++ z) (sym (separated-more between f xs i d h))

-- and its end
pub items-written : {A : Type 0} {w : List ℕ} (start : List ℕ) (between : List ℕ) (f : A → List ℕ) (xs : List A) (i : ℕ)
    → w ≡ start ++ separated between (map f (take i xs)) → length xs ≤ i → w ≡ start ++ separated between (map f xs)
items-written start between f xs i so_far h = so_far ∙ ap (λ ys. start ++ separated between (map f ys)) (take_all i xs h)

-- ---- lines

-- a turn of a loop that writes the lines of xs
pub lines-written : {A : Type 0} {w u : List ℕ} (start : List ℕ) (f : A → Lines) (xs : List A) (indent i : ℕ) (x d : A)
    → w ≡ start ++ in_lines (map f (take i xs)) indent → i < length xs → x ≡ get_or xs i d → u ≡ w ++ f x indent
    → u ≡ start ++ in_lines (map f (take (i + 1) xs)) indent
lines-written start f xs indent i x d so_far h e q =
    q ∙ ap (λ z. z ++ f x indent) so_far ∙ ap (λ z. (start ++ in_lines (map f (take i xs)) indent) ++ f z indent) e
    ∙ flat_map_more (λ (l : Lines). l indent) start (map f (take i xs)) (f (get_or xs i d))
    ∙ ap (λ ls. start ++ in_lines ls indent) (sym (map_more f xs i d h))

pub all-lines-written : {A : Type 0} {w : List ℕ} (start : List ℕ) (f : A → Lines) (xs : List A) (indent i : ℕ)
    → w ≡ start ++ in_lines (map f (take i xs)) indent → length xs ≤ i → w ≡ start ++ in_lines (map f xs) indent
all-lines-written start f xs indent i so_far h = so_far ∙ ap (λ ys. start ++ in_lines (map f ys) indent) (take_all i xs h)

-- ---- numbered lines

from-one : {A : Type 0} (f : ℕ → A → List ℕ) (n : ℕ) (xs : List A) (x : A) → lines_from f n (xs ++ x ∷ []) ≡ lines_from f n xs ++ f (n + length xs) x
from-one f n [] x = append-nil (f n x) ∙ ap (λ k. f k x) (omega arith)
from-one f n (y ∷ xs) x =
    ap (λ z. f n y ++ z) (from-one f (suc n) xs x) ∙ sym (append_assoc (f n y) (lines_from f (suc n) xs) (f (suc n + length xs) x))
    ∙ ap (λ k. (f n y ++ lines_from f (suc n) xs) ++ f k x) (omega arith)

-- a turn of a loop that writes the lines of xs by their numbers
pub numbered-written : {A : Type 0} {w u : List ℕ} (start : List ℕ) (f : ℕ → A → List ℕ) (xs : List A) (i : ℕ) (x d : A)
    → w ≡ start ++ lines_from f 0 (take i xs) → i < length xs → x ≡ get_or xs i d → u ≡ w ++ f i x
    → u ≡ start ++ lines_from f 0 (take (i + 1) xs)
numbered-written start f xs i x d so_far h e q =
    let n : 0 + length (take i xs) ≡ i = omega (arith, length-take-le i xs (omega arith)) in
    q ∙ ap (λ z. z ++ f i x) so_far ∙ ap (λ z. (start ++ lines_from f 0 (take i xs)) ++ f i z) e
    ∙ append_assoc start (lines_from f 0 (take i xs)) (f i (get_or xs i d))
    ∙ ap (λ k. start ++ (lines_from f 0 (take i xs) ++ f k (get_or xs i d))) (sym n)
    ∙ ap (λ z. start ++ z) (sym (from-one f 0 (take i xs) (get_or xs i d)))
    ∙ ap (λ ys. start ++ lines_from f 0 ys) (sym (take_more xs i d h))

pub all-numbered-written : {A : Type 0} {w : List ℕ} (start : List ℕ) (f : ℕ → A → List ℕ) (xs : List A) (i : ℕ)
    → w ≡ start ++ lines_from f 0 (take i xs) → length xs ≤ i → w ≡ start ++ lines_from f 0 xs
all-numbered-written start f xs i so_far h = so_far ∙ ap (λ ys. start ++ lines_from f 0 ys) (take_all i xs h)

-- the same, where the loop goes over a slice of them
pub numbered-slice-written : {A : Type 0} {w u : List ℕ} (start : List ℕ) (f : ℕ → A → List ℕ) (xs s : List A) (i : ℕ) (x d : A) → s ≡ xs
    → w ≡ start ++ lines_from f 0 (take i xs) → i < length s → x ≡ get_or s i d → u ≡ w ++ f i x
    → u ≡ start ++ lines_from f 0 (take (i + 1) xs)
numbered-slice-written {A = A} start f xs s i x d same so_far h e q =
    let lt : i < length xs = subst (λ (ys : List A). i < length ys) same h in
    numbered-written start f xs i x d so_far lt (e ∙ ap (λ (ys : List A). get_or ys i d) same) q
