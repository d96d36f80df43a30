-- How loops write items: one after another, and by their numbers.
use Rattle.std.proofs.Common.{◌≡◌, ℕ, suc, ◌+◌, ◌<◌, List, [], ◌∷◌, ◌++◌, length, get_or, take, ap, subst, sym, ◌∙◌, append_assoc, append-nil, arith, Option, Some}
use Rattle.std.specs.Prelude.{IfSome, slice_get}
use Rattle.std.proofs.lemmas.List.{length-take-le, take_more}
use Rattle.std.proofs.lemmas.Option.{slice_get-get_or}
use Rattle.rml_builtin.specs.declared.row.Row.{Row}
use Rattle.rml_builtin.specs.Table.{name_of}
use Rattle.rml_code.specs.Text.{row_name, lines_from}

-- the name of a built-in whose number is in the table
pub named : (rows : List Row) (number : ℕ) (d : Row) (t : List ℕ) → number < length rows → IfSome (slice_get rows number) (λ row. t ≡ name_of row) → t ≡ row_name (slice_get rows number)
named rows number d t h named_so =
    let there : slice_get rows number ≡ Some (get_or rows number d) = slice_get-get_or rows number d h in
    let is : t ≡ name_of (get_or rows number d) = subst (λ (o : Option Row). IfSome o (λ row. t ≡ name_of row)) there named_so in
    is ∙ ap row_name (sym there)

from-one : {A : Type 0} (f : ℕ → A → List ℕ) (n : ℕ) (xs : List A) (x : A) → lines_from f n (xs ++ x ∷ []) ≡ lines_from f n xs ++ f (n + length xs) x
from-one f n [] x = append-nil (f n x) ∙ ap (λ k. f k x) (omega arith)
from-one f n (y ∷ xs) x =
    ap (λ z. f n y ++ z) (from-one f (suc n) xs x) ∙ sym (append_assoc (f n y) (lines_from f (suc n) xs) (f (suc n + length xs) x))
    ∙ ap (λ k. (f n y ++ lines_from f (suc n) xs) ++ f k x) (omega arith)

-- a turn of a loop that writes xs by their numbers
numbered-written : {A : Type 0} {w u : List ℕ} (start : List ℕ) (f : ℕ → A → List ℕ) (xs : List A) (i : ℕ) (x d : A)
    → w ≡ start ++ lines_from f 0 (take i xs) → i < length xs → x ≡ get_or xs i d → u ≡ w ++ f i x
    → u ≡ start ++ lines_from f 0 (take (i + 1) xs)
numbered-written start f xs i x d so_far h e q =
    let n : 0 + length (take i xs) ≡ i = omega (arith, length-take-le i xs (omega arith)) in
    q ∙ ap (λ z. z ++ f i x) so_far ∙ ap (λ z. (start ++ lines_from f 0 (take i xs)) ++ f i z) e
    ∙ append_assoc start (lines_from f 0 (take i xs)) (f i (get_or xs i d))
    ∙ ap (λ k. start ++ (lines_from f 0 (take i xs) ++ f k (get_or xs i d))) (sym n)
    ∙ ap (λ z. start ++ z) (sym (from-one f 0 (take i xs) (get_or xs i d)))
    ∙ ap (λ ys. start ++ lines_from f 0 ys) (sym (take_more xs i d h))

-- the same, where the loop goes over a slice of them
pub numbered-slice-written : {A : Type 0} {w u : List ℕ} (start : List ℕ) (f : ℕ → A → List ℕ) (xs s : List A) (i : ℕ) (x d : A) → s ≡ xs
    → w ≡ start ++ lines_from f 0 (take i xs) → i < length s → x ≡ get_or s i d → u ≡ w ++ f i x
    → u ≡ start ++ lines_from f 0 (take (i + 1) xs)
numbered-slice-written {A = A} start f xs s i x d same so_far h e q =
    let lt : i < length xs = subst (λ (ys : List A). i < length ys) same h in
    numbered-written start f xs i x d so_far lt (e ∙ ap (λ (ys : List A). get_or ys i d) same) q
