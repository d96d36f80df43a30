-- Loops over the places of a table.
use Rattle.std.proofs.Common.{◌≡◌, ℕ, zero, suc, ◌+◌, ◌<◌, List, [], ◌∷◌, length, drop, refl, sym, ap, ◌∙◌, arith}
use Rattle.std.specs.Prelude.{Bool, Option, None, Some, nat_eq, filter, slice_get}
use Rattle.std.specs.Map.{keys_of}
use Rattle.std.specs.Option.{option_map_or}
use Rattle.rml_tables.specs.Words.{with_each, with_name}
use Rattle.rml_signatures.specs.Numbers.{added}
use Rattle.rml_signatures.proofs.Turns.{with-filtered}

-- what stands at a place is the first behind those before it
pub drop-get : {X : Type 0} (xs : List X) (i : ℕ) (x : X) → slice_get xs i ≡ Some x → drop i xs ≡ x ∷ drop (i + 1) xs
drop-get [] i x e = absurd (cc e)
drop-get (y ∷ ys) zero x e = let h : y ≡ x = cc in ap (λ z. z ∷ ys) h
drop-get (y ∷ ys) (suc i) x e = let h : suc (i + 1) ≡ suc i + 1 = omega arith in drop-get ys i x e ∙ ap (λ k. x ∷ drop k (y ∷ ys)) h

-- a place below the length has something
pub there : {X : Type 0} {Y : Type 0} (xs : List X) (i : ℕ) → i < length xs → slice_get xs i ≡ None → Y
there [] i lt e = absurd (omega arith)
there (x ∷ xs) zero lt e = absurd (cc e)
there (x ∷ xs) (suc i) lt e = there xs i (omega arith) e

-- a turn of a loop that adds the names of a table
pub names-more : {V : Type 0} (table : List (ℕ × V)) (i : ℕ) (o : Option (ℕ × V)) (whole old new : List ℕ) → i < length table → o ≡ slice_get table i
    → whole ≡ with_each nat_eq old (keys_of (drop i table)) → new ≡ option_map_or (λ e. with_name nat_eq old e.0) o old → whole ≡ with_each nat_eq new (keys_of (drop (i + 1) table))
names-more {V} table i None whole old new lt at before here = there table i lt (sym at)
names-more {V} table i (Some e) whole old new lt at before here =
    before ∙ ap (λ xs. with_each nat_eq old (keys_of xs)) (drop-get table i e (sym at)) ∙ ap (λ ns. with_each nat_eq ns (keys_of (drop (i + 1) table))) (sym here)

-- the same of those names that pass a test
pub filtered-more : {V : Type 0} (test : ℕ → Bool) (table : List (ℕ × V)) (i : ℕ) (o : Option (ℕ × V)) (whole old new : List ℕ) → i < length table → o ≡ slice_get table i
    → whole ≡ with_each nat_eq old (filter test (keys_of (drop i table))) → new ≡ option_map_or (λ e. added old e.0 (test e.0)) o old
    → whole ≡ with_each nat_eq new (filter test (keys_of (drop (i + 1) table)))
filtered-more {V} test table i None whole old new lt at before here = there table i lt (sym at)
filtered-more {V} test table i (Some e) whole old new lt at before here =
    before ∙ ap (λ xs. with_each nat_eq old (filter test (keys_of xs))) (drop-get table i e (sym at))
    ∙ with-filtered test old e.0 (keys_of (drop (i + 1) table)) (test e.0) refl
    ∙ ap (λ ns. with_each nat_eq ns (filter test (keys_of (drop (i + 1) table)))) (sym here)
