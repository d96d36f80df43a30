-- Numbers of known and of new names, as the table of names gives them.
use Rattle.std.proofs.Common.{◌≡◌, ℕ, ◌<◌, Bool, true, false, List, [], ◌∷◌, length, refl, sym, arith, append-nil, ap, ◌+◌, ◌≤◌}
use Rattle.std.specs.List.{list_any, position_or_len}
use Rattle.std.specs.Cmp.Lexicographic.{same_text}
use Rattle.std.proofs.Math.ListN.{get_or, get_or-append, length-append}
use Rattle.std.proofs.Math.Seq.{get_or-append_seam}
use Rattle.std.proofs.lemmas.List.Sums.{passes_at_first}
use Rattle.rml_base.specs.Numbering.{IsDistinct, GrowsBy, same, is_known, number_in, with_name}
use Rattle.rml_base.proofs.Numbered.{same-refl}
use Rattle.std.proofs.lemmas.List.Folds.{list_any_at}

place-none : (p : List ℕ → Bool) (xs : List (List ℕ)) → list_any p xs ≡ false → position_or_len p xs ≡ length xs
place-none p [] e = refl
place-none p (x ∷ xs) e = elim (p x) as (λ v. p x ≡ v → position_or_len p (x ∷ xs) ≡ length (x ∷ xs)) [
  | true ↦ λ h. absurd (let t : list_any p (x ∷ xs) ≡ true = rw h refl in cc (t, e))
  | false ↦ λ h. (let r : list_any p xs ≡ false = rw h at e in rw (h, place-none p xs r) (omega arith))
] refl

place-some : (p : List ℕ → Bool) (xs : List (List ℕ)) → list_any p xs ≡ true → position_or_len p xs < length xs
place-some p [] e = absurd (cc e)
place-some p (x ∷ xs) e = elim (p x) as (λ v. p x ≡ v → position_or_len p (x ∷ xs) < length (x ∷ xs)) [
  | true ↦ λ h. rw h (omega arith)
  | false ↦ λ h. (let r : list_any p xs ≡ true = rw h at e in let q = place-some p xs r in rw h (omega arith))
] refl

pub name-given : (names : List (List ℕ)) (b : List ℕ) → number_in names b < length (with_name names b)
name-given names b = elim (list_any (same b) names) as (λ v. list_any (same b) names ≡ v → number_in names b < length (with_name names b)) [
  | true ↦ λ h. rw h (place-some (same b) names h)
  | false ↦ λ h. rw (h, place-none (same b) names h) (omega (arith, length-append names (b ∷ [])))
] refl

pub name-bytes : (names : List (List ℕ)) (b : List ℕ) → get_or (with_name names b) (number_in names b) [] ≡ b
name-bytes names b = elim (list_any (same b) names) as (λ v. list_any (same b) names ≡ v → get_or (with_name names b) (number_in names b) [] ≡ b) [
  | true ↦ λ h. rw h (sym (same_text b _ (sym (passes_at_first (same b) names [] (place-some (same b) names h)))))
  | false ↦ λ h. rw (h, place-none (same b) names h) (get_or-append_seam names b [] [])
] refl

pub name-next : (names : List (List ℕ)) (b : List ℕ) → is_known names b ≡ false → number_in names b ≡ length names
name-next names b e = place-none (same b) names e

first-passes : (p : List ℕ → Bool) (xs : List (List ℕ)) (k : ℕ) → k < length xs → p (get_or xs k []) ≡ true → (position_or_len p xs < length xs) × (p (get_or xs (position_or_len p xs) []) ≡ true)
first-passes p xs k h e = let any = list_any_at p xs k [] h e in (place-some p xs any, passes_at_first p xs [] (place-some p xs any))

pub name-known : (names : List (List ℕ)) (k : ℕ) → IsDistinct names → k < length names → number_in names (get_or names k []) ≡ k
name-known names k d h =
    let b = get_or names k [] in
    let f = first-passes (same b) names k h (same-refl b) in
    d (number_in names b) k f.0 h (sym (same_text b _ (sym f.1)))

pub name-one : (names : List (List ℕ)) (b : List ℕ) → GrowsBy 1 names (with_name names b)
name-one names b = elim (is_known names b) as (λ v. is_known names b ≡ v → GrowsBy 1 names (with_name names b)) [
  | true ↦ λ h. ([], rw h (sym (append-nil names)), omega arith)
  | false ↦ λ h. (b ∷ [], rw h refl, omega arith)
] refl

pub name-old : (most k : ℕ) (names new : List (List ℕ)) → GrowsBy most names new → k < length names → get_or new k [] ≡ get_or names k []
name-old most k names new g h = rw g.1 (get_or-append names g.0 [] k h)

pub one-more : (names new : List (List ℕ)) (b : List ℕ) (i : ℕ) → new ≡ with_name names b → length names ≤ i → length new ≤ i + 1
one-more names new b i e h = let g = name-one names b in rw e (omega (arith, ap length g.1, length-append names g.0, g.2))
