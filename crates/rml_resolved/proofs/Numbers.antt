-- Names no two of which are the same have one number each.
use Rattle.std.proofs.Common.{◌≡◌, ℕ, zero, suc, ◌<◌, Bool, true, false, List, [], ◌∷◌, length, get_or, refl, sym, ap, ◌∙◌, subst, inl, inr, arith}
use Rattle.std.specs.Prelude.{◌&&◌, ◌⊎◌, not}
use Rattle.std.specs.List.{list_any}
use Rattle.std.specs.Cmp.Lexicographic.{same_text}
use Rattle.std.proofs.lemmas.List.{get_or_default}
use Rattle.std.proofs.lemmas.List.Folds.{list_any_at}
use Rattle.std.proofs.lemmas.Map.Views.{Contains-from_any}
use Rattle.rml_base.specs.Numbering.{IsDistinct, same}
use Rattle.rml_base.proofs.Callers.{same-refl}
use Rattle.rml_resolved.specs.Differ.{all_differ}
use Rattle.rml_resolved.proofs.Facts.{both}
use Rattle.rml_resolved.proofs.Rounds.{is_it}

pub same_told : (x y : List ℕ) → same x y ≡ true → x ≡ y
same_told x y e = same_text x y (sym e)

none_known : (b : Bool) → not b ≡ true → b ≡ true → ⊥
none_known true h e = absurd (cc)
none_known false h e = absurd (cc)

-- a name is not the same as a later one
no_later : (names : List (List ℕ)) (i j : ℕ) → all_differ same names ≡ true → i < j → j < length names → get_or names i [] ≡ get_or names j [] → ⊥
no_later [] i j h less inside e = absurd (omega arith)
no_later (n ∷ ns) i zero h less inside e = absurd (omega arith)
no_later (n ∷ ns) zero (suc j) h less inside e =
    let two = both (not (list_any (same n) ns)) (all_differ same ns) h in
    let here : same n (get_or ns j []) ≡ true = subst (λ (b : List ℕ). same n b ≡ true) e (same-refl n) in
    let within : j < length ns = omega arith in
    none_known (list_any (same n) ns) two.first (list_any_at (same n) ns j [] within here)
no_later (n ∷ ns) (suc i) (suc j) h less inside e =
    let two = both (not (list_any (same n) ns)) (all_differ same ns) h in
    let within : j < length ns = omega arith in
    let below : i < j = omega arith in
    no_later ns i j two.second below within e

order : (i j : ℕ) → (i < j) ⊎ ((j < i) ⊎ (i ≡ j))
order i j = grind arith

pub one_number : (names : List (List ℕ)) → all_differ same names ≡ true → IsDistinct names
one_number names h i j inside-i inside-j e =
    elim (order i j) [
      | inl less ↦ absurd (no_later names i j h less inside-j e)
      | inr more ↦ elim more [ inl less ↦ absurd (no_later names j i h less inside-i (sym e)) | inr alike ↦ alike ]
    ]

-- the first of such names is none of the others, which are such names too
first_apart : (n : List ℕ) (ns : List (List ℕ)) → IsDistinct (n ∷ ns) → list_any (same n) ns ≡ true → ⊥
first_apart n ns d h =
    let there = Contains-from_any {eq = same} same_told n ns h in
    let inside : there.0 < length ns = there.1 in
    let e : n ≡ get_or ns there.0 [] = sym there.2 ∙ get_or_default ns there.0 n [] inside in
    let alike : 0 ≡ suc there.0 = d 0 (suc there.0) (omega arith) (omega arith) e in
    absurd (omega arith)

rest_apart : (n : List ℕ) (ns : List (List ℕ)) → IsDistinct (n ∷ ns) → IsDistinct ns
rest_apart n ns d i j inside-i inside-j e = (let alike : suc i ≡ suc j = d (suc i) (suc j) (omega arith) (omega arith) e in omega arith)

pub all_apart : (names : List (List ℕ)) → IsDistinct names → all_differ same names ≡ true
all_apart [] d = refl
all_apart (n ∷ ns) d =
    elim (is_it (list_any (same n) ns)) [
      | inl e ↦ absurd (first_apart n ns d e)
      | inr e ↦ rw (e, all_apart ns (rest_apart n ns d)) refl
    ]
