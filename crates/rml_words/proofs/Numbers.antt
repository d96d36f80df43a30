-- Digits, and the numbers that they stand for.
use Rattle.std.proofs.Common.{◌≡◌, ℕ, ◌+◌, ◌-◌, ◌*◌, ◌^◌, ◌<◌, ◌≤◌, true, false, List, length, take, get_or, refl, sym, ap, ◌∙◌, arith, IsTrue}
use Rattle.std.specs.List.{list_all}
use Rattle.std.specs.Char.{is_ascii_digit}
use Rattle.std.proofs.lemmas.List.Folds.{list_all_at}
use Rattle.std.proofs.lemmas.List.Sums.{fold_more}
use Rattle.std.proofs.Math.Nat.{pow-succ', pow-le-pow_right}
use Rattle.rml_words.specs.Numbers.{value_of}
use Rattle.rml_words.specs.Reading.{is_numeral}

digit-bounds : (b : ℕ) → is_ascii_digit b ≡ true → (48 ≤ b) × (b ≤ 57)
digit-bounds b e = grind arith

pub digit-at : (digits : List ℕ) (i : ℕ) → list_all is_ascii_digit digits ≡ true → i < length digits → (48 ≤ get_or digits i 0) × (get_or digits i 0 ≤ 57)
digit-at digits i e lt =
    digit-bounds (get_or digits i 0) (elim (is_ascii_digit (get_or digits i 0)) as (λ v. is_ascii_digit (get_or digits i 0) ≡ v → v ≡ true) [
      | true ↦ λ h. refl
      | false ↦ λ h. sym (list_all_at is_ascii_digit digits i 0 lt h) ∙ e
    ] refl)

pub next-value : (digits : List ℕ) (i : ℕ) → i < length digits → value_of (take (i + 1) digits) ≡ 10 * value_of (take i digits) + (get_or digits i 0 - 48)
next-value digits i lt = fold_more (λ n d. 10 * n + (d - 48)) 0 digits i 0 lt

pub few-digits : (value i : ℕ) → i < 13 → value < 10 ^ i → value < 1000000000000
few-digits value i lt b = let most : 10 ^ i ≤ 10 ^ 12 = pow-le-pow_right {n = 10} (omega arith) {i = i} {j = 12} (omega arith) in omega arith

pub one-digit : (value digit i : ℕ) → value < 10 ^ i → digit ≤ 57 → 10 * value + (digit - 48) < 10 ^ (i + 1)
one-digit value digit i b le = let more : 10 ^ (i + 1) ≡ 10 * 10 ^ i = ap (λ k. 10 ^ k) (omega arith) ∙ pow-succ' 10 i in omega arith

pub numeral-few : (word : List ℕ) → IsTrue (is_numeral word) → length word ≤ 13
numeral-few word e = grind arith
