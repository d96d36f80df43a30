-- What stands behind a byte that is the last `/`, or behind none, is the last part of a path.
use Rattle.std.proofs.Common.{◌≡◌, ℕ, ◌<◌, ◌≤◌, ◌-◌, true, false, List, length, get_or, take, drop, ap, ◌∙◌, arith}
use Rattle.std.specs.Prelude.{◌==◌, nat_eq, not}
use Rattle.std.specs.List.{suffix_len}
use Rattle.std.proofs.lemmas.Bool.Decides.{nat_tests}
use Rattle.std.proofs.lemmas.List.{take_rest}
use Rattle.std.proofs.lemmas.List.Sums.{suffix_len_is}
use Rattle.rml_outlines.specs.Files.{last_part}

is_other : (c : ℕ) → (c ≡ 47 → ⊥) → not (nat_eq c 47) ≡ true
is_other c h = grind (arith, nat_tests)

is_slash : (c : ℕ) → c ≡ 47 → not (nat_eq c 47) ≡ false
is_slash c e = grind (arith, nat_tests)

last_part_is : (path : List ℕ) (n : ℕ) → n ≤ length path → ((k : ℕ) → n ≤ k → k < length path → get_or path k 0 ≡ 47 → ⊥) → (0 < n → get_or path (n - 1) 0 ≡ 47)
    → drop n path ≡ last_part path
unfolding last_part
last_part_is path n within behind slash =
    let s : suffix_len (λ c. not (c == 47)) path ≡ length path - n =
    suffix_len_is (λ c. not (c == 47)) path n 0 within (λ k from below. is_other (get_or path k 0) (behind k from below)) (λ some. is_slash (get_or path (n - 1) 0) (slash some)) in
    let e : n ≡ length path - suffix_len (λ c. not (c == 47)) path = omega (arith, s) in
    ap (λ m. drop m path) e

-- the same of the bytes that are taken from there
pub last_part_taken : (path : List ℕ) (n : ℕ) → n ≤ length path → ((k : ℕ) → n ≤ k → k < length path → get_or path k 0 ≡ 47 → ⊥) → (0 < n → get_or path (n - 1) 0 ≡ 47)
    → take (length path - n) (drop n path) ≡ last_part path
last_part_taken path n within behind slash = take_rest path n ∙ last_part_is path n within behind slash
