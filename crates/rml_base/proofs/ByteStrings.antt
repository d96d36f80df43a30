-- When numbers are bytes.
use Rattle.std.proofs.Common.{◌≡◌, ℕ, suc, ◌<◌, Bool, true, false, List, [], ◌∷◌, ◌++◌, refl, ◌∙◌, arith}
use Rattle.std.specs.Prelude.{◌&&◌, nat_lt, if◌then◌else◌}
use Rattle.std.specs.List.{list_all}
use Rattle.std.proofs.Math.ListN.{get_or}
use Rattle.std.proofs.lemmas.Bool.Decides.{nat_tests}
use Rattle.std.proofs.lemmas.List.Folds.{list_all-append}
use Rattle.rml_base.specs.Bytes.{are_bytes, IsBytes, AreBytes}
use Rattle.rml_base.specs.Numbering.{is_known, with_name}

below_is_lt : (n : ℕ) → n < 256 → nat_lt n 256 ≡ true
below_is_lt n h = grind (arith, nat_tests)

pub both_true : (a b : Bool) → a ≡ true → b ≡ true → (a && b) ≡ true
both_true true b e d = d
both_true false b e d = absurd (cc)

-- a list is of bytes where each of its items is one
pub each_below : (bytes : List ℕ) → ((i : ℕ) → get_or bytes i 0 < 256) → IsBytes bytes
each_below [] each = refl
each_below (c ∷ cs) each = both_true (nat_lt c 256) (are_bytes cs) (below_is_lt c (each 0)) (each_below cs (λ i. each (suc i)))

-- another name among byte strings
pub with_name-bytes : (names new : List (List ℕ)) (bytes : List ℕ) → new ≡ with_name names bytes → AreBytes names → IsBytes bytes → AreBytes new
with_name-bytes names new bytes e all one = rw e (elim (is_known names bytes) as (λ v. list_all are_bytes (if v then names else names ++ bytes ∷ []) ≡ true) [
  | true ↦ all
  | false ↦ list_all-append are_bytes names (bytes ∷ []) ∙ both_true (list_all are_bytes names) (list_all are_bytes (bytes ∷ [])) all (both_true (are_bytes bytes) true one refl)
])
