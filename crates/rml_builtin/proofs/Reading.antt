-- An integer that is written is read back.
use Rattle.std.proofs.Common.{◌≡◌, ℕ, suc, ◌^◌, ◌<◌, List, [], ◌∷◌, true, false, Some, length, refl, ap, ◌∙◌, arith, rules, ℤ, pos, negsuc, IsTrue}
use Rattle.std.specs.Prelude.{option_map, option_and_then, neg_ℤ}
use Rattle.std.specs.Str.{all_ascii_digits}
use Rattle.std.specs.Fmt.{decimal}
use Rattle.std.proofs.lemmas.Str.Parse.{IsNumeralModel, numerals_by_fold}
use Rattle.std.proofs.lemmas.Fmt.{digits_decimal, digits_value-decimal, decimal_nonempty}
use Rattle.std.proofs.lemmas.Int.{ints}
use Rattle.rml_value.specs.Range.{is_integer}
use Rattle.rml_builtin.specs.Decimal.{digits_after, natural_of, is_minus, signed, integer_of, read, decimal_of}

own : IsNumeralModel (λ ds. all_ascii_digits ds ≡ true) (digits_after 0)
own = numerals_by_fold _ (search rules) digits_after (search rules)

natural_of-digits : (ds : List ℕ) → all_ascii_digits ds ≡ true → 0 < length ds → natural_of ds ≡ Some (digits_after 0 ds)
natural_of-digits [] e h = absurd (omega arith)
natural_of-digits (c ∷ cs) e h = rw e refl

-- a digit is no minus
digit-no-minus : (c : ℕ) (cs : List ℕ) → all_ascii_digits (c ∷ cs) ≡ true → is_minus c ≡ false
digit-no-minus c cs e = grind arith

signed-digits : (ds : List ℕ) → all_ascii_digits ds ≡ true → 0 < length ds → signed ds ≡ Some (pos (digits_after 0 ds))
signed-digits [] e h = absurd (omega arith)
signed-digits (c ∷ cs) e h = rw (digit-no-minus c cs e) (ap (option_map pos) (natural_of-digits (c ∷ cs) e h))

signed-decimal_of : (n : ℤ) → IsTrue (is_integer n) → signed (decimal_of n) ≡ Some n
signed-decimal_of (pos n) h =
    let small : n < 2 ^ 64 = grind (arith, ints) in
    signed-digits (decimal n) (digits_decimal own n small) (decimal_nonempty n small) ∙ ap (λ m. Some (pos m)) (digits_value-decimal own n small)
signed-decimal_of (negsuc n) h =
    let small : suc n < 2 ^ 64 = grind (arith, ints) in
    ap (option_map (λ m. neg_ℤ (pos m))) (natural_of-digits (decimal (suc n)) (digits_decimal own (suc n) small) (decimal_nonempty (suc n) small))
    ∙ ap (λ m. Some (neg_ℤ (pos m))) (digits_value-decimal own (suc n) small)

pub read-decimal_of : (n : ℤ) → IsTrue (is_integer n) → read (decimal_of n) ≡ Some n
read-decimal_of n h = ap (option_and_then integer_of) (signed-decimal_of n h) ∙ (rw h refl)
