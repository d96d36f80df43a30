-- Integers, chars and texts: what is printed is what the lexer's sentences say of them.
use Rattle.std.proofs.Common.{◌≡◌, ℕ, zero, suc, ◌+◌, ◌-◌, ◌*◌, ◌/◌, ◌%◌, ◌^◌, ◌<◌, ◌≤◌, Bool, true, false, List, [], ◌∷◌, ◌++◌, length, refl, sym, ◌∙◌, arith, inl, inr, length-append}
use Rattle.std.specs.Prelude.{◌==◌, ◌&&◌, nat_le, ℤ, All}
use Rattle.std.specs.Fmt.{decimal, signed_decimal}
use Rattle.std.specs.List.{flat_map}
use Rattle.std.proofs.lemmas.Bool.Decides.{nat_tests}
use Rattle.std.proofs.lemmas.Fmt.{decimal_by_steps}
use Rattle.std.proofs.lemmas.List.Folds.{list_all-append}
use Rattle.std.proofs.lemmas.Grind.{fold-append}
use Rattle.rml_lex.specs.Bytes.{is_digit, is_plain, number_from}
use Rattle.rml_lex.specs.Number.{int_value, limit}
use Rattle.rml_lex.specs.Spells.{IsDigits, NoSign, Signed, IsInt, IsCharacter, Itself, Escaped, ThreeDigits, AreCharacters, Nothing, Then, IsText}
use Rattle.rml_lex.proofs.Callers.{is-eq, three-value, two-ways}
use Rattle.rml_print.specs.Spelling.{escaped, numbered, quoted}

-- integers
record IsNumber (n : ℕ) (digits : List ℕ) : Type 0 where
  are : IsDigits digits
  value : number_from 0 digits ≡ n

digit-is : (d : ℕ) → d < 10 → is_digit (48 + d) ≡ true
digit-is d h = grind (arith, nat_tests)

one-digit : (n : ℕ) → n < 10 → IsNumber n ((48 + n) ∷ [])
one-digit n h = record { are = (omega arith, rw (digit-is n h) refl); value = omega arith }

last-digit : (n : ℕ) → n % 10 < 10
last-digit n = omega arith

more-digits : (n : ℕ) (ds : List ℕ) → 10 ≤ n → IsNumber (n / 10) ds → IsNumber n (ds ++ (48 + n % 10) ∷ [])
more-digits n ds le is =
    let pos : 0 < length ds = is.are.0 in
    let value : number_from 0 ds ≡ n / 10 = is.value in
    let split : number_from 0 (ds ++ (48 + n % 10) ∷ []) ≡ 10 * number_from 0 ds + (48 + n % 10 - 48) = fold-append (λ (a : ℕ) (d : ℕ). 10 * a + (d - 48)) 0 ds ((48 + n % 10) ∷ []) in
    record {
      are = (omega (arith, length-append ds ((48 + n % 10) ∷ [])), list_all-append is_digit ds ((48 + n % 10) ∷ []) ∙ rw (is.are.1, digit-is (n % 10) (last-digit n)) refl);
      value = omega arith;
    }

decimal-is : (n : ℕ) → n < 2 ^ 64 → IsNumber n (decimal n)
decimal-is n h = decimal_by_steps IsNumber one-digit more-digits n h

pub int-spelled : (i : ℤ) (n : Bool) (v : ℕ) → v ≤ limit n → i ≡ int_value n v → (m : Bool) × (w : ℕ) × IsInt (signed_decimal i) m w × (w ≤ limit m) × (i ≡ int_value m w)
int-spelled i false v le e =
    let d = decimal-is v (omega arith) in
    rw e (false, v, record { sign = []; digits = decimal v; spelled = refl; sign_is = NoSign refl; digits_are = d.are; value = sym d.value }, le, refl)
int-spelled i true zero le e =
    let d = decimal-is 0 (omega arith) in
    rw e (false, 0, record { sign = []; digits = decimal 0; spelled = refl; sign_is = NoSign refl; digits_are = d.are; value = sym d.value }, omega arith, refl)
int-spelled i true (suc v) le e =
    let d = decimal-is (suc v) (omega arith) in
    rw e (true, suc v, record { sign = 45 ∷ []; digits = decimal (suc v); spelled = refl; sign_is = Signed 45 refl refl; digits_are = d.are; value = sym d.value }, le, refl)

-- characters
three-written : (b : ℕ) → b < 256 → IsCharacter (numbered b) b
three-written b h =
    let x : is_digit (48 + b / 100) ≡ true = digit-is (b / 100) (omega arith) in
    let y : is_digit (48 + b / 10 % 10) ≡ true = digit-is (b / 10 % 10) (omega arith) in
    let z : is_digit (48 + b % 10) ≡ true = digit-is (b % 10) (omega arith) in
    ThreeDigits (48 + b / 100) (48 + b / 10 % 10) (48 + b % 10) refl (rw (x, y, z) refl) (omega (arith, three-value (48 + b / 100) (48 + b / 10 % 10) (48 + b % 10))) (omega arith)

plain-is : (b : ℕ) → (b == 92) ≡ false → (b == 34) ≡ false → (nat_le 32 b && nat_le b 126) ≡ true → is_plain b ≡ true
plain-is b e f g = grind (arith, nat_tests)

at-line : (b : ℕ) → b ≡ 10 → IsCharacter (escaped b) b
at-line b e = rw e (Escaped 110 refl refl)

at-tab : (b : ℕ) → b ≡ 9 → IsCharacter (escaped b) b
at-tab b e = rw e (Escaped 116 refl refl)

at-return : (b : ℕ) → b ≡ 13 → IsCharacter (escaped b) b
at-return b e = rw e (Escaped 114 refl refl)

at-slash : (b : ℕ) → b ≡ 92 → IsCharacter (escaped b) b
at-slash b e = rw e (Escaped 92 refl refl)

at-quote : (b : ℕ) → b ≡ 34 → IsCharacter (escaped b) b
at-quote b e = rw e (Escaped 34 refl refl)

pub escaped-is : (b : ℕ) → b < 256 → IsCharacter (escaped b) b
escaped-is b h = elim (two-ways (b == 10)) [
  | inl y ↦ at-line b (is-eq b 10 y)
  | inr no-line ↦ elim (two-ways (b == 9)) [
    | inl y ↦ at-tab b (is-eq b 9 y)
    | inr no-tab ↦ elim (two-ways (b == 13)) [
      | inl y ↦ at-return b (is-eq b 13 y)
      | inr no-return ↦ elim (two-ways (b == 92)) [
        | inl y ↦ at-slash b (is-eq b 92 y)
        | inr no-slash ↦ elim (two-ways (b == 34)) [
          | inl y ↦ at-quote b (is-eq b 34 y)
          | inr no-quote ↦ elim (two-ways (nat_le 32 b && nat_le b 126)) [
            | inl y ↦ rw (no-line, no-tab, no-return, no-slash, no-quote, y) (Itself refl (plain-is b no-slash no-quote y))
            | inr n ↦ rw (no-line, no-tab, no-return, no-slash, no-quote, n) (three-written b h)
          ]
        ]
      ]
    ]
  ]
]

pub escaped-are : (bytes : List ℕ) → All (λ b. b < 256) bytes → AreCharacters (flat_map escaped bytes) bytes
escaped-are [] h = Nothing
escaped-are (b ∷ bs) h = Then (escaped b) b (flat_map escaped bs) bs (escaped-is b (h 0 0 (omega arith))) (escaped-are bs (λ k d lt. h (suc k) d (omega arith)))

pub quoted-text : (bytes : List ℕ) → All (λ b. b < 256) bytes → IsText (quoted bytes) bytes
quoted-text bytes h = (flat_map escaped bytes, refl, escaped-are bytes h)
