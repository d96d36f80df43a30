-- Integers and reals in words of their own.
use Rattle.std.proofs.Common.{◌≡◌, ℕ, ◌<◌, Bool, true, false, List, [], ◌∷◌, ◌++◌, length, take, drop, refl, sym, ap, ◌∙◌, arith, Option, Some, None, append-nil, ◌⊎◌, inl, inr, lt-ltb}
use Rattle.std.specs.Prelude.{◌==◌, nat_lt}
use Rattle.std.specs.List.{list_all, prefix_len}
use Rattle.std.proofs.lemmas.List.{take-append-drop}
use Rattle.std.proofs.lemmas.List.Folds.{length-prefix_len}
use Rattle.std.proofs.lemmas.Bool.Decides.{nat_tests}
use Rattle.rml_lex.specs.declared.piece.Piece.{Piece}
use Rattle.rml_lex.specs.Bytes.{is_digit, is_dash, is_exponent, is_minus}
use Rattle.rml_lex.specs.Machine.{ends, ends_or, digits_then}
use Rattle.rml_lex.specs.Number.{exponent, fraction, int_piece, number, power, power_digits, real, real_end}
use Rattle.rml_lex.specs.Spelling.{whole}
use Rattle.rml_lex.specs.Spells.{IsDigits, IsSign, NoSign, Signed, IsExponent, IsRealEnd, Fraction, FractionAndExponent, ExponentAlone}
use Rattle.rml_lex.proofs.Comments.{is-eq, not-eq}
use Rattle.rml_lex.proofs.Characters.{both-ways, two-ways, and-left, and-right}
use Rattle.rml_lex.proofs.Literals.{ends-only}
use Rattle.rml_lex.proofs.Longests.{all-prefix}

-- digits at the front
abbrev NoDigit : List ℕ → Type 0
NoDigit [] = Unit {0}
NoDigit (b ∷ bs) = is_digit b ≡ false

digits-front : (ds rest : List ℕ) → list_all is_digit ds ≡ true → NoDigit rest → prefix_len is_digit (ds ++ rest) ≡ length ds
digits-front [] [] all none = refl
digits-front [] (b ∷ bs) all none = rw none refl
digits-front (d ∷ ds) rest all none =
    let one = and-left (is_digit d) (list_all is_digit ds) all in
    let more = digits-front ds rest (and-right (is_digit d) (list_all is_digit ds) all) none in
    rw (one, more) (omega arith)

take-front : (xs ys : List ℕ) → take (length xs) (xs ++ ys) ≡ xs
take-front [] ys = refl
take-front (x ∷ xs) ys = ap (λ l. x ∷ l) (take-front xs ys)

drop-front : (xs ys : List ℕ) → drop (length xs) (xs ++ ys) ≡ ys
drop-front [] ys = refl
drop-front (x ∷ xs) ys = drop-front xs ys

pub digits-whole : (more : List ℕ → List ℕ → Option Piece) (ds rest : List ℕ) → IsDigits ds → NoDigit rest → digits_then more (ds ++ rest) ≡ more ds rest
digits-whole more ds rest (pos, all) none = rw (digits-front ds rest all none, lt-ltb 0 (length ds) pos, take-front ds rest, drop-front ds rest) refl

record Digits (more : List ℕ → List ℕ → Option Piece) (bytes : List ℕ) (p : Piece) : Type 0 where
  digits : List ℕ
  rest : List ℕ
  spelled : bytes ≡ digits ++ rest
  are : IsDigits digits
  then_is : more digits rest ≡ Some p

digits-read : (more : List ℕ → List ℕ → Option Piece) (bytes : List ℕ) (p : Piece) → digits_then more bytes ≡ Some p → Digits more bytes p
digits-read more bytes p e = elim (two-ways (nat_lt 0 (prefix_len is_digit bytes))) [
  | inl some ↦ record {
    digits = take (prefix_len is_digit bytes) bytes;
    rest = drop (prefix_len is_digit bytes) bytes;
    spelled = sym (take-append-drop (prefix_len is_digit bytes) bytes);
    are = ((let pos : 0 < prefix_len is_digit bytes = grind (arith, nat_tests) in rw (length-prefix_len is_digit bytes) pos), all-prefix is_digit bytes);
    then_is = rw some at e;
  }
  | inr none ↦ absurd (let z : None ≡ Some p = rw none at e in cc z)
]

-- digits alone
digits-alone : (ds : List ℕ) → IsDigits ds → power_digits ds ≡ Some real
digits-alone ds are = rw (← append-nil ds) (digits-whole (λ _. ends real) ds [] are tt)

power_digits-read : (bytes : List ℕ) (p : Piece) → power_digits bytes ≡ Some p → IsDigits bytes × (p ≡ real)
power_digits-read bytes p e =
    let d = digits-read (λ _. ends real) bytes p e in
    let z = ends-only real p d.rest d.then_is in
    (rw (d.spelled, z.0, append-nil) d.are, z.1)

-- a first digit
record FirstDigit (s : List ℕ) : Type 0 where
  d : ℕ
  ds : List ℕ
  spelled : s ≡ d ∷ ds
  is : is_digit d ≡ true

first-digit : (s : List ℕ) → IsDigits s → FirstDigit s
first-digit [] (pos, all) = absurd (omega arith)
first-digit (d ∷ ds) (pos, all) = record { d = d; ds = ds; spelled = refl; is = and-left (is_digit d) (list_all is_digit ds) all }

not-digit : (b n : ℕ) → is_digit b ≡ true → is_digit n ≡ false → (b == n) ≡ false
not-digit b n e f = not-eq b n (λ is. let z : is_digit b ≡ false = rw is f in both-ways (is_digit b) e z)

no-minus : (d : ℕ) → is_digit d ≡ true → is_minus d ≡ false
no-minus d e = rw (not-digit d 45 e refl, not-digit d 126 e refl) refl

-- the digits of an exponent, with or without a sign
record Power (bytes : List ℕ) : Type 0 where
  sign : List ℕ
  is_negative : Bool
  digits : List ℕ
  spelled : bytes ≡ sign ++ digits
  sign_is : IsSign sign is_negative
  are : IsDigits digits

power-read : (bytes : List ℕ) (p : Piece) → power bytes ≡ Some p → Power bytes × (p ≡ real)
power-read [] p e = absurd cc
power-read (b ∷ bs) p e = elim (two-ways (is_minus b)) [
  | inl m ↦ (let z = power_digits-read bs p (signed b bs m e) in (record { sign = b ∷ []; is_negative = true; digits = bs; spelled = refl; sign_is = Signed b refl m; are = z.0 }, z.1))
  | inr m ↦ (let z = power_digits-read (b ∷ bs) p (plain b bs m e) in (record { sign = []; is_negative = false; digits = b ∷ bs; spelled = refl; sign_is = NoSign refl; are = z.0 }, z.1))
] where
  signed : (b : ℕ) (bs : List ℕ) → is_minus b ≡ true → power (b ∷ bs) ≡ Some p → power_digits bs ≡ Some p
  signed b bs m e = rw m at e

  plain : (b : ℕ) (bs : List ℕ) → is_minus b ≡ false → power (b ∷ bs) ≡ Some p → power_digits (b ∷ bs) ≡ Some p
  plain b bs m e = rw m at e

power-minus : (b : ℕ) (bs : List ℕ) → is_minus b ≡ true → power (b ∷ bs) ≡ power_digits bs
power-minus b bs e = rw e refl

power-plain : (b : ℕ) (bs : List ℕ) → is_minus b ≡ false → power (b ∷ bs) ≡ power_digits (b ∷ bs)
power-plain b bs e = rw e refl

power-whole : (sign ds : List ℕ) (n : Bool) → IsSign sign n → IsDigits ds → power (sign ++ ds) ≡ Some real
power-whole sign ds n (NoSign e) are = let f = first-digit ds are in rw (e, f.spelled) (power-plain f.d f.ds (no-minus f.d f.is) ∙ ap (λ l. power_digits l) (sym f.spelled) ∙ digits-alone ds are)
power-whole sign ds n (Signed b e m) are = rw e (power-minus b ds m ∙ digits-alone ds are)

-- exponents
exponent-on : (b : ℕ) (bs : List ℕ) → is_exponent b ≡ true → exponent (b ∷ bs) ≡ power bs
exponent-on b bs e = rw e refl

exponent-off : (b : ℕ) (bs : List ℕ) → is_exponent b ≡ false → exponent (b ∷ bs) ≡ None
exponent-off b bs e = rw e refl

exponent-read : (bytes : List ℕ) (p : Piece) → exponent bytes ≡ Some p → IsExponent bytes × (p ≡ real)
exponent-read [] p e = absurd cc
exponent-read (b ∷ bs) p e = elim (two-ways (is_exponent b)) [
  | inl x ↦ (let z = power-read bs p (sym (exponent-on b bs x) ∙ e) in (record { e = b; sign = z.0.sign; is_negative = z.0.is_negative; digits = z.0.digits; spelled = ap (λ l. b ∷ l) z.0.spelled; e_is = x; sign_is = z.0.sign_is; digits_are = z.0.are }, z.1))
  | inr x ↦ absurd (let z : None ≡ Some p = sym (exponent-off b bs x) ∙ e in cc z)
]

exponent-whole : (s : List ℕ) → IsExponent s → exponent s ≡ Some real
exponent-whole s x = rw x.spelled (exponent-on x.e (x.sign ++ x.digits) x.e_is ∙ power-whole x.sign x.digits x.is_negative x.sign_is x.digits_are)

other-exponent : (b n : ℕ) → is_exponent b ≡ true → is_exponent n ≡ false → (b == n) ≡ false
other-exponent b n e f = not-eq b n (λ is. let z : is_exponent b ≡ false = rw is f in both-ways (is_exponent b) e z)

exponent-digit : (b : ℕ) → is_exponent b ≡ true → is_digit b ≡ false
exponent-digit b e = grind (arith, nat_tests)

exponent-no-digit : (s : List ℕ) → IsExponent s → NoDigit s
exponent-no-digit s x = rw x.spelled (exponent-digit x.e x.e_is)

-- what makes an integer a real
else-on : (p : Piece) (f : List ℕ → Option Piece) (b : ℕ) (bs : List ℕ) → ends_or p f (b ∷ bs) ≡ f (b ∷ bs)
else-on p f b bs = refl

else-read : (p q : Piece) (f : List ℕ → Option Piece) (bytes : List ℕ) → ends_or p f bytes ≡ Some q → ((bytes ≡ []) × (q ≡ p)) ⊎ (f bytes ≡ Some q)
else-read p q f [] e = inl (refl, cc)
else-read p q f (b ∷ bs) e = inr e

else-exponent : (p : Piece) (s : List ℕ) → IsExponent s → ends_or p exponent s ≡ Some real
else-exponent p s x = rw x.spelled (ap (λ l. exponent l) (sym x.spelled) ∙ exponent-whole s x)

point-on : (b : ℕ) (bs : List ℕ) → (b == 46) ≡ true → real_end (b ∷ bs) ≡ fraction bs
point-on b bs e = rw e refl

point-off : (b : ℕ) (bs : List ℕ) → (b == 46) ≡ false → real_end (b ∷ bs) ≡ exponent (b ∷ bs)
point-off b bs e = rw e refl

fraction-read : (bytes : List ℕ) (p : Piece) → fraction bytes ≡ Some p → IsRealEnd (46 ∷ bytes) × (p ≡ real)
fraction-read bytes p e =
    let d = digits-read (λ _. ends_or real exponent) bytes p e in
    elim (else-read real p exponent d.rest d.then_is) [
      | inl (none, is) ↦ (Fraction d.digits (ap (λ l. 46 ∷ l) (d.spelled ∙ (rw (none, append-nil) refl))) d.are, is)
      | inr more ↦ (let x = exponent-read d.rest p more in (FractionAndExponent d.digits d.rest (ap (λ l. 46 ∷ l) d.spelled) d.are x.0, x.1))
    ]

real_end-read : (bytes : List ℕ) (p : Piece) → real_end bytes ≡ Some p → IsRealEnd bytes × (p ≡ real)
real_end-read [] p e = absurd cc
real_end-read (b ∷ bs) p e = elim (two-ways (b == 46)) [
  | inl x ↦ rw (is-eq b 46 x) (fraction-read bs p (sym (point-on b bs x) ∙ e))
  | inr x ↦ (let z = exponent-read (b ∷ bs) p (sym (point-off b bs x) ∙ e) in (ExponentAlone z.0, z.1))
]

real_end-whole : (s : List ℕ) → IsRealEnd s → (NoDigit s) × (real_end s ≡ Some real) × (0 < length s)
real_end-whole s (Fraction ds e are) = rw e (refl, (rw (← append-nil ds) (digits-whole (λ _. ends_or real exponent) ds [] are tt)), omega arith)
real_end-whole s (FractionAndExponent ds x e are is) = rw e (refl, digits-whole (λ _. ends_or real exponent) ds x are (exponent-no-digit x is) ∙ else-exponent real x is, omega arith)
real_end-whole s (ExponentAlone x) = (
  exponent-no-digit s x,
  (rw x.spelled (point-off x.e (x.sign ++ x.digits) (other-exponent x.e 46 x.e_is refl) ∙ ap (λ l. exponent l) (sym x.spelled) ∙ exponent-whole s x)),
  (rw x.spelled (omega arith)),
)

-- numbers
pub record Real (bytes : List ℕ) : Type 0 where
  pub digits : List ℕ
  pub end : List ℕ
  pub spelled : bytes ≡ digits ++ end
  pub are : IsDigits digits
  pub end_is : IsRealEnd end

pub number-read : (is_negative : Bool) (bytes : List ℕ) (p : Piece) → number is_negative bytes ≡ Some p → (IsDigits bytes × (p ≡ int_piece is_negative bytes)) ⊎ (Real bytes × (p ≡ real))
number-read is_negative bytes p e =
    let d = digits-read (λ digits. ends_or (int_piece is_negative digits) real_end) bytes p e in
    elim (else-read (int_piece is_negative d.digits) p real_end d.rest d.then_is) [
      | inl (none, is) ↦ (let same : bytes ≡ d.digits = d.spelled ∙ (rw (none, append-nil) refl) in inl (rw same (d.are, is)))
      | inr more ↦ (let x = real_end-read d.rest p more in inr (record { digits = d.digits; end = d.rest; spelled = d.spelled; are = d.are; end_is = x.0 }, x.1))
    ]

pub int-whole : (is_negative : Bool) (ds : List ℕ) → IsDigits ds → number is_negative ds ≡ Some (int_piece is_negative ds)
int-whole is_negative ds are = ap (λ l. number is_negative l) (sym (append-nil ds)) ∙ digits-whole (λ digits. ends_or (int_piece is_negative digits) real_end) ds [] are tt

end-whole : (p : Piece) (s : List ℕ) → 0 < length s → real_end s ≡ Some real → ends_or p real_end s ≡ Some real
end-whole p [] pos e = absurd (omega arith)
end-whole p (b ∷ bs) pos e = e

pub real-whole : (is_negative : Bool) (ds end : List ℕ) → IsDigits ds → IsRealEnd end → number is_negative (ds ++ end) ≡ Some real
real-whole is_negative ds end are x =
    let z = real_end-whole end x in
    digits-whole (λ digits. ends_or (int_piece is_negative digits) real_end) ds end are z.0 ∙ end-whole (int_piece is_negative ds) end z.2 z.1

-- a number with its sign
digit-on : (d : ℕ) (ds : List ℕ) → is_digit d ≡ true → whole (d ∷ ds) ≡ number false (d ∷ ds)
digit-on d ds e = rw e refl

dash-on : (d : ℕ) (ds : List ℕ) → is_dash d ≡ false → whole (45 ∷ d ∷ ds) ≡ number true (d ∷ ds)
dash-on d ds e = rw e refl

signed-on : (sign : List ℕ) (n : Bool) (d : ℕ) (ds : List ℕ) → IsSign sign n → is_digit d ≡ true → whole (sign ++ d ∷ ds) ≡ number n (d ∷ ds)
signed-on sign n d ds (NoSign e) is = rw e (digit-on d ds is)
signed-on sign n d ds (Signed b e m) is = rw e (elim (two-ways (b == 45)) [
  | inl x ↦ rw (is-eq b 45 x) (dash-on d ds (not-digit d 45 is refl))
  | inr x ↦ (let t : b ≡ 126 = tilde b m x in rw t refl)
]) where
  tilde : (b : ℕ) → is_minus b ≡ true → (b == 45) ≡ false → b ≡ 126
  tilde b m x = is-eq b 126 (rw x at m)

pub signed-whole : (sign : List ℕ) (n : Bool) (ds more : List ℕ) → IsSign sign n → IsDigits ds → whole (sign ++ (ds ++ more)) ≡ number n (ds ++ more)
signed-whole sign n ds more is are = let f = first-digit ds are in rw f.spelled (signed-on sign n f.d (f.ds ++ more) is f.is)
