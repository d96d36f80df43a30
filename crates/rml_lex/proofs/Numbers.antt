-- Integers and reals.
use Rattle.std.proofs.Common.{◌≡◌, ℕ, zero, suc, ◌+◌, ◌-◌, ◌*◌, ◌<◌, ◌≤◌, Bool, true, false, List, [], ◌∷◌, length, take, drop, get_or, refl, subst, arith, Option, add-zero}
use Rattle.std.specs.Prelude.{nat_le, ◌==◌, MatchOption}
use Rattle.std.specs.List.{prefix_len}
use Rattle.std.proofs.lemmas.Bool.Decides.{nat_tests}
use Rattle.std.proofs.Math.Seq.{drop-cons}
use Rattle.std.proofs.lemmas.Bool.{lt-leb}
use Rattle.rml_lex.specs.declared.piece.LexKind.TheVariants.{IntRange}
use Rattle.rml_lex.specs.declared.piece.Piece.{Piece}
use Rattle.rml_lex.specs.declared.piece.Piece.TheVariants as piece
use Rattle.rml_lex.specs.Bytes.{is_digit, is_exponent, is_minus, number_from}
use Rattle.rml_lex.specs.Machine.{ends, ends_or, Longest, Stuck}
use Rattle.rml_lex.specs.Number.{exponent, fraction, int_piece, limit, number, power, power_digits, real, real_end}
use Rattle.rml_lex.proofs.Longests.{ends-longest, ends_or-longest, ends_or-stuck, digits-longest, digits-stuck, follows-longest, follows-stuck, in_front, stuck_in_front, turned-length}

number-grows : (n : ℕ) (ds : List ℕ) → n ≤ number_from n ds
number-grows n [] = omega arith
number-grows n (d ∷ ds) = let h = number-grows (10 * n + (d - 48)) ds in omega (arith, h)

-- digits that give too much already
pub too_great : (is_negative : Bool) (ds : List ℕ) (value lim i : ℕ) → lim ≡ limit is_negative → i < length ds → number_from value (drop i ds) ≡ number_from 0 ds
    → lim < 10 * value + (get_or ds i 0 - 48) → piece.Faulty IntRange 0 ≡ int_piece is_negative ds
too_great is_negative ds value lim i el lt same over =
    let split : number_from value (drop i ds) ≡ number_from (10 * value + (get_or ds i 0 - 48)) (drop (suc i) ds) = rw (drop-cons ds i 0 lt) refl in
    let grown = number-grows (10 * value + (get_or ds i 0 - 48)) (drop (suc i) ds) in
    let no : nat_le (number_from 0 ds) (limit is_negative) ≡ false = lt-leb _ _ (omega (arith, split, same, grown)) in
    rw no refl

-- the length of a real, if there is one
abbrev pub FoundReal : (List ℕ → Option Piece) → List ℕ → Option ℕ → Type 0
FoundReal f bytes r = MatchOption r (Stuck f bytes) (λ n. Longest f bytes n real)

-- digits alone
pub digits-real : (bytes : List ℕ) (n : ℕ) → n ≡ length (take (prefix_len is_digit bytes) bytes) → 0 < n → Longest power_digits bytes n real
digits-real bytes n e pos =
    let l : Longest power_digits bytes (n + 0) real = digits-longest (λ _. ends real) bytes n 0 real e pos (ends-longest real (drop n bytes)) in
    subst (λ (k : ℕ). Longest power_digits bytes k real) (add-zero n) l

pub digits-none : (bytes : List ℕ) (n : ℕ) → n ≡ length (take (prefix_len is_digit bytes) bytes) → n ≡ 0 → Stuck power_digits bytes
digits-none bytes n e z = digits-stuck (λ _. ends real) bytes n e z

power-minus : (b : ℕ) (s : List ℕ) → is_minus b ≡ true → power (b ∷ s) ≡ power_digits s
power-minus b s e = rw e refl

power-else : (b : ℕ) (s : List ℕ) → is_minus b ≡ false → power (b ∷ s) ≡ power_digits (b ∷ s)
power-else b s e = rw e refl

pub signed-stuck : (bytes : List ℕ) (b : ℕ) (more : List ℕ) → bytes ≡ b ∷ more → is_minus b ≡ true → Stuck power_digits more → Stuck power bytes
signed-stuck bytes b more e minus stuck = rw e (stuck_in_front power power_digits b more refl (λ s. power-minus b s minus) stuck)

pub signed-longest : (bytes : List ℕ) (b : ℕ) (more : List ℕ) (n : ℕ) → bytes ≡ b ∷ more → is_minus b ≡ true → Longest power_digits more n real → Longest power bytes (n + 1) real
signed-longest bytes b more n e minus l = rw e (in_front power power_digits b more n real (λ s. power-minus b s minus) l)

unsigned-same : (b : ℕ) (more : List ℕ) → is_minus b ≡ false → (m : ℕ) → m ≤ length (b ∷ more) → power (take m (b ∷ more)) ≡ power_digits (take m (b ∷ more))
unsigned-same b more plain zero le = refl
unsigned-same b more plain (suc m) le = power-else b (take m more) plain

pub unsigned : (bytes : List ℕ) (b : ℕ) (more : List ℕ) (r : Option ℕ) → bytes ≡ b ∷ more → is_minus b ≡ false → FoundReal power_digits bytes r → FoundReal power bytes r
unsigned bytes b more r e plain l = turned-length power power_digits bytes real r (rw e (unsigned-same b more plain)) l

pub exponent-longest : (bytes : List ℕ) (b : ℕ) (more : List ℕ) (n : ℕ) → bytes ≡ b ∷ more → is_exponent b ≡ true → Longest power more n real → Longest exponent bytes (n + 1) real
exponent-longest bytes b more n e is l = rw e (follows-longest is_exponent power b more n real is l)

pub exponent-stuck : (bytes : List ℕ) (b : ℕ) (more : List ℕ) → bytes ≡ b ∷ more → is_exponent b ≡ true → Stuck power more → Stuck exponent bytes
exponent-stuck bytes b more e is stuck = rw e (follows-stuck is_exponent power b more is stuck)

pub fraction-more : (bytes rest : List ℕ) (n k : ℕ) → n ≡ length (take (prefix_len is_digit bytes) bytes) → 0 < n → rest ≡ drop n bytes → Longest exponent rest k real → Longest fraction bytes (n + k) real
fraction-more bytes rest n k e pos is l = digits-longest (λ _. ends_or real exponent) bytes n k real e pos (ends_or-longest real real exponent (drop n bytes) k refl (rw is at l))

pub fraction-alone : (bytes rest : List ℕ) (n : ℕ) → n ≡ length (take (prefix_len is_digit bytes) bytes) → 0 < n → rest ≡ drop n bytes → Stuck exponent rest → Longest fraction bytes n real
fraction-alone bytes rest n e pos is stuck =
    let l : Longest fraction bytes (n + 0) real = digits-longest (λ _. ends_or real exponent) bytes n 0 real e pos (ends_or-stuck real exponent (drop n bytes) (rw is at stuck)) in
    subst (λ (k : ℕ). Longest fraction bytes k real) (add-zero n) l

point-is : (b : ℕ) (s : List ℕ) → b ≡ 46 → real_end (b ∷ s) ≡ fraction s
point-is b s e = rw e refl

pub point-longest : (bytes : List ℕ) (b : ℕ) (more : List ℕ) (n : ℕ) → bytes ≡ b ∷ more → b ≡ 46 → Longest fraction more n real → Longest real_end bytes (n + 1) real
point-longest bytes b more n e is l = rw e (in_front real_end fraction b more n real (λ s. point-is b s is) l)

pub point-stuck : (bytes : List ℕ) (b : ℕ) (more : List ℕ) → bytes ≡ b ∷ more → b ≡ 46 → Stuck fraction more → Stuck real_end bytes
point-stuck bytes b more e is stuck = rw e (stuck_in_front real_end fraction b more refl (λ s. point-is b s is) stuck)

not-point : (b : ℕ) → (b ≡ 46 → ⊥) → (b == 46) ≡ false
not-point b h = grind (arith, nat_tests)

no-point : (b : ℕ) (more : List ℕ) → (b ≡ 46 → ⊥) → (m : ℕ) → m ≤ length (b ∷ more) → real_end (take m (b ∷ more)) ≡ exponent (take m (b ∷ more))
no-point b more h zero le = refl
no-point b more h (suc m) le = rw (not-point b h) refl

pub pointless : (bytes : List ℕ) (b : ℕ) (more : List ℕ) (r : Option ℕ) → bytes ≡ b ∷ more → (b ≡ 46 → ⊥) → FoundReal exponent bytes r → FoundReal real_end bytes r
pointless bytes b more r e h l = turned-length real_end exponent bytes real r (rw e (no-point b more h)) l

pub number-real : (is_negative : Bool) (bytes rest : List ℕ) (n k : ℕ) → n ≡ length (take (prefix_len is_digit bytes) bytes) → 0 < n → rest ≡ drop n bytes → Longest real_end rest k real → Longest (number is_negative) bytes (n + k) real
number-real is_negative bytes rest n k e pos is l = digits-longest (λ digits. ends_or (int_piece is_negative digits) real_end) bytes n k real e pos (ends_or-longest (int_piece is_negative (take n bytes)) real real_end (drop n bytes) k refl (rw is at l))

pub number-int : (is_negative : Bool) (bytes digits rest : List ℕ) (n : ℕ) → n ≡ length (take (prefix_len is_digit bytes) bytes) → 0 < n → digits ≡ take n bytes → rest ≡ drop n bytes → Stuck real_end rest → Longest (number is_negative) bytes n (int_piece is_negative digits)
number-int is_negative bytes digits rest n e pos d is stuck =
    let l : Longest (number is_negative) bytes (n + 0) (int_piece is_negative (take n bytes)) = digits-longest (λ digits. ends_or (int_piece is_negative digits) real_end) bytes n 0 (int_piece is_negative (take n bytes)) e pos (ends_or-stuck (int_piece is_negative (take n bytes)) real_end (drop n bytes) (rw is at stuck)) in
    rw d (subst (λ (k : ℕ). Longest (number is_negative) bytes k (int_piece is_negative (take n bytes))) (add-zero n) l)

pub number-none : (is_negative : Bool) (bytes : List ℕ) (n : ℕ) → n ≡ length (take (prefix_len is_digit bytes) bytes) → n ≡ 0 → Stuck (number is_negative) bytes
number-none is_negative bytes n e z = digits-stuck (λ digits. ends_or (int_piece is_negative digits) real_end) bytes n e z
