-- The longest piece, by what its first byte can begin.
use Rattle.std.proofs.Common.{◌≡◌, ℕ, zero, suc, ◌+◌, ◌≤◌, true, false, List, ◌∷◌, length, take, refl, arith, Option}
use Rattle.std.specs.List.{prefix_len}
use Rattle.std.proofs.lemmas.Bool.Decides.{nat_tests}
use Rattle.rml_lex.specs.declared.piece.Piece.{Piece}
use Rattle.rml_lex.specs.declared.piece.Piece.TheVariants as piece
use Rattle.rml_lex.specs.Bytes.{is_dash, is_digit, is_letter, is_name_byte}
use Rattle.rml_lex.specs.Machine.{run, Longest, Stuck}
use Rattle.rml_lex.specs.Number.{number}
use Rattle.rml_lex.specs.Spelling.{after_first, class_of, dash, prime, whole}
use Rattle.rml_lex.proofs.Longests.{Found, follows-longest, in_front, run-longest, stuck_in_front, turned}

pub dashes-longest : (bytes : List ℕ) (b : ℕ) (more : List ℕ) (n : ℕ) → bytes ≡ b ∷ more → b ≡ 45 → n ≡ length (take (prefix_len is_dash more) more) → Longest dash bytes (n + 1) piece.Dashes
dashes-longest bytes b more n e is en = rw e (in_front dash (run is_dash (λ _. piece.Dashes)) b more n piece.Dashes (λ s. rw is refl) (run-longest is_dash (λ _. piece.Dashes) more n en))

not-dash : (b : ℕ) → (b ≡ 45 → ⊥) → is_dash b ≡ false
not-dash b h = grind (arith, nat_tests)

no-dash : (b : ℕ) (more : List ℕ) → (b ≡ 45 → ⊥) → (m : ℕ) → m ≤ length (b ∷ more) → dash (take m (b ∷ more)) ≡ number true (take m (b ∷ more))
no-dash b more h zero le = refl
no-dash b more h (suc m) le = rw (not-dash b h) refl

pub dashless : (bytes : List ℕ) (b : ℕ) (more : List ℕ) (r : Option (ℕ × Piece)) → bytes ≡ b ∷ more → (b ≡ 45 → ⊥) → Found (number true) bytes r → Found dash bytes r
dashless bytes b more r e h found = turned dash (number true) bytes r (rw e (no-dash b more h)) found

pub prime-longest : (bytes : List ℕ) (b : ℕ) (more : List ℕ) (n : ℕ) → bytes ≡ b ∷ more → is_letter b ≡ true → n ≡ length (take (prefix_len is_name_byte more) more) → Longest prime bytes (n + 1) piece.TyVar
prime-longest bytes b more n e is en = rw e (follows-longest is_letter (run is_name_byte (λ _. piece.TyVar)) b more n piece.TyVar is (run-longest is_name_byte (λ _. piece.TyVar) more n en))

-- a whole piece, by whether its first byte is a digit
digit-whole : (b : ℕ) (s : List ℕ) → is_digit b ≡ true → whole (b ∷ s) ≡ number false (b ∷ s)
digit-whole b s e = rw e refl

other-whole : (b : ℕ) (s : List ℕ) → is_digit b ≡ false → whole (b ∷ s) ≡ after_first (class_of b) b s
other-whole b s e = rw e refl

digits-same : (b : ℕ) (more : List ℕ) → is_digit b ≡ true → (m : ℕ) → m ≤ length (b ∷ more) → whole (take m (b ∷ more)) ≡ number false (take m (b ∷ more))
digits-same b more e zero le = refl
digits-same b more e (suc m) le = digit-whole b (take m more) e

pub digit-found : (bytes : List ℕ) (b : ℕ) (more : List ℕ) (r : Option (ℕ × Piece)) → bytes ≡ b ∷ more → is_digit b ≡ true → Found (number false) bytes r → Found whole bytes r
digit-found bytes b more r e is found = turned whole (number false) bytes r (rw e (digits-same b more is)) found

pub piece-longest : (bytes : List ℕ) (b : ℕ) (more : List ℕ) (n : ℕ) (p : Piece) → bytes ≡ b ∷ more → is_digit b ≡ false → Longest (after_first (class_of b) b) more n p → Longest whole bytes (n + 1) p
piece-longest bytes b more n p e is l = rw e (in_front whole (after_first (class_of b) b) b more n p (λ s. other-whole b s is) l)

pub piece-stuck : (bytes : List ℕ) (b : ℕ) (more : List ℕ) → bytes ≡ b ∷ more → is_digit b ≡ false → Stuck (after_first (class_of b) b) more → Stuck whole bytes
piece-stuck bytes b more e is stuck = rw e (stuck_in_front whole (after_first (class_of b) b) b more refl (λ s. other-whole b s is) stuck)
