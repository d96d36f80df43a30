-- Words of a text that begin in the midst of a word.
use Rattle.std.proofs.Common.{◌≡◌, ℕ, zero, suc, ◌+◌, ◌-◌, ◌*◌, ◌/◌, ◌%◌, ◌<◌, ◌^◌, List, get_or, drop, refl, sym, ap, ◌∙◌, arith}
use Rattle.std.specs.Int.{w64, cast_unsigned, from_le_bytes}
use Rattle.std.specs.Int.Bits.{bit_or}
use Rattle.std.proofs.lemmas.Int.{of_z-to_z}
use Rattle.std.proofs.lemmas.List.{get_or-drop}
use Rattle.std.proofs.lemmas.Nat.{mod_low, or_shifted, pow-add, shl_below, shr_high}
use Rattle.std.proofs.Math.Nat.{mul_assoc, mul_left_comm, add-mul}
use Rattle.rml_heap.specs.Text.{word_of_bytes}
use Rattle.rml_heap.proofs.Callers.{EachByte}

-- what so many bytes from a place on are worth, the first the lowest
unfoldable pub worth : ℕ → ℕ → List ℕ → ℕ
worth zero i bs = 0
worth (suc n) i bs = get_or bs i 0 + 256 * worth n (suc i) bs

byte-more : (n : ℕ) → 2 ^ (8 * suc n) ≡ 256 * 2 ^ (8 * n)
byte-more n = let e : 8 * suc n ≡ 8 + 8 * n = omega arith in ap (λ k. 2 ^ k) e ∙ pow-add 2 8 (8 * n)

worth-below : (n i : ℕ) (bs : List ℕ) → EachByte bs → worth n i bs < 2 ^ (8 * n)
unfolding worth
worth-below zero i bs each = omega arith
worth-below (suc n) i bs each =
    let rest : worth n (suc i) bs < 2 ^ (8 * n) = worth-below n (suc i) bs each in
    let first : get_or bs i 0 < 256 = each i in
    let power : 2 ^ (8 * suc n) ≡ 256 * 2 ^ (8 * n) = byte-more n in
    omega (arith, rest, first, power)

-- some bytes, and then those that follow
worth-parts : (m n i : ℕ) (bs : List ℕ) → worth (m + n) i bs ≡ worth n (i + m) bs * 2 ^ (8 * m) + worth m i bs
unfolding worth
worth-parts zero n i bs =
    let count : 0 + n ≡ n = omega arith in
    let place : i ≡ i + 0 = omega arith in
    let whole : worth n (i + 0) bs ≡ worth n (i + 0) bs * 1 + 0 = omega arith in
    ap (λ k. worth k i bs) count ∙ ap (λ j. worth n j bs) place ∙ whole
worth-parts (suc m) n i bs =
    let rest : worth (m + n) (suc i) bs ≡ worth n (suc i + m) bs * 2 ^ (8 * m) + worth m (suc i) bs = worth-parts m n (suc i) bs in
    let place : suc i + m ≡ i + suc m = omega arith in
    let count : suc m + n ≡ suc (m + n) = omega arith in
    let moved : worth n (suc i + m) bs * 2 ^ (8 * m) ≡ worth n (i + suc m) bs * 2 ^ (8 * m) = ap (λ j. worth n j bs * 2 ^ (8 * m)) place in
    let more : worth n (i + suc m) bs * 2 ^ (8 * suc m) ≡ 256 * (worth n (i + suc m) bs * 2 ^ (8 * m)) =
    ap (λ k. worth n (i + suc m) bs * k) (byte-more m) ∙ mul_left_comm (worth n (i + suc m) bs) 256 (2 ^ (8 * m))
    in
    let first : worth (suc (m + n)) i bs ≡ worth n (i + suc m) bs * 2 ^ (8 * suc m) + (get_or bs i 0 + 256 * worth m (suc i) bs) = omega (arith, rest, moved, more) in
    ap (λ k. worth k i bs) count ∙ first

worth-split : (m n k i j : ℕ) (bs : List ℕ) → m + n ≡ k → i + m ≡ j → worth k i bs ≡ worth n j bs * 2 ^ (8 * m) + worth m i bs
worth-split m n k i j bs count place = ap (λ c. worth c i bs) (sym count) ∙ worth-parts m n i bs ∙ ap (λ p. worth n p bs * 2 ^ (8 * m) + worth m i bs) place

-- a word is worth its eight bytes
eight-bytes : (d : List ℕ)
    → from_le_bytes w64 d ≡ get_or d 0 0 + get_or d 1 0 * 256 + get_or d 2 0 * 65536 + get_or d 3 0 * 16777216 + get_or d 4 0 * 4294967296 + get_or d 5 0 * 1099511627776 + get_or d 6 0 * 281474976710656 + get_or d 7 0 * 72057594037927936
eight-bytes d = refl

behind : (i k j : ℕ) (bs : List ℕ) → i + k ≡ j → get_or (drop i bs) k 0 ≡ get_or bs j 0
behind i k j bs place = get_or-drop i bs k 0 ∙ ap (λ p. get_or bs p 0) place

pub word-worth : (i : ℕ) (bs : List ℕ) → from_le_bytes w64 (drop i bs) ≡ worth 8 i bs
unfolding worth
word-worth i bs =
    let b0 = behind i 0 i bs (omega arith) in
    let b1 = behind i 1 (suc i) bs (omega arith) in
    let b2 = behind i 2 (suc (suc i)) bs (omega arith) in
    let b3 = behind i 3 (suc (suc (suc i))) bs (omega arith) in
    let b4 = behind i 4 (suc (suc (suc (suc i)))) bs (omega arith) in
    let b5 = behind i 5 (suc (suc (suc (suc (suc i))))) bs (omega arith) in
    let b6 = behind i 6 (suc (suc (suc (suc (suc (suc i)))))) bs (omega arith) in
    let b7 = behind i 7 (suc (suc (suc (suc (suc (suc (suc i))))))) bs (omega arith) in
    omega (arith, eight-bytes (drop i bs), b0, b1, b2, b3, b4, b5, b6, b7)

-- the front of a word, where its end goes out at the top
front : (d c j k : ℕ) → c < 2 ^ j → ((d * 2 ^ j + c) * 2 ^ k) % 2 ^ (j + k) ≡ c * 2 ^ k
front d c j k below =
    let both : (d * 2 ^ j + c) * 2 ^ k ≡ d * 2 ^ (j + k) + c * 2 ^ k = add-mul (d * 2 ^ j) c (2 ^ k) ∙ ap (λ n. n + c * 2 ^ k) (mul_assoc d (2 ^ j) (2 ^ k) ∙ ap (λ n. d * n) (sym (pow-add 2 j k))) in
    ap (λ n. n % 2 ^ (j + k)) both ∙ mod_low d (j + k) (c * 2 ^ k) (shl_below c j k below)

-- eight bytes from the s-th of two words on
pub across-words : (s r : ℕ) (bs : List ℕ) → EachByte bs → s + r ≡ 8 → bit_or ((worth 8 8 bs * 2 ^ (8 * r)) % 2 ^ 64) (worth 8 0 bs / 2 ^ (8 * s)) ≡ worth 8 s bs
across-words s r bs each eight =
    let other : r + s ≡ 8 = omega (arith, eight) in
    let none : 0 + s ≡ s = omega arith in
    let first : worth 8 0 bs ≡ worth r s bs * 2 ^ (8 * s) + worth s 0 bs = worth-split s r 8 0 s bs eight none in
    let second : worth 8 8 bs ≡ worth r (8 + s) bs * 2 ^ (8 * s) + worth s 8 bs = worth-split s r 8 8 (8 + s) bs eight refl in
    let whole : worth 8 s bs ≡ worth s 8 bs * 2 ^ (8 * r) + worth r s bs = worth-split r s 8 s 8 bs other eight in
    let bits : 8 * s + 8 * r ≡ 64 = omega (arith, eight) in
    let high : (worth 8 8 bs * 2 ^ (8 * r)) % 2 ^ 64 ≡ worth s 8 bs * 2 ^ (8 * r) =
    ap (λ n. (n * 2 ^ (8 * r)) % 2 ^ 64) second ∙ ap (λ b. ((worth r (8 + s) bs * 2 ^ (8 * s) + worth s 8 bs) * 2 ^ (8 * r)) % 2 ^ b) (sym bits)
    ∙ front (worth r (8 + s) bs) (worth s 8 bs) (8 * s) (8 * r) (worth-below s 8 bs each)
    in
    let low : worth 8 0 bs / 2 ^ (8 * s) ≡ worth r s bs = ap (λ n. n / 2 ^ (8 * s)) first ∙ shr_high (worth r s bs) (8 * s) (worth s 0 bs) (worth-below s 0 bs each) in
    ap (λ n. bit_or n (worth 8 0 bs / 2 ^ (8 * s))) high
    ∙ ap (λ n. bit_or (worth s 8 bs * 2 ^ (8 * r)) n) low
    ∙ or_shifted (worth s 8 bs) (8 * r) (worth r s bs) (worth-below r s bs each)
    ∙ sym whole

-- the same of what two words are read as
pub across-bytes : (s : ℕ) (first second : ℕ) (bs : List ℕ) → EachByte bs → s < 8 → first ≡ from_le_bytes w64 bs → second ≡ from_le_bytes w64 (drop 8 bs)
    → bit_or ((second * 2 ^ (64 - 8 * s)) % 2 ^ 64) (first / 2 ^ (8 * s)) ≡ from_le_bytes w64 (drop s bs)
across-bytes s first second bs each below is then =
    let eight : s + (8 - s) ≡ 8 = omega (arith, below) in
    let bits : 64 - 8 * s ≡ 8 * (8 - s) = omega (arith, below) in
    ap (λ b. bit_or ((second * 2 ^ b) % 2 ^ 64) (first / 2 ^ (8 * s))) bits
    ∙ ap (λ n. bit_or ((n * 2 ^ (8 * (8 - s))) % 2 ^ 64) (first / 2 ^ (8 * s))) (then ∙ word-worth 8 bs)
    ∙ ap (λ n. bit_or ((worth 8 8 bs * 2 ^ (8 * (8 - s))) % 2 ^ 64) (n / 2 ^ (8 * s))) (is ∙ word-worth 0 bs)
    ∙ across-words s (8 - s) bs each eight
    ∙ sym (word-worth s bs)

-- the bits of a word are what its bytes are read as
pub word-bits : (bs : List ℕ) → EachByte bs → cast_unsigned w64 (word_of_bytes bs) ≡ from_le_bytes w64 bs
unfolding word_of_bytes
word-bits bs each =
    let is : from_le_bytes w64 bs ≡ worth 8 0 bs = word-worth 0 bs in
    let below : worth 8 0 bs < 2 ^ 64 = worth-below 8 0 bs each in
    of_z-to_z w64 (from_le_bytes w64 bs) (omega (arith, is, below))
