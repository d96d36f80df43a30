-- What a packed text holds.
use Rattle.std.proofs.Common.{◌≡◌, ℕ, zero, suc, ◌+◌, ◌-◌, ◌*◌, ◌^◌, ◌<◌, ◌≤◌, List, [], ◌∷◌, ◌++◌, Some, None, length, get_or, take, drop, replicate, refl, sym, ap, ◌∙◌, arith, inl, inr}
use Rattle.std.specs.Prelude.{ℤ, min, true, if◌then◌else◌}
use Rattle.std.specs.List.{flat_map}
use Rattle.std.specs.Int.{w64, to_le_bytes, from_le_bytes, byte_worth, sum_through}
use Rattle.std.proofs.lemmas.Int.{of_z-to_z}
use Rattle.std.proofs.lemmas.Nat.{le_bytes_8}
use Rattle.std.proofs.lemmas.List.{length-append, length-take, length-drop, length-replicate, take-append-drop, take-append-le, take_all, get_or-take, get_or_append_left, get_or-append_right, get_or-replicate, get_or_past, drop-drop, get_or-drop, append-nil, nil_from_length}
use Rattle.std.proofs.lemmas.Bool.Decides.{Decides-int_eq}
use Rattle.std.proofs.Math.Seq.{take-append-add}
use Rattle.std.proofs.lemmas.Bool.{cases_lt}
use Rattle.rml_heap.specs.Text.{words_for, word_of_bytes, bytes_of_word, packed, same_words, text_of}

sum-same : (f g : ℕ → ℕ) (n : ℕ) → ((i : ℕ) → i ≤ n → f i ≡ g i) → sum_through f n ≡ sum_through g n
sum-same f g zero same = same 0 (omega arith)
sum-same f g (suc n) same =
    let rest = sum-same f g n (λ i le. same i (omega (arith, le))) in
    let last = same (suc n) (omega arith) in
    ap (λ k. k + f (suc n)) rest ∙ ap (λ k. sum_through g n + k) last

-- a word is by its eight bytes alone
pub word-same : (xs ys : List ℕ) → ((i : ℕ) → i < 8 → get_or xs i 0 ≡ get_or ys i 0) → from_le_bytes w64 xs ≡ from_le_bytes w64 ys
word-same xs ys same = sum-same (λ i. byte_worth i (get_or xs i 0)) (λ i. byte_worth i (get_or ys i 0)) 7 (λ i le. ap (byte_worth i) (same i (omega (arith, le))))

-- the words of more bytes
pub packed-more : (i : ℕ) (bytes : List ℕ) → packed (i + 1) bytes ≡ packed i bytes ++ word_of_bytes (drop (8 * i) bytes) ∷ []
packed-more zero bytes = refl
packed-more (suc i) bytes =
    let e : suc i + 1 ≡ suc (i + 1) = omega arith in
    let far : 8 + 8 * i ≡ 8 * suc i = omega arith in
    let moved : drop (8 * i) (drop 8 bytes) ≡ drop (8 * suc i) bytes = drop-drop (8 * i) 8 bytes ∙ ap (λ n. drop n bytes) far in
    ap (λ n. packed n bytes) e ∙ ap (λ ws. word_of_bytes bytes ∷ ws) (packed-more i (drop 8 bytes) ∙ ap (λ bs. packed i (drop 8 bytes) ++ word_of_bytes bs ∷ []) moved)

pub length-packed : (n : ℕ) (bytes : List ℕ) → length (packed n bytes) ≡ n
length-packed zero bytes = refl
length-packed (suc n) bytes = ap suc (length-packed n (drop 8 bytes))

-- ---- a packed text is read back

-- the first eight bytes, and 0 for those that are not there
abbrev eight : List ℕ → List ℕ
eight bytes = take 8 bytes ++ replicate (8 - length (take 8 bytes)) 0

length-eight : (bytes : List ℕ) → length (eight bytes) ≡ 8
length-eight bytes =
    let none : ℕ = 0 in
    let pad : length (replicate (8 - length (take 8 bytes)) none) ≡ 8 - length (take 8 bytes) = length-replicate (8 - length (take 8 bytes)) none in
    let both : length (eight bytes) ≡ length (take 8 bytes) + length (replicate (8 - length (take 8 bytes)) none) = length-append (take 8 bytes) (replicate (8 - length (take 8 bytes)) none) in
    omega (arith, both, pad, length-take 8 bytes)

eight-at : (bytes : List ℕ) (i : ℕ) → i < 8 → get_or (eight bytes) i 0 ≡ get_or bytes i 0
eight-at bytes i below =
    let front : length (take 8 bytes) ≡ min 8 (length bytes) = length-take 8 bytes in
    elim (cases_lt i (length (take 8 bytes))) [
      | inl inside ↦ get_or_append_left (take 8 bytes) (replicate (8 - length (take 8 bytes)) 0) 0 i inside ∙ get_or-take 8 bytes i 0 below
      | inr past ↦
          let rest : i - length (take 8 bytes) < 8 - length (take 8 bytes) = omega (arith, below, past) in
          let out : length bytes ≤ i = omega (arith, past, front, below) in
          get_or-append_right (take 8 bytes) (replicate (8 - length (take 8 bytes)) 0) (length (take 8 bytes)) i 0 refl past
          ∙ get_or-replicate (8 - length (take 8 bytes)) (i - length (take 8 bytes)) 0 0 rest
          ∙ sym (get_or_past bytes i 0 out)
    ]

-- each is a byte
abbrev pub EachByte : List ℕ → Type 0
EachByte bytes = (i : ℕ) → get_or bytes i 0 < 256

eight-bytes : (bytes : List ℕ) → EachByte bytes → EachByte (eight bytes)
eight-bytes bytes each i =
    elim (cases_lt i 8) [
      | inl below ↦ let e = eight-at bytes i below in let b = each i in omega (arith, e, b)
      | inr past ↦
          let out : length (eight bytes) ≤ i = omega (arith, length-eight bytes, past) in
          let e : get_or (eight bytes) i 0 ≡ 0 = get_or_past (eight bytes) i 0 out in
          omega (arith, e)
    ]

small-word : (a b c d e f g h : ℕ) → a < 256 → b < 256 → c < 256 → d < 256 → e < 256 → f < 256 → g < 256 → h < 256
    → a + b * 256 + c * 65536 + d * 16777216 + e * 4294967296 + f * 1099511627776 + g * 281474976710656 + h * 72057594037927936 < 18446744073709551616
small-word a b c d e f g h la lb lc ld le lf lg lh = omega arith

word-fits : (bytes : List ℕ) → EachByte bytes → from_le_bytes w64 bytes < 2 ^ 64
word-fits bytes each =
    small-word (get_or bytes 0 0) (get_or bytes 1 0) (get_or bytes 2 0) (get_or bytes 3 0) (get_or bytes 4 0) (get_or bytes 5 0) (get_or bytes 6 0) (get_or bytes 7 0)
    (each 0) (each 1) (each 2) (each 3) (each 4) (each 5) (each 6) (each 7)

word-bytes : (bytes : List ℕ) → EachByte bytes → bytes_of_word (word_of_bytes bytes) ≡ eight bytes
unfolding bytes_of_word word_of_bytes
word-bytes bytes each =
    ap (to_le_bytes w64) (of_z-to_z w64 (from_le_bytes w64 bytes) (word-fits bytes each))
    ∙ le_bytes_8 (eight bytes) (from_le_bytes w64 bytes) (length-eight bytes) (eight-bytes bytes each) (word-same bytes (eight bytes) (λ i below. sym (eight-at bytes i below)))

pub each-drop : (n : ℕ) (bytes : List ℕ) → EachByte bytes → EachByte (drop n bytes)
each-drop n bytes each i = let e = get_or-drop n bytes i 0 in let b = each (n + i) in omega (arith, e, b)

unpacked : (w : ℕ) (bytes : List ℕ) → EachByte bytes → length bytes ≤ 8 * w → take (length bytes) (flat_map bytes_of_word (packed w bytes)) ≡ bytes
unpacked zero bytes each short = let none : length bytes ≡ 0 = omega (arith, short) in let nil = nil_from_length bytes none in ap (λ n. take n (flat_map bytes_of_word (packed 0 bytes))) none ∙ sym nil
unpacked (suc w) bytes each short =
    let rest : List ℕ = flat_map bytes_of_word (packed w (drop 8 bytes)) in
    let first : take (length bytes) (bytes_of_word (word_of_bytes bytes) ++ rest) ≡ take (length bytes) (eight bytes ++ rest) = ap (λ bs. take (length bytes) (bs ++ rest)) (word-bytes bytes each) in
    elim (cases_lt 8 (length bytes)) [
      | inl long ↦
          let whole : length (take 8 bytes) ≡ 8 = omega (arith, length-take 8 bytes, long) in
          let no_pad : 8 - length (take 8 bytes) ≡ 0 = omega (arith, whole) in
          let is : eight bytes ≡ take 8 bytes = ap (λ n. take 8 bytes ++ replicate n 0) no_pad ∙ append-nil (take 8 bytes) in
          let count : length bytes ≡ length (take 8 bytes) + length (drop 8 bytes) = omega (arith, whole, length-drop 8 bytes, long) in
          let more : length (drop 8 bytes) ≤ 8 * w = omega (arith, length-drop 8 bytes, short) in
          first ∙ ap (λ bs. take (length bytes) (bs ++ rest)) is
          ∙ ap (λ n. take n (take 8 bytes ++ rest)) count
          ∙ take-append-add (take 8 bytes) rest (length (drop 8 bytes))
          ∙ ap (λ bs. take 8 bytes ++ bs) (unpacked w (drop 8 bytes) (each-drop 8 bytes each) more)
          ∙ take-append-drop 8 bytes
      | inr few ↦
          let all : take 8 bytes ≡ bytes = take_all 8 bytes few in
          let within : length bytes ≤ length (eight bytes) = omega (arith, length-eight bytes, few) in
          let front : length bytes ≤ length (take 8 bytes) = let e = ap length all in omega (arith, e) in
          let whole : length bytes ≤ length bytes = omega arith in
          first ∙ take-append-le (length bytes) (eight bytes) rest within
          ∙ take-append-le (length bytes) (take 8 bytes) (replicate (8 - length (take 8 bytes)) 0) front
          ∙ ap (take (length bytes)) all ∙ take_all (length bytes) bytes whole
    ]

same-self : (is : List ℤ) → same_words is is ≡ true
same-self [] = refl
same-self (i ∷ is) = rw ((Decides-int_eq i i).1 refl, same-self is) refl

-- what is packed is the text of its words
pub text-read : (bytes : List ℕ) → EachByte bytes → text_of (length bytes) (packed (words_for (length bytes)) bytes) ≡ Some bytes
unfolding text_of
text-read bytes each =
    let n : ℕ = length bytes in
    let words : List ℤ = packed (words_for n) bytes in
    let enough : n ≤ 8 * words_for n = omega arith in
    let back : take n (flat_map bytes_of_word words) ≡ bytes = unpacked (words_for n) bytes each enough in
    ap (λ bs. if same_words (packed (words_for n) bs) words then Some bs else None) back ∙ ap (λ b. if b then Some bytes else None) (same-self words)

-- a byte of the word of some bytes
pub word-byte : (bytes : List ℕ) → EachByte bytes → (i : ℕ) → i < 8 → get_or (bytes_of_word (word_of_bytes bytes)) i 0 ≡ get_or bytes i 0
word-byte bytes each i below = ap (λ bs. get_or bs i 0) (word-bytes bytes each) ∙ eight-at bytes i below
