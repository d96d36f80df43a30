-- Two texts, one after the other, in words: those of the first that are whole, and then those of the second, or words that begin in the
-- midst of its words.
use Rattle.std.proofs.Common.{◌≡◌, ℕ, zero, suc, ◌+◌, ◌-◌, ◌*◌, ◌/◌, ◌%◌, ◌<◌, ◌≤◌, List, ◌∷◌, ◌++◌, [], map, length, take, drop, refl, sym, ap, subst, ◌∙◌, arith, append_assoc, length-append}
use Rattle.std.specs.Prelude.{ℤ}
use Rattle.std.specs.Int.{w64, cast_signed}
use Rattle.std.proofs.Math.Seq.{drop-append_seam}
use Rattle.std.proofs.lemmas.List.{append-nil, drop-append-le, drop-drop, get_or_append_left, length-drop, length-map, map-append}
use Rattle.std.proofs.lemmas.Option.{slice_get-get_or}
use Rattle.rml_heap.specs.declared.cell.Cell.{Cell}
use Rattle.rml_heap.specs.HeapState.{HeapState, HasRoom, unset_cell}
use Rattle.rml_heap.specs.Text.{packed, text_cells, word_cell, word_of_bytes, words_for}
use Rattle.rml_heap.specs.Reading.{cell_at}
use Rattle.rml_heap.proofs.Callers.{length-packed, packed-more, word-same}
use Rattle.rml_prims.specs.Shapes.{AreJoined, IsText, text_head}
use Rattle.rml_prims.proofs.MadeLists.{drop-get}
use Rattle.rml_prims.proofs.PackedTexts.{PackedTo, joined-more, packed-done, word-second}
use Rattle.rml_prims.proofs.SpelledLists.{text-more}
use Rattle.rml_prims.proofs.TextCells.{word-there}

-- ---- words of bytes

packed-front : (n : ℕ) (xs ys : List ℕ) → 8 * n ≤ length xs → packed n (xs ++ ys) ≡ packed n xs
unfolding word_of_bytes
packed-front zero xs ys long = refl
packed-front (suc n) xs ys long =
    let eight : 8 ≤ length xs = omega (arith, long) in
    let word : word_of_bytes (xs ++ ys) ≡ word_of_bytes xs = ap (cast_signed w64) (word-same (xs ++ ys) xs (λ i below. let inside : i < length xs = omega (arith, below, eight) in get_or_append_left xs ys 0 i inside)) in
    let left = length-drop 8 xs in
    let rest : packed n (drop 8 (xs ++ ys)) ≡ packed n (drop 8 xs) = ap (packed n) (drop-append-le 8 xs ys eight) ∙ packed-front n (drop 8 xs) ys (omega (arith, left, long)) in
    ap (λ w. w ∷ packed n (drop 8 (xs ++ ys))) word ∙ ap (λ ws. word_of_bytes xs ∷ ws) rest

packed-append : (m n : ℕ) (bs : List ℕ) → packed (m + n) bs ≡ packed m bs ++ packed n (drop (8 * m) bs)
packed-append zero n bs = let none : zero + n ≡ n = omega arith in ap (λ k. packed k bs) none
packed-append (suc m) n bs =
    let count : suc m + n ≡ suc (m + n) = omega arith in
    let place : 8 + 8 * m ≡ 8 * suc m = omega arith in
    let further : drop (8 * m) (drop 8 bs) ≡ drop (8 * suc m) bs = drop-drop (8 * m) 8 bs ∙ ap (λ k. drop k bs) place in
    ap (λ k. packed k bs) count ∙ ap (λ ws. word_of_bytes bs ∷ ws) (packed-append m n (drop 8 bs) ∙ ap (λ cs. packed m (drop 8 bs) ++ packed n cs) further)

-- the cells of a text's words
text-words : (cells : List Cell) (c : Cell) (at size : ℕ) (bytes : List ℕ) (n k : ℕ) → k + n ≤ words_for size → IsText cells c at size bytes → take n (drop (suc (at + k)) cells) ≡ map word_cell (packed n (drop (8 * k) bytes))
text-words cells c at size bytes zero k few h = refl
text-words cells c at size bytes (suc n) k few h =
    let inside : k < words_for size = omega (arith, few) in
    let fits : suc (at + words_for size) ≤ length cells = h.fits in
    let within : suc (at + k) < length cells = omega (arith, fits, inside) in
    let first : Cell = cell_at cells (suc (at + k)) in
    let here : drop (suc (at + k)) cells ≡ first ∷ drop (suc (suc (at + k))) cells = drop-get cells (suc (at + k)) first (slice_get-get_or cells (suc (at + k)) unset_cell within) in
    let w : ℤ = word_of_bytes (drop (8 * k) bytes) in
    let word : first ≡ word_cell w = word-there cells c at size bytes k inside h in
    let place : suc (at + k) ≡ at + suc k = omega arith in
    let fewer : suc k + n ≤ words_for size = omega (arith, few) in
    let rest : take n (drop (suc (at + suc k)) cells) ≡ map word_cell (packed n (drop (8 * suc k) bytes)) = text-words cells c at size bytes n (suc k) fewer h in
    let far : 8 * suc k ≡ 8 * k + 8 = omega arith in
    let next : drop (8 * suc k) bytes ≡ drop 8 (drop (8 * k) bytes) = ap (λ m. drop m bytes) far ∙ sym (drop-drop 8 (8 * k) bytes) in
    ap (take (suc n)) here ∙ ap (λ (d : Cell). d ∷ take n (drop (suc (suc (at + k))) cells)) word ∙ ap (λ m. word_cell w ∷ take n (drop (suc m) cells)) place
    ∙ ap (λ (cs : List Cell). word_cell w ∷ cs) (rest ∙ ap (λ bs. map word_cell (packed n bs)) next)

-- from its first on, by the address that code has
pub first-words : (cells : List Cell) (c : Cell) (at size : ℕ) (bytes : List ℕ) (n : ℕ) → n ≤ words_for size → IsText cells c at size bytes → take n (drop (at + 1) cells) ≡ map word_cell (packed n bytes)
first-words cells c at size bytes n few h =
    let place : at + 1 ≡ suc (at + 0) = omega arith in
    let fewer : 0 + n ≤ words_for size = omega (arith, few) in
    ap (λ k. take n (drop k cells)) place ∙ text-words cells c at size bytes n 0 fewer h

-- ---- words that were added

abbrev pub WordsTo : HeapState → List ℕ → ℕ → HeapState → Type 0
WordsTo old bs k now = now ≡ record old { values = old.values ++ map word_cell (packed k bs) }

pub words-step : (old now after : HeapState) (bs : List ℕ) (k : ℕ) (c : Cell) → WordsTo old bs k now → c ≡ word_cell (word_of_bytes (drop (8 * k) bs)) → after ≡ record now { values = now.values ++ c ∷ [] } → WordsTo old bs (k + 1) after
words-step old now after bs k c h is added =
    let words : List Cell = map word_cell (packed k bs) in
    let w : ℤ = word_of_bytes (drop (8 * k) bs) in
    let more : words ++ word_cell w ∷ [] ≡ map word_cell (packed (k + 1) bs) = sym (map-append word_cell (packed k bs) (w ∷ [])) ∙ ap (map word_cell) (sym (packed-more k bs)) in
    added ∙ ap (λ (d : Cell). record now { values = now.values ++ d ∷ [] }) is
    ∙ ap (λ (s : HeapState). record s { values = s.values ++ word_cell w ∷ [] }) h
    ∙ ap (λ (vs : List Cell). record old { values = vs }) (append_assoc old.values words (word_cell w ∷ []) ∙ ap (λ (ws : List Cell). old.values ++ ws) more)

pub words-none : (old : HeapState) (bs : List ℕ) → WordsTo old bs 0 old
words-none old bs = ap (λ (vs : List Cell). record old { values = vs }) (sym (append-nil old.values))

pub words-text : (old now : HeapState) (c : Cell) (at size k : ℕ) (bs bytes : List ℕ) → IsText old.values c at size bytes → WordsTo old bs k now → IsText now.values c at size bytes
words-text old now c at size k bs bytes text w =
    let P : List Cell → Type 0 = λ ws. IsText ws c at size bytes in
    let values : now.values ≡ old.values ++ map word_cell (packed k bs) = ap (λ (s : HeapState). s.values) w in
    subst P (sym values) (text-more old.values (map word_cell (packed k bs)) c at size bytes text)

pub words-room : (old now : HeapState) (bs : List ℕ) (k n : ℕ) → HasRoom old n → k < n → WordsTo old bs k now → HasRoom now 1
words-room old now bs k n room inside h =
    let words : List Cell = map word_cell (packed k bs) in
    let values : length now.values ≡ length old.values + length words = ap (λ (s : HeapState). length s.values) h ∙ length-append old.values words in
    let frames : length now.frames ≡ length old.frames = ap (λ (s : HeapState). length s.frames) h in
    let limit : now.limit ≡ old.limit = ap (λ (s : HeapState). s.limit) h in
    let long : length words ≡ k = length-map (packed k bs) word_cell ∙ length-packed k bs in
    omega (arith, values, frames, limit, long, room, inside)

-- a word that begins in the midst of a word of the second text
pub shifted-word : (cells : List Cell) (at size m n : ℕ) (bytes : List ℕ) (k r : ℕ) (h : AreJoined cells at size m n bytes) → 0 < size % 8 → r ≡ 8 - size % 8
    → word_of_bytes (drop r (drop (8 * k) h.right)) ≡ word_of_bytes (drop (8 * (k + 1)) (drop (8 * (size / 8)) bytes))
shifted-word cells at size m n bytes k r h midst is =
    let i : ℕ = 8 * (size / 8) + 8 * (k + 1) in
    let past : size ≤ i = omega arith in
    let place : 8 * k + r ≡ i - size = omega (arith, is, midst) in
    ap word_of_bytes (drop-drop r (8 * k) h.right ∙ ap (λ j. drop j h.right) place) ∙ word-second cells at size m n bytes i h past ∙ ap word_of_bytes (sym (drop-drop (8 * (k + 1)) (8 * (size / 8)) bytes))

-- ---- the whole

-- the whole words of the first text
pub whole-words : (old now after : HeapState) (at size m n : ℕ) (bytes : List ℕ) (c : Cell) → (h : AreJoined old.values at size m n bytes) → c ≡ text_head (length bytes) → now ≡ record old { values = old.values ++ c ∷ [] }
    → after ≡ record now { values = now.values ++ take (size / 8) (drop (at + 1) now.values) } → PackedTo old bytes (size / 8) after
whole-words old now after at size m n bytes c h is head added =
    let values : now.values ≡ old.values ++ c ∷ [] = ap (λ (s : HeapState). s.values) head in
    let P : List Cell → Type 0 = λ ws. AreJoined ws at size m n bytes in
    let there : AreJoined now.values at size m n bytes = subst P (sym values) (joined-more old.values (c ∷ []) at size m n bytes h) in
    let few : size / 8 ≤ words_for size = omega arith in
    let long = there.first.long in
    let enough : 8 * (size / 8) ≤ length there.left = omega (arith, long) in
    let words : take (size / 8) (drop (at + 1) now.values) ≡ map word_cell (packed (size / 8) bytes) =
    first-words now.values there.c at size there.left (size / 8) few there.first ∙ ap (map word_cell) (sym (packed-front (size / 8) there.left there.right enough) ∙ ap (packed (size / 8)) (sym there.whole))
    in
    added ∙ ap (λ (ws : List Cell). record now { values = now.values ++ ws }) words
    ∙ ap (λ (s : HeapState). record s { values = s.values ++ map word_cell (packed (size / 8) bytes) }) head
    ∙ ap (λ (vs : List Cell). record old { values = vs }) (append_assoc old.values (c ∷ []) (map word_cell (packed (size / 8) bytes)) ∙ ap (λ (d : Cell). old.values ++ d ∷ map word_cell (packed (size / 8) bytes)) is)

-- and then the others
pub all-words : (old now after : HeapState) (bytes : List ℕ) (q w : ℕ) → q + w ≡ words_for (length bytes) → PackedTo old bytes q now → after ≡ record now { values = now.values ++ map word_cell (packed w (drop (8 * q) bytes)) }
    → after ≡ record old { values = old.values ++ text_cells bytes }
all-words old now after bytes q w count h added =
    let front : List Cell = map word_cell (packed q bytes) in
    let back : List Cell = map word_cell (packed w (drop (8 * q) bytes)) in
    let head : Cell = text_head (length bytes) in
    let words : front ++ back ≡ map word_cell (packed (q + w) bytes) = sym (map-append word_cell (packed q bytes) (packed w (drop (8 * q) bytes))) ∙ ap (map word_cell) (sym (packed-append q w bytes)) in
    let whole : PackedTo old bytes (q + w) after =
    added ∙ ap (λ (s : HeapState). record s { values = s.values ++ back }) h
    ∙ ap (λ (vs : List Cell). record old { values = vs }) (append_assoc old.values (head ∷ front) back ∙ ap (λ (ws : List Cell). old.values ++ head ∷ ws) words)
    in
    packed-done old after bytes (q + w) count whole

-- those of the second text, where the first ends with a word
pub second-words : (now after : HeapState) (at size m n : ℕ) (bytes : List ℕ) → (h : AreJoined now.values at size m n bytes) → size % 8 ≡ 0 → after ≡ record now { values = now.values ++ take (words_for n) (drop (m + 1) now.values) }
    → after ≡ record now { values = now.values ++ map word_cell (packed (words_for n) (drop (8 * (size / 8)) bytes)) }
second-words now after at size m n bytes h whole added =
    let all : words_for n ≤ words_for n = omega arith in
    let long = h.first.long in
    let end : 8 * (size / 8) ≡ length h.left = omega (arith, whole, long) in
    let right : drop (8 * (size / 8)) bytes ≡ h.right = ap (λ k. drop k bytes) end ∙ ap (drop (length h.left)) h.whole ∙ drop-append_seam h.left h.right in
    added ∙ ap (λ (ws : List Cell). record now { values = now.values ++ ws }) (first-words now.values h.d m n h.right (words_for n) all h.second ∙ ap (λ bs. map word_cell (packed (words_for n) bs)) (sym right))
