-- Texts that are packed into cells word by word: of two texts, and of a list of characters.
use Rattle.std.proofs.Common.{◌≡◌, ◌≢◌, ℕ, suc, ◌+◌, ◌-◌, ◌*◌, ◌<◌, ◌≤◌, ◌^◌, List, [], ◌∷◌, ◌++◌, map, length, get_or, drop, refl, sym, ap, subst, ◌∙◌, arith, append_assoc, length-append}
use Rattle.std.specs.Prelude.{ℤ}
use Rattle.std.specs.Int.{w64, cast_signed}
use Rattle.std.proofs.lemmas.List.{drop-drop, get_or-append_right, get_or-drop, get_or_append_left, length-map, map-append}
use Rattle.rml_heap.specs.declared.cell.Cell.{Cell}
use Rattle.rml_heap.specs.HeapState.{HeapState, HasRoom}
use Rattle.rml_heap.specs.Form.{address}
use Rattle.rml_heap.specs.Text.{packed, text_cells, word_cell, word_of_bytes, words_for}
use Rattle.rml_heap.specs.Reading.{cell_at}
use Rattle.rml_heap.proofs.Callers.{length-packed, packed-more, word-same}
use Rattle.rml_prims.specs.Shapes.{AreChars, AreJoined, AtCons, IsCons, IsList, char_cell, text_head}
use Rattle.rml_prims.proofs.ListCells.{cons-place, list-more}
use Rattle.rml_prims.proofs.SpelledLists.{text-more}

-- ---- word by word

-- so many words of the bytes were added, after the head of their text
abbrev pub PackedTo : HeapState → List ℕ → ℕ → HeapState → Type 0
PackedTo old bytes k now = now ≡ record old { values = old.values ++ text_head (length bytes) ∷ map word_cell (packed k bytes) }

pub packed-start : (old now : HeapState) (bytes : List ℕ) (c : Cell) → c ≡ text_head (length bytes) → now ≡ record old { values = old.values ++ c ∷ [] } → PackedTo old bytes 0 now
packed-start old now bytes c is added = added ∙ ap (λ (d : Cell). record old { values = old.values ++ d ∷ [] }) is

pub packed-values : (old now : HeapState) (bytes : List ℕ) (k : ℕ) → PackedTo old bytes k now → now.values ≡ old.values ++ text_head (length bytes) ∷ map word_cell (packed k bytes)
packed-values old now bytes k h = ap (λ (s : HeapState). s.values) h

pub packed-step : (old now after : HeapState) (bytes : List ℕ) (k : ℕ) (c : Cell) → PackedTo old bytes k now → c ≡ word_cell (word_of_bytes (drop (8 * k) bytes)) → after ≡ record now { values = now.values ++ c ∷ [] } → PackedTo old bytes (k + 1) after
packed-step old now after bytes k c h is added =
    let words : List Cell = map word_cell (packed k bytes) in
    let head : Cell = text_head (length bytes) in
    let w : ℤ = word_of_bytes (drop (8 * k) bytes) in
    let more : words ++ word_cell w ∷ [] ≡ map word_cell (packed (k + 1) bytes) = sym (map-append word_cell (packed k bytes) (w ∷ [])) ∙ ap (map word_cell) (sym (packed-more k bytes)) in
    let values : (old.values ++ head ∷ words) ++ word_cell w ∷ [] ≡ old.values ++ head ∷ map word_cell (packed (k + 1) bytes) =
    append_assoc old.values (head ∷ words) (word_cell w ∷ []) ∙ ap (λ (ws : List Cell). old.values ++ head ∷ ws) more
    in
    added ∙ ap (λ (d : Cell). record now { values = now.values ++ d ∷ [] }) is
    ∙ ap (λ (s : HeapState). record s { values = s.values ++ word_cell w ∷ [] }) h
    ∙ ap (λ (vs : List Cell). record old { values = vs }) values

pub packed-room : (old now : HeapState) (bytes : List ℕ) (k : ℕ) → HasRoom old (1 + words_for (length bytes)) → k < words_for (length bytes) → PackedTo old bytes k now → HasRoom now 1
packed-room old now bytes k room inside h =
    let words : List Cell = map word_cell (packed k bytes) in
    let head : Cell = text_head (length bytes) in
    let values : length now.values ≡ length old.values + length (head ∷ words) = ap length (packed-values old now bytes k h) ∙ length-append old.values (head ∷ words) in
    let frames : length now.frames ≡ length old.frames = ap (λ (s : HeapState). length s.frames) h in
    let limit : now.limit ≡ old.limit = ap (λ (s : HeapState). s.limit) h in
    let long : length words ≡ k = length-map (packed k bytes) word_cell ∙ length-packed k bytes in
    omega (arith, values, frames, limit, long, room, inside)

pub packed-done : (old now : HeapState) (bytes : List ℕ) (k : ℕ) → k ≡ words_for (length bytes) → PackedTo old bytes k now → now ≡ record old { values = old.values ++ text_cells bytes }
packed-done old now bytes k is h = h ∙ ap (λ n. record old { values = old.values ++ text_head (length bytes) ∷ map word_cell (packed n bytes) }) is

-- ---- two texts

pub joined-more : (cells more : List Cell) (at size m n : ℕ) (bytes : List ℕ) → AreJoined cells at size m n bytes → AreJoined (cells ++ more) at size m n bytes
joined-more cells more at size m n bytes h = record {
  c = h.c;
  d = h.d;
  left = h.left;
  right = h.right;
  first = text-more cells more h.c at size h.left h.first;
  second = text-more cells more h.d m n h.right h.second;
  whole = h.whole;
}

pub joined-packed : (old now : HeapState) (at size m n k : ℕ) (bytes : List ℕ) → AreJoined old.values at size m n bytes → PackedTo old bytes k now → AreJoined now.values at size m n bytes
joined-packed old now at size m n k bytes h p =
    let P : List Cell → Type 0 = λ ws. AreJoined ws at size m n bytes in
    subst P (sym (packed-values old now bytes k p)) (joined-more old.values (text_head (length bytes) ∷ map word_cell (packed k bytes)) at size m n bytes h)

pub joined-long : (cells : List Cell) (at size m n : ℕ) (bytes : List ℕ) → AreJoined cells at size m n bytes → length bytes ≡ size + n
joined-long cells at size m n bytes h =
    let both : length bytes ≡ length h.left + length h.right = ap length h.whole ∙ length-append h.left h.right in
    let left = h.first.long in
    let right = h.second.long in
    omega (arith, both, left, right)

pub joined-small : (cells : List Cell) (at size m n : ℕ) (bytes : List ℕ) → length cells ≤ 67_108_864 → AreJoined cells at size m n bytes → size + n ≤ 1_073_741_824
joined-small cells at size m n bytes small h =
    let left : suc (at + words_for size) ≤ length cells = h.first.fits in
    let right : suc (m + words_for n) ≤ length cells = h.second.fits in
    omega (arith, left, right, small)

pub byte-second : (cells : List Cell) (at size m n : ℕ) (bytes : List ℕ) (i b : ℕ) → (h : AreJoined cells at size m n bytes) → size ≤ i → b ≡ get_or h.right (i - size) 0 → b ≡ get_or bytes i 0
byte-second cells at size m n bytes i b h past is =
    is ∙ sym (get_or-append_right h.left h.right size i 0 h.first.long past) ∙ ap (λ bs. get_or bs i 0) (sym h.whole)

-- ---- a list of characters

pub chars-more : (cells more : List Cell) (c : Cell) (bytes : List ℕ) → AreChars cells c bytes → AreChars (cells ++ more) c bytes
chars-more cells more c bytes h =
    let within = h.within in
    let long = length-append cells more in
    record { top = h.top; within = omega (arith, within, long); list = list-more cells more h.top c (map char_cell bytes) h.within h.list; each = h.each }

-- the first of them
pub record SomeChar (cells : List Cell) (top : ℕ) (c : Cell) (bytes : List ℕ) : Type 0 where
  pub at : ℕ
  pub first : ℕ
  pub rest : List ℕ
  pub is : bytes ≡ first ∷ rest
  pub cons : IsCons cells top c at (char_cell first)
  pub list : IsList cells at (cell_at cells (suc (suc at))) (map char_cell rest)

pub some-char : (cells : List Cell) (c : Cell) (bytes : List ℕ) → c.kind ≡ 3 → (h : AreChars cells c bytes) → SomeChar cells h.top c bytes
some-char cells c [] kind h = let e : 4 ≡ 3 = sym (ap (λ (d : Cell). d.kind) h.list) ∙ kind in absurd (omega (arith, e))
some-char cells c (b ∷ bs) kind h = record { at = h.list.0; first = b; rest = bs; is = refl; cons = h.list.1; list = h.list.2 }

pub no-char : (cells : List Cell) (c : Cell) (bytes : List ℕ) → c.kind ≢ 3 → AreChars cells c bytes → bytes ≡ []
no-char cells c [] kind h = refl
no-char cells c (b ∷ bs) kind h = absurd (kind (ap (λ (d : Cell). d.kind) h.list.1.is))

pub char-at : (cells : List Cell) (c : Cell) (bytes : List ℕ) → (h : AreChars cells c bytes) → SomeChar cells h.top c bytes → AtCons cells c
char-at cells c bytes h f = record { top = h.top; at = f.at; item = char_cell f.first; within = h.within; cons = f.cons }

-- its place, and what it is
pub record CharPlace (cells : List Cell) (c : Cell) (bytes : List ℕ) (f : Cell) : Type 0 where
  pub item : f ≡ char_cell (get_or bytes 0 0)
  pub low : get_or bytes 0 0 < 256

pub char-place : (cells : List Cell) (c item : Cell) (bytes : List ℕ) → length cells < 2 ^ 32 → (h : AreChars cells c bytes) → SomeChar cells h.top c bytes → item ≡ cell_at cells (suc (address c.number)) → CharPlace cells c bytes item
char-place cells c item bytes small h f is =
    let within = h.within in
    let top : h.top < 2 ^ 32 = omega (arith, within, small) in
    let place : address c.number ≡ f.at = cons-place cells h.top c f.at (char_cell f.first) top f.cons in
    let first : f.first ≡ get_or bytes 0 0 = ap (λ bs. get_or bs 0 0) (sym f.is) in
    record { item = is ∙ ap (λ n. cell_at cells (suc n)) place ∙ f.cons.shown ∙ ap char_cell first; low = h.each 0 }

pub chars-left : (cells : List Cell) (c next : Cell) (bytes : List ℕ) → length cells < 2 ^ 32 → (h : AreChars cells c bytes) → SomeChar cells h.top c bytes → next ≡ cell_at cells (suc (suc (address c.number))) → AreChars cells next (drop 1 bytes)
chars-left cells c next bytes small h f is =
    let within = h.within in
    let top : h.top < 2 ^ 32 = omega (arith, within, small) in
    let place : address c.number ≡ f.at = cons-place cells h.top c f.at (char_cell f.first) top f.cons in
    let inside = f.cons.inside in
    let L : Cell → Type 0 = λ d. IsList cells f.at d (map char_cell f.rest) in
    let B : List ℕ → Type 0 = λ bs. (i : ℕ) → get_or bs i 0 < 256 in
    let each : (i : ℕ) → get_or (f.first ∷ f.rest) i 0 < 256 = subst B f.is h.each in
    let C : List ℕ → Type 0 = λ bs. AreChars cells next bs in
    let rest : f.rest ≡ drop 1 bytes = ap (drop 1) (sym f.is) in
    subst C rest (record {
      top = f.at;
      within = omega (arith, inside, within);
      list = subst L (sym (is ∙ ap (λ n. cell_at cells (suc (suc n))) place)) f.list;
      each = λ i. each (suc i);
    })

-- the whole list under the highest top
list-higher : (cells : List Cell) (top high : ℕ) (c : Cell) (items : List Cell) → top ≤ high → IsList cells top c items → IsList cells high c items
list-higher cells top high c [] le h = h
list-higher cells top high c (item ∷ items) le h =
    let cons : IsCons cells top c h.0 item = h.1 in
    let inside = cons.inside in
    (h.0, record { is = cons.is; head = cons.head; inside = omega (arith, inside, le); first = cons.first; shown = cons.shown; second = cons.second }, h.2)

pub chars-list : (cells : List Cell) (c : Cell) (bytes : List ℕ) → AreChars cells c bytes → IsList cells (length cells) c (map char_cell bytes)
chars-list cells c bytes h = list-higher cells h.top (length cells) c (map char_cell bytes) h.within h.list

-- so many steps further
pub chars-next : (cells : List Cell) (c : Cell) (bytes : List ℕ) (i : ℕ) → AreChars cells c (drop 1 (drop i bytes)) → AreChars cells c (drop (i + 1) bytes)
chars-next cells c bytes i h = let C : List ℕ → Type 0 = λ bs. AreChars cells c bs in subst C (drop-drop 1 i bytes) h

pub chars-word : (cells : List Cell) (c : Cell) (bytes : List ℕ) (k : ℕ) → AreChars cells c (drop 8 (drop (8 * k) bytes)) → AreChars cells c (drop (8 * (k + 1)) bytes)
chars-word cells c bytes k h =
    let C : List ℕ → Type 0 = λ bs. AreChars cells c bs in
    let far : 8 * k + 8 ≡ 8 * (k + 1) = omega arith in
    subst C (drop-drop 8 (8 * k) bytes ∙ ap (λ n. drop n bytes) far) h

-- ---- a word that stands in one of two texts

pub word-first : (cells : List Cell) (at size m n : ℕ) (bytes : List ℕ) (i : ℕ) → (h : AreJoined cells at size m n bytes) → i + 8 ≤ size → word_of_bytes (drop i h.left) ≡ word_of_bytes (drop i bytes)
unfolding word_of_bytes
word-first cells at size m n bytes i h inside =
    let long = h.first.long in
    ap (cast_signed w64) (word-same (drop i h.left) (drop i bytes) (λ j below.
    let before : i + j < length h.left = omega (arith, inside, below, long) in
    get_or-drop i h.left j 0 ∙ sym (get_or_append_left h.left h.right 0 (i + j) before) ∙ ap (λ bs. get_or bs (i + j) 0) (sym h.whole) ∙ sym (get_or-drop i bytes j 0)))

pub word-second : (cells : List Cell) (at size m n : ℕ) (bytes : List ℕ) (i : ℕ) → (h : AreJoined cells at size m n bytes) → size ≤ i → word_of_bytes (drop (i - size) h.right) ≡ word_of_bytes (drop i bytes)
unfolding word_of_bytes
word-second cells at size m n bytes i h past =
    ap (cast_signed w64) (word-same (drop (i - size) h.right) (drop i bytes) (λ j below.
    let beyond : size ≤ i + j = omega (arith, past) in
    let place : i - size + j ≡ i + j - size = omega (arith, past) in
    get_or-drop (i - size) h.right j 0 ∙ ap (λ k. get_or h.right k 0) place ∙ sym (get_or-append_right h.left h.right size (i + j) 0 h.first.long beyond)
    ∙ ap (λ bs. get_or bs (i + j) 0) (sym h.whole) ∙ sym (get_or-drop i bytes j 0)))
