-- The cells of a text, and the rows that read one.
use Rattle.std.proofs.Common.{◌≡◌, ◌≢◌, ℕ, zero, suc, ◌+◌, ◌-◌, ◌*◌, ◌/◌, ◌%◌, ◌<◌, ◌≤◌, ◌^◌, List, [], ◌∷◌, ◌++◌, Bool, true, false, Option, Some, None, length, get_or, take, drop, refl, sym, ap, subst, ◌∙◌, arith, inl, inr}
use Rattle.std.specs.Prelude.{slice_get, ℤ, pos, negsuc, nat_lt, if◌then◌else◌}
use Rattle.std.specs.List.{flat_map}
use Rattle.std.specs.Option.{option_map, option_and_then}
use Rattle.std.proofs.lemmas.Option.{slice_get-get_or, slice_get_past}
use Rattle.std.proofs.lemmas.Bool.{cases_lt}
use Rattle.std.proofs.lemmas.List.{get_or-take, get_or_past, get_or_append_left, get_or-append_right, get_or-drop, drop-drop, length-take}
use Rattle.rml_value.specs.declared.value.Value.{Value, out-Value}
use Rattle.rml_value.specs.declared.value.Value.TheOpen.{Value-F}
use Rattle.rml_value.specs.declared.value.Value.TheVariants as value
use Rattle.rml_value.specs.declared.value.Value.TheVariants.{outs-Text}
use Rattle.rml_builtin.specs.declared.row.Row.TheVariants.{StringInt, StringLength, StringNth}
use Rattle.rml_builtin.specs.declared.applied.Applied.{Applied}
use Rattle.rml_builtin.specs.Applied.{Store, gives_one, or_no, ranged}
use Rattle.rml_builtin.specs.Arguments.{int_of, text_at, text_of as bytes_in, one}
use Rattle.rml_builtin.specs.Texts.{int_from, nth_char}
use Rattle.rml_builtin.specs.Decimal.{integer_of, read}
use Rattle.rml_builtin.specs.BuiltIns.{apply}
use Rattle.rml_heap.specs.declared.cell.Cell.{Cell}
use Rattle.rml_heap.specs.Form as form
use Rattle.rml_heap.specs.Form.{Form, address, form_of, or_zero}
use Rattle.rml_heap.specs.Text.{words_for, word_of_bytes, bytes_of_word, packed, same_words, text_of, word_cell}
use Rattle.rml_heap.specs.Reading.{cell_at, look, looks, each_of, word_in, word_of, parts_of, block_value, value_below, Stands, AllStand}
use Rattle.rml_heap.proofs.Callers.{BlockStands, EachByte, IsHead, block-address, block-form, block-kind, block-stands, each-drop, head-is, length-each_of, length-looks, look-is, map-some, outline, outline_of, text-packed, text-read, then-some, unset-form, word-byte}
use Rattle.rml_prims.specs.Shapes.{IsText, OneText, TextAndInt, char_cell, int_cell, index_in}
use Rattle.rml_prims.specs.Found.{CanApply, Finds, IsFound}
use Rattle.rml_prims.proofs.PlainCells.{HasHead, char-stands, int-cell, int-value, one-cell, stands-head}
use Rattle.rml_prims.proofs.Arguments.{One, Two, one-told, two-told, one-given, two-given, one-cells, two-cells, one-values, two-values}
use Rattle.rml_prims.proofs.LaidCells.{char-laid}
use Rattle.rml_prims.proofs.Calculations.{int_or_no, found-int, ranged-is}
use Rattle.rml_prims.proofs.PlacedCells.{text-form}

-- ---- bytes

word-each : (i : ℤ) → EachByte (bytes_of_word i)
unfolding bytes_of_word
word-each i zero = omega arith
word-each i (suc zero) = omega arith
word-each i (suc (suc zero)) = omega arith
word-each i (suc (suc (suc zero))) = omega arith
word-each i (suc (suc (suc (suc zero)))) = omega arith
word-each i (suc (suc (suc (suc (suc zero))))) = omega arith
word-each i (suc (suc (suc (suc (suc (suc zero)))))) = omega arith
word-each i (suc (suc (suc (suc (suc (suc (suc zero))))))) = omega arith
word-each i (suc (suc (suc (suc (suc (suc (suc (suc k)))))))) = omega arith

pub append-each : (xs ys : List ℕ) → EachByte xs → EachByte ys → EachByte (xs ++ ys)
append-each xs ys left right i =
    elim (cases_lt i (length xs)) [
      | inl inside ↦ let e = get_or_append_left xs ys 0 i inside in let b = left i in omega (arith, e, b)
      | inr past ↦ let e = get_or-append_right xs ys (length xs) i 0 refl past in let b = right (i - length xs) in omega (arith, e, b)
    ]

words-each : (is : List ℤ) → EachByte (flat_map bytes_of_word is)
words-each [] = λ i. omega arith
words-each (j ∷ js) = append-each (bytes_of_word j) (flat_map bytes_of_word js) (word-each j) (words-each js)

take-each : (n : ℕ) (xs : List ℕ) → EachByte xs → EachByte (take n xs)
take-each n xs each i =
    elim (cases_lt i n) [
      | inl inside ↦ let e = get_or-take n xs i 0 inside in let b = each i in omega (arith, e, b)
      | inr past ↦
          let short = length-take n xs in
          let out : length (take n xs) ≤ i = omega (arith, short, past) in
          let e : get_or (take n xs) i 0 ≡ 0 = get_or_past (take n xs) i 0 out in
          omega (arith, e)
    ]

text-each : (n : ℕ) (words : List ℤ) (bytes : List ℕ) → text_of n words ≡ Some bytes → EachByte bytes
unfolding text_of
text-each n words bytes h =
    let all : List ℕ = take n (flat_map bytes_of_word words) in
    let is : bytes ≡ all = chosen (same_words (packed (words_for n) all) words) all bytes h in
    let P : List ℕ → Type 0 = EachByte in
    subst P (sym is) (take-each n (flat_map bytes_of_word words) (words-each words))
  where
    chosen : (b : Bool) (x y : List ℕ) → (if b then Some x else None) ≡ Some y → y ≡ x
    chosen true x y h = cc
    chosen false x y h = absurd (cc)

packed-at : (n : ℕ) (bytes : List ℕ) (i : ℕ) → i < n → slice_get (packed n bytes) i ≡ Some (word_of_bytes (drop (8 * i) bytes))
packed-at zero bytes i inside = absurd (omega (arith, inside))
packed-at (suc n) bytes zero inside = refl
packed-at (suc n) bytes (suc i) inside =
    let less : i < n = omega (arith, inside) in
    let far : 8 + 8 * i ≡ 8 * suc i = omega arith in
    packed-at n (drop 8 bytes) i less ∙ ap (λ bs. Some (word_of_bytes bs)) (drop-drop (8 * i) 8 bytes ∙ ap (λ k. drop k bytes) far)

-- ---- words

word-in : (c : Cell) (i : ℤ) → word_of c ≡ Some i → form_of c ≡ form.Int i
word-in c i h = told (form_of c) h
  where
    told : (f : Form) → word_in f ≡ Some i → f ≡ form.Int i
    told (form.Int j) h = cc
    told _ h = absurd (cc)

words-at : (cells : List Cell) (n at i : ℕ) (is : List ℤ) (w : ℤ) → i < n → each_of word_of (looks cells at n) ≡ Some is → slice_get is i ≡ Some w → word_of (look cells (at + i)) ≡ Some w
words-at cells zero at i is w inside h k = absurd (omega (arith, inside))
words-at cells (suc n) at zero is w inside h k =
    let first = then-some (λ x. option_map (λ xs. x ∷ xs) (each_of word_of (looks cells (suc at) n))) (word_of (look cells at)) is h in
    let rest = map-some (λ xs. first.0 ∷ xs) (each_of word_of (looks cells (suc at) n)) is first.2 in
    let same : Some first.0 ≡ Some w = sym (ap (λ js. slice_get js 0) rest.2) ∙ k in
    let here : at + 0 ≡ at = omega arith in
    ap (λ m. word_of (look cells m)) here ∙ first.1 ∙ same
words-at cells (suc n) at (suc i) is w inside h k =
    let first = then-some (λ x. option_map (λ xs. x ∷ xs) (each_of word_of (looks cells (suc at) n))) (word_of (look cells at)) is h in
    let rest = map-some (λ xs. first.0 ∷ xs) (each_of word_of (looks cells (suc at) n)) is first.2 in
    let less : i < n = omega (arith, inside) in
    let there : at + suc i ≡ suc at + i = omega arith in
    ap (λ m. word_of (look cells m)) there ∙ words-at cells n (suc at) i rest.0 w less rest.1 (sym (ap (λ js. slice_get js (suc i)) rest.2) ∙ k)

word-cell-is : (cells : List Cell) (at : ℕ) (w : ℤ) → word_of (look cells at) ≡ Some w → cell_at cells at ≡ word_cell w
word-cell-is cells at w h =
    let f : form_of (look cells at) ≡ form.Int w = word-in (look cells at) w h in
    let some : form.Int w ≢ form.Other = λ e. cc in
    elim (look-is cells at) [
      | inl hidden ↦ let g : form.Int w ≡ form.Unset = sym f ∙ ap form_of hidden ∙ unset-form in absurd (cc)
      | inr seen ↦ sym seen ∙ one-cell (look cells at) (form.Int w) f some
    ]

-- ---- the block of a text

text-out : (out : Value-F Value) (bytes : List ℕ) → text_at out ≡ Some bytes → outline_of out ≡ form.Text (length bytes)
text-out (Value-F.Text bs) bytes h = let same : bs ≡ bytes = cc in ap (λ (us : List ℕ). form.Text (length us)) same
text-out _ bytes h = absurd (cc)

-- what is read of a block whose head is a text's
pub record TextRead (cells : List Cell) (top at n : ℕ) (v : Value) : Type 0 where
  pub bytes : List ℕ
  pub is : v ≡ value.Text bytes
  pub long : length bytes ≡ n
  pub each : EachByte bytes
  pub words : each_of word_of (looks cells (suc at) (words_for n)) ≡ Some (packed (words_for n) bytes)
  pub fits : suc (at + words_for n) ≤ top

text-read-block : (cells : List Cell) (names : List ℕ) (top at n : ℕ) (v : Value) → form_of (look cells at) ≡ form.Text n → BlockStands cells names top at v → TextRead cells top at n v
text-read-block cells names top at n v is h =
    let P : Form → Type 0 = λ f. block_value (value_below h.depth cells names at) names at f (looks cells (suc at) (parts_of f)) ≡ Some v in
    let parts : List Cell = looks cells (suc at) (words_for n) in
    let read : option_map value.Text (option_and_then (text_of n) (each_of word_of parts)) ≡ Some v = subst P is h.value in
    let text = map-some value.Text (option_and_then (text_of n) (each_of word_of parts)) v read in
    let words = then-some (text_of n) (each_of word_of parts) text.0 text.1 in
    let packed_is = text-packed n words.0 text.0 words.2 in
    let count : length words.0 ≡ words_for n = length-each_of word_of parts words.0 words.1 ∙ length-looks cells (words_for n) (suc at) in
    let F : Form → Type 0 = λ f. suc (at + parts_of f) ≤ top in
    record {
      bytes = text.0;
      is = text.2;
      long = packed_is.1 count;
      each = text-each n words.0 text.0 words.2;
      words = words.1 ∙ ap Some (sym packed_is.0);
      fits = subst F is h.fits;
    }

pub is-text : (cells : List Cell) (names : List ℕ) (c : Cell) (v : Value) (bytes : List ℕ) → bytes_in v ≡ Some bytes → Stands cells names (length cells) c v → (at size : ℕ) × (bs : List ℕ) × IsText cells c at size bs
is-text cells names c v bytes is h =
    let n : ℕ = length bytes in
    let out : outline v ≡ form.Text n = text-out (out-Value v) bytes is in
    let b : HasHead cells names (length cells) c v (form.Text n) = stands-head cells names (length cells) c v (form.Text n) tt out h in
    let r : TextRead cells (length cells) b.at n v = text-read-block cells names (length cells) b.at n v b.head b.stands in
    let some : form.Text n ≢ form.Other = λ e. cc in (
      b.at,
      n,
      r.bytes,
      record {
        is = block-kind c b.at b.form_is;
        head = one-cell (look cells b.at) (form.Text n) b.head some;
        fits = r.fits;
        long = r.long;
        each = r.each;
        words = r.words;
      },
    )

pub one-text : (cells inputs : List Cell) (names : List ℕ) (vs : List Value) → AllStand cells names (length cells) inputs vs → One bytes_in vs → OneText cells inputs
one-text cells inputs names vs stand one =
    let P : List Value → Type 0 = λ ws. AllStand cells names (length cells) inputs ws in
    let told = one-cells cells names (length cells) inputs one.v (subst P one.is stand) in
    let text = is-text cells names told.0 one.v one.x one.first told.2 in
    record { at = text.0; size = text.1; bytes = text.2; c = told.0; is = told.1; text = text.3 }

pub length-text-cell : (cells inputs : List Cell) → CanApply StringLength cells inputs → OneText cells inputs
length-text-cell cells inputs can = one-text cells inputs can.names can.values can.stand (one-told bytes_in can.values (λ t. ranged (pos (length t)) can.store) can.right)

pub int-text : (cells inputs : List Cell) → CanApply StringInt cells inputs → OneText cells inputs
int-text cells inputs can = one-text cells inputs can.names can.values can.stand (one-told bytes_in can.values (λ t. int_from t can.store) can.right)

pub nth-text : (cells inputs : List Cell) → CanApply StringNth cells inputs → TextAndInt cells inputs
nth-text cells inputs can =
    let given : Two bytes_in int_of can.values = two-told bytes_in int_of can.values (λ p. nth_char p.0 p.1 can.store) can.right in
    let P : List Value → Type 0 = λ ws. AllStand cells can.names (length cells) inputs ws in
    let told = two-cells cells can.names (length cells) inputs given.v given.w (subst P given.is can.stand) in
    let text = is-text cells can.names told.0 given.v given.x given.first told.3 in
    let second : told.1 ≡ int_cell given.y = int-cell cells can.names (length cells) told.1 given.w given.y given.second told.4 in
    record { at = text.0; size = text.1; bytes = text.2; c = told.0; n = given.y; is = told.2 ∙ ap (λ (c : Cell). told.0 ∷ c ∷ []) second; text = text.3 }

-- ---- what is read of it by its address

pub record TextPlace (cells : List Cell) (c : Cell) (at size : ℕ) : Type 0 where
  pub place : address c.number ≡ at
  pub inside : at < length cells
  pub count : or_zero (cell_at cells at).number ≡ size
  pub small : size < 2 ^ 32

pub text-place : (cells : List Cell) (c : Cell) (at size : ℕ) (bytes : List ℕ) → length cells < 2 ^ 27 → IsText cells c at size bytes → TextPlace cells c at size
text-place cells c at size bytes small h =
    let fits : suc (at + words_for size) ≤ length cells = h.fits in
    let low : at < 2 ^ 32 = omega (arith, fits, small) in
    let form_is : form_of (look cells at) ≡ form.Text size = ap form_of h.head ∙ text-form size in
    let P : Form → Type 0 = IsHead in
    let there : look cells at ≡ cell_at cells at = head-is cells at (subst P (sym form_is) tt) in
    record {
      place = block-address c at (ap form_of h.is ∙ block-form at) low;
      inside = omega (arith, fits);
      count = ap (λ (d : Cell). or_zero d.number) (sym there ∙ h.head);
      small = omega (arith, fits, small);
    }

-- a word of it
pub word-there : (cells : List Cell) (c : Cell) (at size : ℕ) (bytes : List ℕ) (k : ℕ) → k < words_for size → IsText cells c at size bytes → cell_at cells (suc (at + k)) ≡ word_cell (word_of_bytes (drop (8 * k) bytes))
word-there cells c at size bytes k inside h =
    let there : suc at + k ≡ suc (at + k) = omega arith in
    ap (cell_at cells) (sym there) ∙ word-cell-is cells (suc at + k) (word_of_bytes (drop (8 * k) bytes)) (words-at cells (words_for size) (suc at) k (packed (words_for size) bytes) (word_of_bytes (drop (8 * k) bytes)) inside h.words (packed-at (words_for size) bytes k inside))

-- a byte of it
pub byte-there : (bytes : List ℕ) (i : ℕ) → EachByte bytes → get_or (bytes_of_word (word_of_bytes (drop (8 * (i / 8)) bytes))) (i % 8) 0 ≡ get_or bytes i 0
byte-there bytes i each =
    let below : i % 8 < 8 = omega arith in
    let whole : 8 * (i / 8) + i % 8 ≡ i = omega arith in
    word-byte (drop (8 * (i / 8)) bytes) (each-drop (8 * (i / 8)) bytes each) (i % 8) below ∙ get_or-drop (8 * (i / 8)) bytes (i % 8) 0 ∙ ap (λ k. get_or bytes k 0) whole

-- ---- the rows

-- the text of the cell, under any names
pub any-text : (cells : List Cell) (names : List ℕ) (c : Cell) (at size : ℕ) (bytes : List ℕ) (v : Value) → IsText cells c at size bytes → Stands cells names (length cells) c v → v ≡ value.Text bytes
any-text cells names c at size bytes v h stands =
    let block : BlockStands cells names (length cells) at v = block-stands cells names (length cells) at c v (ap form_of h.is ∙ block-form at) stands in
    let r : TextRead cells (length cells) at size v = text-read-block cells names (length cells) at size v (ap form_of h.head ∙ text-form size) block in
    let same : Some (packed (words_for size) r.bytes) ≡ Some (packed (words_for size) bytes) = sym r.words ∙ h.words in
    let words : packed (words_for size) r.bytes ≡ packed (words_for size) bytes = cc in
    let one : Some r.bytes ≡ Some bytes = sym (again r.bytes r.long r.each) ∙ ap (text_of size) words ∙ again bytes h.long h.each in
    let is : r.bytes ≡ bytes = cc in
    r.is ∙ ap value.Text is
  where
    again : (bs : List ℕ) → length bs ≡ size → EachByte bs → text_of size (packed (words_for size) bs) ≡ Some bs
    again bs long each = let P : ℕ → Type 0 = λ n. text_of n (packed (words_for n) bs) ≡ Some bs in subst P long (text-read bs each)

pub text-bytes : (v : Value) (bytes : List ℕ) → v ≡ value.Text bytes → bytes_in v ≡ Some bytes
text-bytes v bytes is = ap bytes_in is ∙ ap text_at (outs-Text bytes)

pub text_length-finds : (cells : List Cell) (c : Cell) (at size : ℕ) (bytes : List ℕ) → IsText cells c at size bytes → Finds StringLength cells (c ∷ []) (option_map int_cell (integer_of (pos size)))
text_length-finds cells c at size bytes h names store values stand =
    let told = one-values cells names (length cells) c values stand in
    let is : told.0 ≡ value.Text bytes = any-text cells names c at size bytes told.0 h told.2 in
    let same : apply StringLength values store ≡ int_or_no store (integer_of (pos size)) =
    ap (λ ws. apply StringLength ws store) told.1 ∙ one-given bytes_in (λ t. ranged (pos (length t)) store) told.0 bytes (text-bytes told.0 bytes is)
    ∙ ap (λ n. ranged (pos n) store) h.long ∙ ranged-is (pos size) store
    in
    let F : Applied → Type 0 = λ a. IsFound StringLength cells (c ∷ []) names store a (option_map int_cell (integer_of (pos size))) in
    subst F (sym same) (found-int StringLength (λ cs inputs v. refl) cells (c ∷ []) names store (integer_of (pos size)))

pub int-finds : (cells : List Cell) (c : Cell) (at size : ℕ) (bytes : List ℕ) → IsText cells c at size bytes → Finds StringInt cells (c ∷ []) (option_map int_cell (read bytes))
int-finds cells c at size bytes h names store values stand =
    let told = one-values cells names (length cells) c values stand in
    let is : told.0 ≡ value.Text bytes = any-text cells names c at size bytes told.0 h told.2 in
    let same : apply StringInt values store ≡ int_or_no store (read bytes) =
    ap (λ ws. apply StringInt ws store) told.1 ∙ one-given bytes_in (λ t. int_from t store) told.0 bytes (text-bytes told.0 bytes is)
    in
    let F : Applied → Type 0 = λ a. IsFound StringInt cells (c ∷ []) names store a (option_map int_cell (read bytes)) in
    subst F (sym same) (found-int StringInt (λ cs inputs v. refl) cells (c ∷ []) names store (read bytes))

nth-char-found : (cells inputs : List Cell) (names : List ℕ) (store : Store) (size : ℕ) (bytes : List ℕ) → length bytes ≡ size → EachByte bytes
    → (n : ℤ) → IsFound StringNth cells inputs names store (nth_char bytes n store) (option_map (λ i. char_cell (get_or bytes i 0)) (index_in n size))
nth-char-found cells inputs names store size bytes long each (negsuc n) = tt
nth-char-found cells inputs names store size bytes long each (pos i) =
    let F : Option ℕ → Bool → Type 0 = λ o b. IsFound StringNth cells inputs names store (or_no o (λ c. gives_one (value.Char c) store)) (option_map (λ j. char_cell (get_or bytes j 0)) (if b then Some i else None)) in
    let G : Bool → Type 0 = λ b. F (slice_get bytes i) b in
    elim (cases_lt i size) [
      | inl inside ↦
          let within : i < length bytes = omega (arith, inside, long) in
          let lt : nat_lt i size ≡ true = grind (arith, inside) in
          let H : Option ℕ → Type 0 = λ o. F o true in
          subst G (sym lt) (subst H (sym (slice_get-get_or bytes i 0 within)) (refl, (char-stands cells names (length cells) (get_or bytes i 0) (each i), tt), char-laid StringNth (λ cs is v. refl) cells inputs (get_or bytes i 0)))
      | inr past ↦
          let none : slice_get bytes i ≡ None = slice_get_past bytes i (omega (arith, past, long)) in
          let lt : nat_lt i size ≡ false = grind (arith, past) in
          let H : Option ℕ → Type 0 = λ o. F o false in
          subst G (sym lt) (subst H (sym none) tt)
    ]

pub nth_char-finds : (cells : List Cell) (c : Cell) (at size : ℕ) (bytes : List ℕ) (n : ℤ) → IsText cells c at size bytes → Finds StringNth cells (c ∷ int_cell n ∷ []) (option_map (λ i. char_cell (get_or bytes i 0)) (index_in n size))
nth_char-finds cells c at size bytes n h names store values stand =
    let told = two-values cells names (length cells) c (int_cell n) values stand in
    let is : told.0 ≡ value.Text bytes = any-text cells names c at size bytes told.0 h told.3 in
    let same : apply StringNth values store ≡ nth_char bytes n store =
    ap (λ ws. apply StringNth ws store) told.2
    ∙ two-given bytes_in int_of (λ p. nth_char p.0 p.1 store) told.0 told.1 bytes n (text-bytes told.0 bytes is) (int-value cells names (length cells) n told.1 told.4)
    in
    let F : Applied → Type 0 = λ a. IsFound StringNth cells (c ∷ int_cell n ∷ []) names store a (option_map (λ i. char_cell (get_or bytes i 0)) (index_in n size)) in
    subst F (sym same) (nth-char-found cells (c ∷ int_cell n ∷ []) names store size bytes h.long h.each n)
