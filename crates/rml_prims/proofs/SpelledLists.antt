-- The row whose result is the list of a text's characters, whose last `::` is placed first.
use Rattle.std.proofs.Common.{◌≡◌, ◌≢◌, ℕ, zero, suc, ◌+◌, ◌-◌, ◌*◌, ◌<◌, ◌≤◌, List, [], ◌∷◌, ◌++◌, Some, Ok, Err, map, length, get_or, drop, refl, sym, ap, subst, ◌∙◌, arith, append_assoc, length-append}
use Rattle.std.specs.Option.{option_and_then}
use Rattle.std.proofs.lemmas.List.{append-nil, get_or_append_left, length-map}
use Rattle.std.proofs.lemmas.Option.{slice_get-get_or}
use Rattle.rml_value.specs.declared.value.Value.{Value}
use Rattle.rml_value.specs.declared.value.Value.TheVariants as value
use Rattle.rml_value.specs.declared.value.TheConstants.{NIL}
use Rattle.rml_value.specs.Lists.{list_of}
use Rattle.rml_value.proofs.Callers.{items_of-list_of}
use Rattle.rml_builtin.specs.declared.row.Row.TheVariants.{StringList}
use Rattle.rml_builtin.specs.declared.applied.Applied.{Applied}
use Rattle.rml_builtin.specs.Applied.{Store, gives_one}
use Rattle.rml_builtin.specs.Arguments.{chars_in, chars_of, text_of as bytes_in, with_char}
use Rattle.rml_builtin.specs.BuiltIns.{apply}
use Rattle.rml_heap.specs.declared.cell.Cell.{Cell}
use Rattle.rml_heap.specs.declared.heap.Full.{Full}
use Rattle.rml_heap.specs.HeapState.{HeapState, HasRoom, unset_cell}
use Rattle.rml_heap.specs.Form as form
use Rattle.rml_heap.specs.Text.{words_for}
use Rattle.rml_heap.specs.Reading.{form_before, look, looks, each_of, word_of, Stands, AllStand}
use Rattle.rml_heap.proofs.Callers.{EachByte, look-below}
use Rattle.rml_prims.specs.Shapes.{IsText, OneText, block_cell, char_cell, con_cell, cons_head}
use Rattle.rml_prims.specs.Taken.{cells_taken}
use Rattle.rml_prims.specs.Laid.{characters, list_laid, one_result}
use Rattle.rml_prims.specs.Found.{CanApply, DoNotFit, IsMade, Makes}
use Rattle.rml_prims.proofs.PlainCells.{char-is, char-stands, con-stands}
use Rattle.rml_prims.proofs.Arguments.{one-given, one-told, one-values}
use Rattle.rml_prims.proofs.PlacedCells.{cons-last, cons-stands}
use Rattle.rml_prims.proofs.MadeLists.{drop-all, drop-get, list-takes, none-laid, onto-laid}
use Rattle.rml_prims.proofs.TextCells.{any-text, one-text, text-bytes}

-- ---- a text after cells were added

words-same : (before after : List Cell) (n at : ℕ) → ((i : ℕ) → i < length before → look after i ≡ look before i) → at + n ≤ length before → looks after at n ≡ looks before at n
words-same before after zero at same fits = refl
words-same before after (suc n) at same fits =
    let here : at < length before = omega (arith, fits) in
    let rest : suc at + n ≤ length before = omega (arith, fits) in
    ap (λ (c : Cell). c ∷ looks after (suc at) n) (same at here) ∙ ap (λ cs. look before at ∷ cs) (words-same before after n (suc at) same rest)

pub text-more : (cells more : List Cell) (c : Cell) (at size : ℕ) (bytes : List ℕ) → IsText cells c at size bytes → IsText (cells ++ more) c at size bytes
text-more cells more c at size bytes h =
    let fits : suc (at + words_for size) ≤ length cells = h.fits in
    let long = length-append cells more in
    let seen : (i : ℕ) → i < length cells → look (cells ++ more) i ≡ look cells i = look-below cells (cells ++ more) (length cells) (λ i low. get_or_append_left cells more unset_cell i low) in
    let inside : suc at + words_for size ≤ length cells = omega (arith, fits) in
    record {
      is = h.is;
      head = seen at (omega (arith, fits)) ∙ h.head;
      fits = omega (arith, fits, long);
      long = h.long;
      each = h.each;
      words = ap (each_of word_of) (words-same cells (cells ++ more) (words_for size) (suc at) seen inside) ∙ h.words;
    }

-- ---- a list of the last characters of a text

pub record IsSpelled (size i : ℕ) (bytes : List ℕ) (now : List Cell) (list : Cell) (names : List ℕ) : Type 0 where
  pub last : form_before now (length now) ≢ form.Lvar
  pub stands : Stands now names (length now) list (list_of (map value.Char (drop (size - i) bytes)))

pub record Spelling (old : HeapState) (size i : ℕ) (bytes : List ℕ) (now : HeapState) (list : Cell) : Type 0 where
  pub cells : List Cell
  pub heap : now ≡ record old { values = old.values ++ cells }
  pub long : length cells ≡ 3 * i
  pub laid : list_laid (length old.values) (map char_cell (drop (size - i) bytes)) ≡ record { added = cells; cell = list }
  pub spelled : (names : List ℕ) → form_before old.values (length old.values) ≢ form.Lvar → IsSpelled size i bytes now.values list names

pub spelling-start : (old : HeapState) (size : ℕ) (bytes : List ℕ) (list : Cell) → length bytes ≡ size → list ≡ con_cell NIL → Spelling old size 0 bytes old list
spelling-start old size bytes list size_is is =
    let none : drop (size - 0) bytes ≡ [] = let e : size - 0 ≡ length bytes = omega (arith, size_is) in ap (λ n. drop n bytes) e ∙ drop-all bytes in
    record {
      cells = [];
      heap = ap (λ (vs : List Cell). record old { values = vs }) (sym (append-nil old.values));
      long = refl;
      laid = none-laid (length old.values) (map char_cell (drop (size - 0) bytes)) list (ap (map char_cell) none) is;
      spelled = λ names clear.
          let V : List ℕ → Type 0 = λ bs. Stands old.values names (length old.values) list (list_of (map value.Char bs)) in
          let C : Cell → Type 0 = λ c. Stands old.values names (length old.values) c (list_of []) in
          record { last = clear; stands = subst V (sym none) (subst C (sym is) (con-stands old.values names (length old.values) NIL)) };
    }

pub spelling-step : (old : HeapState) (size i : ℕ) (bytes : List ℕ) (now after : HeapState) (list item next : Cell) → length bytes ≡ size → EachByte bytes → i < size → Spelling old size i bytes now list
    → item ≡ char_cell (get_or bytes (size - 1 - i) 0) → after ≡ record now { values = now.values ++ cons_head ∷ item ∷ list ∷ [] } → next ≡ block_cell (length now.values)
    → Spelling old size (i + 1) bytes after next
spelling-step old size i bytes now after list item next size_is each inside h item_is added next_is =
    let three : List Cell = cons_head ∷ item ∷ list ∷ [] in
    let after_values : after.values ≡ now.values ++ three = ap (λ (s : HeapState). s.values) added in
    let k : ℕ = size - 1 - i in
    let size_now : length (h.cells ++ three) ≡ length h.cells + 3 = length-append h.cells three in
    let c : ℕ = get_or bytes k 0 in
    let low : k < length bytes = omega (arith, inside, size_is) in
    let rest : List ℕ = drop (size - i) bytes in
    let front : drop (size - (i + 1)) bytes ≡ c ∷ rest =
    let before : size - (i + 1) ≡ k = omega arith in
    let later : suc k ≡ size - i = omega (arith, inside) in
    ap (λ n. drop n bytes) before ∙ drop-get bytes k c (slice_get-get_or bytes k 0 low) ∙ ap (λ n. c ∷ drop n bytes) later
    in
    let now_long : length now.values ≡ length old.values + length h.cells = ap (λ (s : HeapState). length s.values) h.heap ∙ length-append old.values h.cells in
    let cells_front : map char_cell (drop (size - (i + 1)) bytes) ≡ item ∷ map char_cell rest = ap (map char_cell) front ∙ ap (λ (d : Cell). d ∷ map char_cell rest) (sym item_is) in
    record {
      cells = h.cells ++ three;
      laid = onto-laid (length old.values) (map char_cell (drop (size - (i + 1)) bytes)) item (map char_cell rest) h.cells list next cells_front h.laid (next_is ∙ ap block_cell now_long);
      heap = added ∙ ap (λ (s : HeapState). record s { values = s.values ++ three }) h.heap ∙ ap (λ (vs : List Cell). record old { values = vs }) (append_assoc old.values h.cells three);
      long = let l = h.long in omega (arith, l, size_now);
      spelled = λ names clear.
          let was : IsSpelled size i bytes now.values list names = h.spelled names clear in
          let I : Cell → Type 0 = λ d. Stands now.values names (length now.values) d (value.Char c) in
          let item_stands : Stands now.values names (length now.values) item (value.Char c) = subst I (sym item_is) (char-stands now.values names (length now.values) c (each k)) in
          let L : List Cell → Type 0 = λ ws. form_before ws (length ws) ≢ form.Lvar in
          let S : List Cell → Type 0 = λ ws. Stands ws names (length ws) (block_cell (length now.values)) (list_of (map value.Char (c ∷ rest))) in
          let C : Cell → Type 0 = λ d. Stands after.values names (length after.values) d (list_of (map value.Char (c ∷ rest))) in
          let V : List ℕ → Type 0 = λ bs. Stands after.values names (length after.values) next (list_of (map value.Char bs)) in
          record {
            last = subst L (sym after_values) (cons-last now.values names item list (value.Char c) (list_of (map value.Char rest)) item_stands was.stands);
            stands = subst V (sym front) (subst C (sym next_is) (subst S (sym after_values) (cons-stands now.values names item list (value.Char c) (list_of (map value.Char rest)) was.last item_stands was.stands)));
          };
    }

pub spelling-room : (old now : HeapState) (size i : ℕ) (bytes : List ℕ) (list : Cell) → HasRoom old (3 * size) → i < size → Spelling old size i bytes now list → HasRoom now 3
spelling-room old now size i bytes list room inside h =
    let values : length now.values ≡ length old.values + length h.cells = ap (λ (s : HeapState). length s.values) h.heap ∙ length-append old.values h.cells in
    let frames : length now.frames ≡ length old.frames = ap (λ (s : HeapState). length s.frames) h.heap in
    let limit : now.limit ≡ old.limit = ap (λ (s : HeapState). s.limit) h.heap in
    let long = h.long in
    omega (arith, room, inside, values, frames, limit, long)

pub spelling-text : (old now : HeapState) (at size i : ℕ) (bytes : List ℕ) (list c : Cell) → IsText old.values c at size bytes → Spelling old size i bytes now list → IsText now.values c at size bytes
spelling-text old now at size i bytes list c text h =
    let values : now.values ≡ old.values ++ h.cells = ap (λ (s : HeapState). s.values) h.heap in
    let P : List Cell → Type 0 = λ ws. IsText ws c at size bytes in
    subst P (sym values) (text-more old.values h.cells c at size bytes text)

-- ---- the row

-- the cells of the characters of a list of characters
chars-are : (bytes : List ℕ) → chars_in (map value.Char bytes) ≡ Some bytes
chars-are [] = refl
chars-are (b ∷ bs) = ap (λ o. with_char o (chars_in (map value.Char bs))) (char-is b) ∙ ap (with_char (Some b)) (chars-are bs)

each-character : (bytes : List ℕ) → characters (Some bytes) ≡ map char_cell bytes
each-character [] = refl
each-character (b ∷ bs) = ap (λ (cs : List Cell). char_cell b ∷ cs) (each-character bs)

characters-are : (bytes : List ℕ) → characters (chars_of (list_of (map value.Char bytes))) ≡ map char_cell bytes
characters-are bytes = ap characters (ap (option_and_then chars_in) (items_of-list_of (map value.Char bytes)) ∙ chars-are bytes) ∙ each-character bytes

pub spelled-text : (cells inputs : List Cell) → CanApply StringList cells inputs → OneText cells inputs
spelled-text cells inputs can = one-text cells inputs can.names can.values can.stand (one-told bytes_in can.values (λ t. gives_one (list_of (map value.Char t)) can.store) can.right)

spelled-gives : (cells : List Cell) (names : List ℕ) (store : Store) (values : List Value) (c : Cell) (at size : ℕ) (bytes : List ℕ) → IsText cells c at size bytes → AllStand cells names (length cells) (c ∷ []) values
    → apply StringList values store ≡ gives_one (list_of (map value.Char bytes)) store
spelled-gives cells names store values c at size bytes text stand =
    let told = one-values cells names (length cells) c values stand in
    let is : told.0 ≡ value.Text bytes = any-text cells names c at size bytes told.0 text told.2 in
    ap (λ ws. apply StringList ws store) told.1 ∙ one-given bytes_in (λ t. gives_one (list_of (map value.Char t)) store) told.0 bytes (text-bytes told.0 bytes is)

spelled-takes : (size : ℕ) (bytes : List ℕ) → length bytes ≡ size → cells_taken StringList (list_of (map value.Char bytes) ∷ []) ≡ 3 * size
spelled-takes size bytes long = list-takes (map value.Char bytes) ∙ ap (λ n. 3 * n) (length-map bytes value.Char ∙ long)

pub spelled-makes : (old now : HeapState) (c list : Cell) (at size : ℕ) (bytes : List ℕ) → HasRoom old (3 * size) → IsText old.values c at size bytes → Spelling old size size bytes now list → Makes StringList old (c ∷ []) now (Ok list)
spelled-makes old now c list at size bytes room text h names store values binds stand =
    let done : IsSpelled size size bytes now.values list names = h.spelled names binds.last in
    let whole : drop (size - size) bytes ≡ bytes = let e : size - size ≡ 0 = omega arith in ap (λ n. drop n bytes) e in
    let V : List ℕ → Type 0 = λ bs. Stands now.values names (length now.values) list (list_of (map value.Char bs)) in
    let takes : cells_taken StringList (list_of (map value.Char bytes) ∷ []) ≡ 3 * size = spelled-takes size bytes text.long in
    let M : Applied → Type 0 = λ a. IsMade StringList (c ∷ []) names store old a now (Ok list) in
    subst M (sym (spelled-gives old.values names store values c at size bytes text stand)) (record {
      cells = h.cells;
      laid = ap one_result (ap (list_laid (length old.values)) (characters-are bytes ∙ ap (map char_cell) (sym whole)) ∙ h.laid);
      taken = h.long ∙ sym takes;
      room = omega (arith, room, takes);
      heap = h.heap;
      last = done.last;
      stays = refl;
      result = (subst V whole done.stands, tt);
    })

pub spelled-full : (old now : HeapState) (c : Cell) (full : Full) (at size : ℕ) (bytes : List ℕ) → DoNotFit old (3 * size) full → now ≡ old → IsText old.values c at size bytes → Makes StringList old (c ∷ []) now (Err full)
spelled-full old now c full at size bytes not_fit same text names store values binds stand =
    let takes : cells_taken StringList (list_of (map value.Char bytes) ∷ []) ≡ 3 * size = spelled-takes size bytes text.long in
    let M : Applied → Type 0 = λ a. IsMade StringList (c ∷ []) names store old a now (Err full) in
    let D : ℕ → Type 0 = λ n. DoNotFit old n full in
    subst M (sym (spelled-gives old.values names store values c at size bytes text stand)) (subst D (sym takes) not_fit, same)
