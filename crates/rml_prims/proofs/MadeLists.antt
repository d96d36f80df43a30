-- Rows whose result is a list, whose last `::` is placed first.
use Rattle.std.proofs.Common.{◌≡◌, ◌≢◌, ℕ, zero, suc, ◌+◌, ◌-◌, ◌*◌, ◌<◌, ◌≤◌, List, [], ◌∷◌, ◌++◌, Some, None, Ok, Err, length, take, drop, refl, sym, ap, subst, ◌∙◌, arith, append_assoc, length-append, zero-add}
use Rattle.std.specs.Prelude.{slice_get, sum_by}
use Rattle.std.proofs.Math.ListN.{drop_of_length-le}
use Rattle.std.proofs.lemmas.List.{append-nil, get_or_append_left, length-drop, length-take, length-take-le}
use Rattle.std.proofs.lemmas.Option.{slice_get-get_or}
use Rattle.rml_value.specs.declared.value.Value.{Value}
use Rattle.rml_value.specs.declared.value.Value.TheVariants.{outs-Con}
use Rattle.rml_value.specs.declared.value.TheConstants.{CONS, NIL}
use Rattle.rml_value.specs.Lists.{list_of}
use Rattle.rml_value.proofs.Callers.{items_of-list_of}
use Rattle.rml_builtin.specs.declared.row.Row.{Row}
use Rattle.rml_builtin.specs.declared.row.Row.TheVariants.{IntString, StringAppend, StringList, ListString, LvarGet, ListVector, VectorList}
use Rattle.rml_builtin.specs.declared.applied.Applied.{Applied}
use Rattle.rml_builtin.specs.Applied.{Store, gives_one}
use Rattle.rml_builtin.specs.Arguments.{vector_of}
use Rattle.rml_builtin.specs.Made.{cells_at, cells_of, list_cells}
use Rattle.rml_builtin.specs.BuiltIns.{apply}
use Rattle.rml_heap.specs.declared.cell.Cell.{Cell}
use Rattle.rml_heap.specs.declared.heap.Full.{Full}
use Rattle.rml_heap.specs.HeapState.{HeapState, HasRoom, unset_cell}
use Rattle.rml_heap.specs.Form as form
use Rattle.rml_heap.specs.Reading.{cell_at, form_before, look, looks, Stands, AllStand}
use Rattle.rml_heap.proofs.Callers.{below-higher, look-below, stands-more}
use Rattle.rml_prims.specs.Shapes.{IsVector, OneVector, block_cell, con_cell, cons_head}
use Rattle.rml_prims.specs.Taken.{cells_taken}
use Rattle.rml_prims.specs.Laid.{alone, list_laid, one_result, onto_list, vector_items}
use Rattle.rml_prims.specs.Found.{CanApply, DoNotFit, IsMade, IsMaking, Makes}
use Rattle.rml_prims.proofs.PlainCells.{con-stands}
use Rattle.rml_prims.proofs.Arguments.{one-given, one-told, one-values}
use Rattle.rml_prims.proofs.VectorCells.{HasItems, any-items, item-there, items-of, one-vector, part-at, vector_items-are}
use Rattle.rml_prims.proofs.PlacedCells.{cons-last, cons-stands}

-- ---- the cells of a list

list-cells : (items : List Value) → cells_of (list_of items) ≡ 3 * length items
list-cells [] = ap (λ f. cells_at f (list_of [])) (outs-Con NIL []) ∙ ap list_cells (items_of-list_of [])
list-cells (v ∷ vs) = ap (λ f. cells_at f (list_of (v ∷ vs))) (outs-Con CONS (v ∷ list_of vs ∷ [])) ∙ ap list_cells (items_of-list_of (v ∷ vs))

pub list-takes : (items : List Value) → sum_by cells_of (list_of items ∷ []) ≡ 3 * length items
list-takes items = zero-add (cells_of (list_of items)) ∙ list-cells items

pub drop-get : {A : Type 0} (xs : List A) (k : ℕ) (x : A) → slice_get xs k ≡ Some x → drop k xs ≡ x ∷ drop (suc k) xs
drop-get {A} [] k x h = let e : None ≡ Some x = h in absurd (cc)
drop-get (y ∷ xs) zero x h = ap (λ z. z ∷ xs) cc
drop-get (y ∷ xs) (suc k) x h = drop-get xs k x h

pub drop-all : {A : Type 0} (xs : List A) → drop (length xs) xs ≡ []
drop-all [] = refl
drop-all (x ∷ xs) = drop-all xs

-- ---- a vector after cells were added

pub vector-more : (cells more : List Cell) (c : Cell) (at size : ℕ) → IsVector cells c at size → IsVector (cells ++ more) c at size
vector-more cells more c at size h =
    let fits : suc (at + size) ≤ length cells = h.fits in
    let long = length-append cells more in
    let same : (i : ℕ) → i < length cells → cell_at (cells ++ more) i ≡ cell_at cells i = λ i low. get_or_append_left cells more unset_cell i low in
    let seen : (i : ℕ) → i < length cells → look (cells ++ more) i ≡ look cells i = look-below cells (cells ++ more) (length cells) same in
    record {
      is = h.is;
      head = seen at (omega (arith, fits)) ∙ h.head;
      fits = omega (arith, fits, long);
      shown = λ i inside.
          let low : suc (at + i) < length cells = omega (arith, fits, inside) in
          seen (suc (at + i)) low ∙ h.shown i inside ∙ sym (same (suc (at + i)) low);
    }

-- ---- a list of the last items of a vector

-- the items of a vector stand for values
pub record HasParts (cells : List Cell) (names : List ℕ) (at size : ℕ) (items : List Value) : Type 0 where
  pub size_is : length items ≡ size
  pub stand : AllStand cells names at (looks cells (suc at) size) items

-- what holds of the list so far, whatever values the items stand for
pub record IsListed (old : List Cell) (at size i : ℕ) (now : List Cell) (list : Cell) (names : List ℕ) (items : List Value) : Type 0 where
  pub last : form_before now (length now) ≢ form.Lvar
  pub stands : Stands now names (length now) list (list_of (drop (size - i) items))

pub record Listing (old : HeapState) (at size i : ℕ) (now : HeapState) (list : Cell) : Type 0 where
  pub cells : List Cell
  pub heap : now ≡ record old { values = old.values ++ cells }
  pub long : length cells ≡ 3 * i
  pub laid : list_laid (length old.values) (drop (size - i) (take size (drop (suc at) old.values))) ≡ record { added = cells; cell = list }
  pub listed : (names : List ℕ) (items : List Value) → form_before old.values (length old.values) ≢ form.Lvar → HasParts old.values names at size items → IsListed old.values at size i now.values list names items

-- one more item, in front
pub onto-laid : (start : ℕ) (items : List Cell) (item : Cell) (rest : List Cell) (cells : List Cell) (list next : Cell) → items ≡ item ∷ rest → list_laid start rest ≡ record { added = cells; cell = list } → next ≡ block_cell (start + length cells)
    → list_laid start items ≡ record { added = cells ++ cons_head ∷ item ∷ list ∷ []; cell = next }
onto-laid start items item rest cells list next is laid next_is =
    ap (list_laid start) is ∙ ap (onto_list start item) laid ∙ ap (λ (c : Cell). record { added = cells ++ cons_head ∷ item ∷ list ∷ []; cell = c }) (sym next_is)

pub none-laid : (start : ℕ) (items : List Cell) (list : Cell) → items ≡ [] → list ≡ con_cell NIL → list_laid start items ≡ record { added = []; cell = list }
none-laid start items list none is = ap (list_laid start) none ∙ ap alone (sym is)

pub listing-start : (old : HeapState) (at size : ℕ) (list : Cell) → list ≡ con_cell NIL → Listing old at size 0 old list
listing-start old at size list is =
    record {
      cells = [];
      heap = ap (λ (vs : List Cell). record old { values = vs }) (sym (append-nil old.values));
      long = refl;
      laid = let short = length-take size (drop (suc at) old.values) in
          let past : length (take size (drop (suc at) old.values)) ≤ size - 0 = omega (arith, short) in
          none-laid (length old.values) (drop (size - 0) (take size (drop (suc at) old.values))) list (drop_of_length-le (take size (drop (suc at) old.values)) past) is;
      listed = λ names items clear parts.
          let none : drop (size - 0) items ≡ [] = let e : size - 0 ≡ length items = let l = parts.size_is in omega (arith, l) in ap (λ n. drop n items) e ∙ drop-all items in
          let V : List Value → Type 0 = λ vs. Stands old.values names (length old.values) list (list_of vs) in
          let C : Cell → Type 0 = λ c. Stands old.values names (length old.values) c (list_of []) in
          record { last = clear; stands = subst V (sym none) (subst C (sym is) (con-stands old.values names (length old.values) NIL)) };
    }

pub listing-step : (old : HeapState) (at size i : ℕ) (now after : HeapState) (list item next : Cell) → suc (at + size) ≤ length old.values → ((j : ℕ) → j < size → look old.values (suc (at + j)) ≡ cell_at old.values (suc (at + j))) → i < size → Listing old at size i now list
    → item ≡ look now.values (suc (at + (size - 1 - i))) → after ≡ record now { values = now.values ++ cons_head ∷ item ∷ list ∷ [] } → next ≡ block_cell (length now.values)
    → Listing old at size (i + 1) after next
listing-step old at size i now after list item next fits shown inside h item_is added next_is =
    let three : List Cell = cons_head ∷ item ∷ list ∷ [] in
    let values : now.values ≡ old.values ++ h.cells = ap (λ (s : HeapState). s.values) h.heap in
    let after_values : after.values ≡ now.values ++ three = ap (λ (s : HeapState). s.values) added in
    let k : ℕ = size - 1 - i in
    let size_now : length (h.cells ++ three) ≡ length h.cells + 3 = length-append h.cells three in
    let vector : List Cell = take size (drop (suc at) old.values) in
    let below : k < size = omega (arith, inside) in
    let old_item : item ≡ cell_at old.values (suc (at + k)) =
    let within : suc (at + k) < length old.values = omega (arith, fits, below) in
    item_is ∙ ap (λ (ws : List Cell). look ws (suc (at + k))) values ∙ look-below old.values (old.values ++ h.cells) (length old.values) (λ j less. get_or_append_left old.values h.cells unset_cell j less) (suc (at + k)) within ∙ shown k below
    in
    let vector_front : drop (size - (i + 1)) vector ≡ item ∷ drop (size - i) vector =
    let before : size - (i + 1) ≡ k = omega arith in
    let later : suc k ≡ size - i = omega (arith, inside) in
    let rest_long = length-drop (suc at) old.values in
    let enough : size ≤ length (drop (suc at) old.values) = omega (arith, rest_long, fits) in
    let vector_long : length vector ≡ size = length-take-le size (drop (suc at) old.values) enough in
    let reached : k < length vector = omega (arith, below, vector_long) in
    let there : slice_get vector k ≡ Some item = slice_get-get_or vector k unset_cell reached ∙ ap Some (item-there old.values at size k unset_cell fits below ∙ sym old_item) in
    ap (λ n. drop n vector) before ∙ drop-get vector k item there ∙ ap (λ n. item ∷ drop n vector) later
    in
    let now_long : length now.values ≡ length old.values + length h.cells = ap length values ∙ length-append old.values h.cells in
    record {
      cells = h.cells ++ three;
      laid = onto-laid (length old.values) (drop (size - (i + 1)) vector) item (drop (size - i) vector) h.cells list next vector_front h.laid (next_is ∙ ap block_cell now_long);
      heap = added ∙ ap (λ (s : HeapState). record s { values = s.values ++ three }) h.heap ∙ ap (λ (vs : List Cell). record old { values = vs }) (append_assoc old.values h.cells three);
      long = let l = h.long in omega (arith, l, size_now);
      listed = λ names items clear parts.
          let was : IsListed old.values at size i now.values list names items = h.listed names items clear parts in
          let low : k < size = omega (arith, inside) in
          let part = part-at old.values names at size (suc at) k items low parts.stand in
          let there : suc at + k ≡ suc (at + k) = omega arith in
          let within : suc (at + k) < length old.values = omega (arith, fits, low) in
          let seen : look (old.values ++ h.cells) (suc (at + k)) ≡ look old.values (suc (at + k)) = look-below old.values (old.values ++ h.cells) (length old.values) (λ j less. get_or_append_left old.values h.cells unset_cell j less) (suc (at + k)) within in
          let is : item ≡ look old.values (suc at + k) = item_is ∙ ap (λ (ws : List Cell). look ws (suc (at + k))) values ∙ seen ∙ ap (look old.values) (sym there) in
          let high : at ≤ length old.values = omega (arith, fits) in
          let old_stands : Stands old.values names (length old.values) (look old.values (suc at + k)) part.0 = (part.2.0, below-higher part.2.0 old.values names at (length old.values) (look old.values (suc at + k)) part.0 high part.2.1) in
          let N : List Cell → Type 0 = λ ws. Stands ws names (length ws) item part.0 in
          let I : Cell → Type 0 = λ c. Stands (old.values ++ h.cells) names (length (old.values ++ h.cells)) c part.0 in
          let item_stands : Stands now.values names (length now.values) item part.0 = subst N (sym values) (subst I (sym is) (stands-more old.values h.cells names (look old.values (suc at + k)) part.0 old_stands)) in
          let rest : List Value = drop (size - i) items in
          let front : drop (size - (i + 1)) items ≡ part.0 ∷ rest =
          let before : size - (i + 1) ≡ k = omega arith in
          let later : suc k ≡ size - i = omega (arith, inside) in
          ap (λ n. drop n items) before ∙ drop-get items k part.0 part.1 ∙ ap (λ n. part.0 ∷ drop n items) later
          in
          let L : List Cell → Type 0 = λ ws. form_before ws (length ws) ≢ form.Lvar in
          let S : List Cell → Type 0 = λ ws. Stands ws names (length ws) (block_cell (length now.values)) (list_of (part.0 ∷ rest)) in
          let C : Cell → Type 0 = λ c. Stands after.values names (length after.values) c (list_of (part.0 ∷ rest)) in
          let V : List Value → Type 0 = λ vs. Stands after.values names (length after.values) next (list_of vs) in
          record {
            last = subst L (sym after_values) (cons-last now.values names item list part.0 (list_of rest) item_stands was.stands);
            stands = subst V (sym front) (subst C (sym next_is) (subst S (sym after_values) (cons-stands now.values names item list part.0 (list_of rest) was.last item_stands was.stands)));
          };
    }

pub listing-room : (old now : HeapState) (at size i : ℕ) (list : Cell) → HasRoom old (3 * size) → i < size → Listing old at size i now list → HasRoom now 3
listing-room old now at size i list room inside h =
    let values : length now.values ≡ length old.values + length h.cells = ap (λ (s : HeapState). length s.values) h.heap ∙ length-append old.values h.cells in
    let frames : length now.frames ≡ length old.frames = ap (λ (s : HeapState). length s.frames) h.heap in
    let limit : now.limit ≡ old.limit = ap (λ (s : HeapState). s.limit) h.heap in
    let long = h.long in
    omega (arith, room, inside, values, frames, limit, long)

pub listing-vector : (old now : HeapState) (at size i : ℕ) (list c : Cell) → IsVector old.values c at size → Listing old at size i now list → IsVector now.values c at size
listing-vector old now at size i list c vector h =
    let values : now.values ≡ old.values ++ h.cells = ap (λ (s : HeapState). s.values) h.heap in
    let P : List Cell → Type 0 = λ ws. IsVector ws c at size in
    subst P (sym values) (vector-more old.values h.cells c at size vector)

-- ---- the row

list-gives : (cells : List Cell) (names : List ℕ) (store : Store) (values : List Value) (c : Cell) (at size : ℕ) → IsVector cells c at size → AllStand cells names (length cells) (c ∷ []) values
    → (v : Value) × (items : HasItems cells names (length cells) at size v) × (apply VectorList values store ≡ gives_one (list_of items.items) store)
list-gives cells names store values c at size vector stand =
    let told = one-values cells names (length cells) c values stand in
    let items : HasItems cells names (length cells) at size told.0 = any-items cells names c at size told.0 vector told.2 in
    (told.0, items, ap (λ ws. apply VectorList ws store) told.1 ∙ one-given vector_of (λ ws. gives_one (list_of ws) store) told.0 items.items (items-of told.0 items.items items.is))

pub list-makes : (old now : HeapState) (c list : Cell) (at size : ℕ) → HasRoom old (3 * size) → IsVector old.values c at size → Listing old at size size now list → Makes VectorList old (c ∷ []) now (Ok list)
list-makes old now c list at size room vector h names store values binds stand =
    let g = list-gives old.values names store values c at size vector stand in
    let items : List Value = g.1.items in
    let parts : HasParts old.values names at size items = record { size_is = g.1.size; stand = g.1.stand } in
    let done : IsListed old.values at size size now.values list names items = h.listed names items binds.last parts in
    let whole : drop (size - size) items ≡ items = let e : size - size ≡ 0 = omega arith in ap (λ n. drop n items) e in
    let V : List Value → Type 0 = λ vs. Stands now.values names (length now.values) list (list_of vs) in
    let takes : cells_taken VectorList (list_of items ∷ []) ≡ 3 * size = list-takes items ∙ ap (λ n. 3 * n) g.1.size in
    let M : Applied → Type 0 = λ a. IsMade VectorList (c ∷ []) names store old a now (Ok list) in
    let vector_whole : drop (size - size) (take size (drop (suc at) old.values)) ≡ vector_items old.values c =
    let e : size - size ≡ 0 = omega arith in
    ap (λ n. drop n (take size (drop (suc at) old.values))) e ∙ sym (vector_items-are old.values c at size vector)
    in
    subst M (sym g.2) (record {
      cells = h.cells;
      laid = ap one_result (ap (list_laid (length old.values)) (sym vector_whole) ∙ h.laid);
      taken = h.long ∙ sym takes;
      room = omega (arith, room, takes);
      heap = h.heap;
      last = done.last;
      stays = refl;
      result = (subst V whole done.stands, tt);
    })

pub list-full : (old now : HeapState) (c : Cell) (full : Full) (at size : ℕ) → DoNotFit old (3 * size) full → now ≡ old → IsVector old.values c at size → Makes VectorList old (c ∷ []) now (Err full)
list-full old now c full at size not_fit same vector names store values binds stand =
    let g = list-gives old.values names store values c at size vector stand in
    let takes : cells_taken VectorList (list_of g.1.items ∷ []) ≡ 3 * size = list-takes g.1.items ∙ ap (λ n. 3 * n) g.1.size in
    let M : Applied → Type 0 = λ a. IsMade VectorList (c ∷ []) names store old a now (Err full) in
    let D : ℕ → Type 0 = λ n. DoNotFit old n full in
    subst M (sym g.2) (subst D (sym takes) not_fit, same)

pub list-vector : (cells inputs : List Cell) → CanApply VectorList cells inputs → OneVector cells inputs
list-vector cells inputs can = one-vector cells inputs can.names can.values can.stand (one-told vector_of can.values (λ ws. gives_one (list_of ws) can.store) can.right)

pub last-making : (row : Row) → IsMaking row → row ≢ IntString → row ≢ StringAppend → row ≢ StringList → row ≢ ListString → row ≢ LvarGet → row ≢ ListVector → row ≡ VectorList
last-making IntString is a b c d e f = absurd (a refl)
last-making StringAppend is a b c d e f = absurd (b refl)
last-making StringList is a b c d e f = absurd (c refl)
last-making ListString is a b c d e f = absurd (d refl)
last-making LvarGet is a b c d e f = absurd (e refl)
last-making ListVector is a b c d e f = absurd (f refl)
last-making VectorList is a b c d e f = refl
last-making _ is a b c d e f = absurd is
