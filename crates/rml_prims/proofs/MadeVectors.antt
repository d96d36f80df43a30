-- The row whose result is the vector of a list's items.
use Rattle.std.proofs.Common.{◌≡◌, ◌≢◌, ℕ, zero, suc, ◌+◌, ◌<◌, ◌≤◌, List, [], ◌∷◌, ◌++◌, Some, Ok, Err, length, refl, sym, ap, subst, ◌∙◌, arith, append_assoc, length-append, zero-add}
use Rattle.std.specs.Option.{option_map}
use Rattle.std.proofs.lemmas.List.{append-nil, get_or_append_left}
use Rattle.rml_value.specs.declared.value.Value.{Value}
use Rattle.rml_value.specs.declared.value.Value.TheVariants as value
use Rattle.rml_value.specs.declared.value.Value.TheVariants.{outs-Vector}
use Rattle.rml_value.specs.declared.value.TheConstants.{NIL}
use Rattle.rml_value.specs.Lists.{items_of}
use Rattle.rml_value.proofs.Callers.{items_of-list_of, list_of-items}
use Rattle.rml_builtin.specs.declared.row.Row.TheVariants.{ListVector}
use Rattle.rml_builtin.specs.declared.applied.Applied.{Applied}
use Rattle.rml_builtin.specs.Applied.{Store, gives_one}
use Rattle.rml_builtin.specs.Made.{cells_at}
use Rattle.rml_builtin.specs.BuiltIns.{apply}
use Rattle.rml_heap.specs.declared.cell.Cell.{Cell}
use Rattle.rml_heap.specs.declared.heap.Full.{Full}
use Rattle.rml_heap.specs.HeapState.{HeapState, HasRoom, unset_cell}
use Rattle.rml_heap.specs.Form as form
use Rattle.rml_heap.specs.Form.{Form, form_of}
use Rattle.rml_heap.specs.Reading.{cell_at, form_before, look, parts_of, block_value, Stands, AllStand}
use Rattle.rml_prims.specs.Shapes.{AtCons, IsCons, IsList, OneList, block_cell, vector_head}
use Rattle.rml_prims.specs.Taken.{cells_taken}
use Rattle.rml_prims.specs.Laid.{items_at, items_in, list_items, one_result, vector_laid}
use Rattle.rml_prims.specs.Found.{CanApply, DoNotFit, IsMade, Makes}
use Rattle.rml_prims.proofs.Arguments.{One, one-given, one-told, one-cells, one-values}
use Rattle.rml_heap.proofs.Callers.{IsHead, added-block, all-no_lvar, before-end, block-form, head-is}
use Rattle.rml_prims.proofs.PlainCells.{con-form}
use Rattle.rml_prims.proofs.PlacedCells.{cons-form}
use Rattle.rml_prims.proofs.VectorCells.{all-length, head-form}
use Rattle.rml_prims.proofs.ListCells.{Further, ListRead, cons-more, is-list, list-read}

pub one-list : (cells inputs : List Cell) → CanApply ListVector cells inputs → OneList cells inputs
one-list cells inputs can =
    let one : One items_of can.values = one-told items_of can.values (λ items. gives_one (value.Vector items) can.store) can.right in
    let P : List Value → Type 0 = λ ws. AllStand cells can.names (length cells) inputs ws in
    let told = one-cells cells can.names (length cells) inputs one.v (subst P one.is can.stand) in
    let V : Value → Type 0 = λ v. Stands cells can.names (length cells) told.0 v in
    let list = is-list cells can.names (length cells) told.0 one.x (subst V (list_of-items one.v one.x one.first) told.2) in
    record { c = told.0; is = told.1; items = list.0; list = list.1 }

-- the items, as they are read
items-are : (n : ℕ) (cells : List Cell) (top : ℕ) (c : Cell) (items : List Cell) → top ≤ n → IsList cells top c items → list_items n cells c ≡ items
items-are zero cells top c [] within h = refl
items-are (suc n) cells top c [] within h = ap (items_in (list_items n cells) cells) (ap form_of h ∙ con-form NIL)
items-are zero cells top c (item ∷ items) within h = let inside = h.1.inside in absurd (omega (arith, inside, within))
items-are (suc n) cells top c (item ∷ items) within h =
    let at : ℕ = h.0 in
    let cons : IsCons cells top c at item = h.1 in
    let inside = cons.inside in
    let low : at ≤ n = omega (arith, inside, within) in
    let head_is : form_of (look cells at) ≡ form.ConsBlock = ap form_of cons.head ∙ cons-form in
    let P : Form → Type 0 = IsHead in
    let there : look cells at ≡ cell_at cells at = head-is cells at (subst P (sym head_is) tt) in
    ap (items_in (list_items n cells) cells) (ap form_of cons.is ∙ block-form at) ∙ ap (items_at (list_items n cells) cells at) (ap form_of (sym there) ∙ head_is)
    ∙ ap (λ (d : Cell). d ∷ list_items n cells (cell_at cells (suc (suc at)))) cons.shown ∙ ap (λ ds. item ∷ ds) (items-are n cells at (cell_at cells (suc (suc at))) items low h.2)

-- ---- copying

pub record Copied (old : HeapState) (items : List Cell) (size i : ℕ) (now : HeapState) (rest : Cell) : Type 0 where
  pub made : List Cell
  pub left : List Cell
  pub top : ℕ
  pub whole : items ≡ made ++ left
  pub count : length made ≡ i
  pub heap : now ≡ record old { values = old.values ++ vector_head size ∷ made }
  pub within : top ≤ length old.values
  pub list : IsList old.values top rest left

pub copied-start : (old now : HeapState) (items : List Cell) (size : ℕ) (list : Cell) → IsList old.values (length old.values) list items → now ≡ record old { values = old.values ++ vector_head size ∷ [] } → Copied old items size 0 now list
copied-start old now items size list h added = record { made = []; left = items; top = length old.values; whole = refl; count = refl; heap = added; within = omega arith; list = h }

-- there is one more
pub copied-some : (old now : HeapState) (items : List Cell) (size i : ℕ) (rest : Cell) → length items ≡ size → i < size → (h : Copied old items size i now rest) → Further old.values h.top rest h.left
copied-some old now items size i rest long inside h = some h.left h.list (ap length h.whole ∙ length-append h.made h.left)
  where
    some : (left : List Cell) → IsList old.values h.top rest left → length items ≡ length h.made + length left → Further old.values h.top rest left
    some [] is e = let count = h.count in absurd (omega (arith, e, count, long, inside))
    some (item ∷ others) is e = record { at = is.0; item = item; others = others; is = refl; cons = is.1; list = is.2 }

pub copied-at : (old now : HeapState) (items : List Cell) (size i : ℕ) (rest : Cell) (h : Copied old items size i now rest) → Further old.values h.top rest h.left → AtCons now.values rest
copied-at old now items size i rest h f =
    let values : now.values ≡ old.values ++ vector_head size ∷ h.made = ap (λ (s : HeapState). s.values) h.heap in
    let more : List Cell = vector_head size ∷ h.made in
    let within = h.within in
    let long = length-append old.values more in
    let P : List Cell → Type 0 = λ ws. AtCons ws rest in
    subst P (sym values) (record { top = h.top; at = f.at; item = f.item; within = omega (arith, within, long); cons = cons-more old.values more h.top rest f.at f.item h.within f.cons })

pub copied-step : (old now after : HeapState) (items : List Cell) (size i : ℕ) (rest item next : Cell) (h : Copied old items size i now rest) → (f : Further old.values h.top rest h.left)
    → item ≡ cell_at now.values (suc f.at) → next ≡ cell_at now.values (suc (suc f.at)) → after ≡ record now { values = now.values ++ item ∷ [] }
    → Copied old items size (i + 1) after next
copied-step old now after items size i rest item next h f item_is next_is added =
    let values : now.values ≡ old.values ++ vector_head size ∷ h.made = ap (λ (s : HeapState). s.values) h.heap in
    let more : List Cell = vector_head size ∷ h.made in
    let within = h.within in
    let inside = f.cons.inside in
    let first : suc f.at < length old.values = omega (arith, inside, within) in
    let second : suc (suc f.at) < length old.values = omega (arith, inside, within) in
    let item_same : item ≡ f.item = item_is ∙ ap (λ (ws : List Cell). cell_at ws (suc f.at)) values ∙ get_or_append_left old.values more unset_cell (suc f.at) first ∙ f.cons.shown in
    let next_same : next ≡ cell_at old.values (suc (suc f.at)) = next_is ∙ ap (λ (ws : List Cell). cell_at ws (suc (suc f.at))) values ∙ get_or_append_left old.values more unset_cell (suc (suc f.at)) second in
    let L : Cell → Type 0 = λ c. IsList old.values f.at c f.others in
    let all : List Cell = h.made ++ item ∷ [] in
    let low : f.at ≤ length old.values = omega (arith, inside, within) in
    record {
      made = all;
      left = f.others;
      top = f.at;
      whole = h.whole ∙ ap (λ ls. h.made ++ ls) f.is ∙ ap (λ (c : Cell). h.made ++ c ∷ f.others) (sym item_same) ∙ sym (append_assoc h.made (item ∷ []) f.others);
      count = length-append h.made (item ∷ []) ∙ ap (λ n. n + 1) h.count;
      heap = added ∙ ap (λ (s : HeapState). record s { values = s.values ++ item ∷ [] }) h.heap ∙ ap (λ (vs : List Cell). record old { values = vs }) (append_assoc old.values more (item ∷ []));
      within = low;
      list = subst L (sym next_same) f.list;
    }

pub copied-room : (old now : HeapState) (items : List Cell) (size i : ℕ) (rest : Cell) → HasRoom old (1 + size) → i < size → Copied old items size i now rest → HasRoom now 1
copied-room old now items size i rest room inside h =
    let values : length now.values ≡ length old.values + length (vector_head size ∷ h.made) = ap (λ (s : HeapState). length s.values) h.heap ∙ length-append old.values (vector_head size ∷ h.made) in
    let frames : length now.frames ≡ length old.frames = ap (λ (s : HeapState). length s.frames) h.heap in
    let limit : now.limit ≡ old.limit = ap (λ (s : HeapState). s.limit) h.heap in
    let count = h.count in
    omega (arith, room, inside, values, frames, limit, count)

-- all of them
pub copied-all : (old now : HeapState) (items : List Cell) (size : ℕ) (rest : Cell) → length items ≡ size → Copied old items size size now rest → now ≡ record old { values = old.values ++ vector_head size ∷ items }
copied-all old now items size rest long h =
    let none : h.left ≡ [] = nothing h.left (ap length h.whole ∙ length-append h.made h.left) in
    let whole : h.made ≡ items = sym (append-nil h.made) ∙ ap (λ ls. h.made ++ ls) (sym none) ∙ sym h.whole in
    h.heap ∙ ap (λ (cs : List Cell). record old { values = old.values ++ vector_head size ∷ cs }) whole
  where
    nothing : (left : List Cell) → length items ≡ length h.made + length left → left ≡ []
    nothing [] e = refl
    nothing (c ∷ left) e = let count = h.count in absurd (omega (arith, e, count, long))

-- ---- the row

vector-takes : (vs : List Value) → cells_taken ListVector (value.Vector vs ∷ []) ≡ 1 + length vs
vector-takes vs = ap (λ f. 0 + cells_at f (value.Vector vs)) (outs-Vector vs) ∙ zero-add (1 + length vs)

vector-gives : (cells : List Cell) (names : List ℕ) (store : Store) (values : List Value) (c : Cell) (items : List Cell) → IsList cells (length cells) c items → AllStand cells names (length cells) (c ∷ []) values
    → (vs : List Value) × AllStand cells names (length cells) items vs × (apply ListVector values store ≡ gives_one (value.Vector vs) store)
vector-gives cells names store values c items list stand =
    let told = one-values cells names (length cells) c values stand in
    let r : ListRead cells names (length cells) items told.0 = list-read cells names (length cells) c items told.0 list told.2 in
    let items_are : items_of told.0 ≡ Some r.values = ap items_of r.is ∙ items_of-list_of r.values in
    (r.values, r.stand, ap (λ ws. apply ListVector ws store) told.1 ∙ one-given items_of (λ ws. gives_one (value.Vector ws) store) told.0 r.values items_are)

vector-no_lvar : (n : ℕ) → form_of (vector_head n) ≢ form.Lvar
vector-no_lvar n e = let f : form.Vector n ≡ form.Lvar = sym (head-form n) ∙ e in cc

pub vector-makes : (old now : HeapState) (list c : Cell) (items : List Cell) (size : ℕ) → HasRoom old (1 + size) → length items ≡ size → IsList old.values (length old.values) list items
    → now ≡ record old { values = old.values ++ vector_head size ∷ items } → c ≡ block_cell (length old.values) → Makes ListVector old (list ∷ []) now (Ok c)
vector-makes old now list c items size room long is added cell names store values binds stand =
    let g = vector-gives old.values names store values list items is stand in
    let vs : List Value = g.0 in
    let count : length items ≡ length vs = all-length old.values names (length old.values) items vs g.1 in
    let takes : cells_taken ListVector (value.Vector vs ∷ []) ≡ 1 + size = vector-takes vs ∙ ap (λ n. 1 + n) (sym count ∙ long) in
    let more : List Cell = vector_head size ∷ items in
    let now_values : now.values ≡ old.values ++ more = ap (λ (s : HeapState). s.values) added in
    let parts : parts_of (form_of (vector_head size)) ≡ length items = ap parts_of (head-form size) ∙ sym long in
    let stands : Stands (old.values ++ more) names (length (old.values ++ more)) (block_cell (length old.values)) (value.Vector vs) =
    added-block old.values names (vector_head size) items vs (value.Vector vs) binds.last (vector-no_lvar size) parts g.1
    (λ read each. ap (λ f. block_value read names (length old.values) f items) (head-form size) ∙ ap (option_map value.Vector) each)
    in
    let last : form_before (old.values ++ more) (length (old.values ++ more)) ≢ form.Lvar = before-end old.values (vector_head size) items (vector-no_lvar size) (all-no_lvar old.values names (length old.values) items vs g.1) in
    let L : List Cell → Type 0 = λ ws. form_before ws (length ws) ≢ form.Lvar in
    let S : List Cell → Type 0 = λ ws. Stands ws names (length ws) (block_cell (length old.values)) (value.Vector vs) in
    let C : Cell → Type 0 = λ d. Stands now.values names (length now.values) d (value.Vector vs) in
    let M : Applied → Type 0 = λ a. IsMade ListVector (list ∷ []) names store old a now (Ok c) in
    let next : suc (length items) ≡ 1 + size = omega (arith, long) in
    let laid : vector_laid (length old.values) (list_items (length old.values) old.values list) ≡ record { added = more; cell = c } =
    ap (vector_laid (length old.values)) (items-are (length old.values) old.values (length old.values) list items (omega arith) is)
    ∙ ap (λ n. record { added = vector_head n ∷ items; cell = block_cell (length old.values) }) long ∙ ap (λ (d : Cell). record { added = more; cell = d }) (sym cell)
    in
    subst M (sym g.2) (record {
      cells = more;
      laid = ap one_result laid;
      taken = next ∙ sym takes;
      room = omega (arith, room, takes);
      heap = added;
      last = subst L (sym now_values) last;
      stays = refl;
      result = (subst C (sym cell) (subst S (sym now_values) stands), tt);
    })

pub vector-full : (old now : HeapState) (list : Cell) (full : Full) (items : List Cell) (size : ℕ) → DoNotFit old (1 + size) full → now ≡ old → length items ≡ size → IsList old.values (length old.values) list items → Makes ListVector old (list ∷ []) now (Err full)
vector-full old now list full items size not_fit same long is names store values binds stand =
    let g = vector-gives old.values names store values list items is stand in
    let count : length items ≡ length g.0 = all-length old.values names (length old.values) items g.0 g.1 in
    let takes : cells_taken ListVector (value.Vector g.0 ∷ []) ≡ 1 + size = vector-takes g.0 ∙ ap (λ n. 1 + n) (sym count ∙ long) in
    let M : Applied → Type 0 = λ a. IsMade ListVector (list ∷ []) names store old a now (Err full) in
    let D : ℕ → Type 0 = λ n. DoNotFit old n full in
    subst M (sym g.2) (subst D (sym takes) not_fit, same)
