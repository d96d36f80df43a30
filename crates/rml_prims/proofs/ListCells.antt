-- The cells of a list, walked from its first `::` on.
use Rattle.std.proofs.Common.{◌≡◌, ◌≢◌, ℕ, suc, ◌+◌, ◌*◌, ◌<◌, ◌≤◌, ◌^◌, List, [], ◌∷◌, ◌++◌, Some, length, refl, sym, ap, subst, ◌∙◌, arith}
use Rattle.std.specs.Prelude.{nat_eq, if◌then◌else◌}
use Rattle.std.proofs.lemmas.List.{get_or_append_left}
use Rattle.rml_value.specs.declared.value.Value.{Value, out-Value}
use Rattle.rml_value.specs.declared.value.Value.TheOpen.{Value-F}
use Rattle.rml_value.specs.declared.value.Value.TheVariants as value
use Rattle.rml_value.specs.declared.value.Value.TheVariants.{outs-Con}
use Rattle.rml_value.specs.declared.value.TheConstants.{CONS, NIL}
use Rattle.rml_value.specs.Lists.{list_of}
use Rattle.rml_heap.specs.declared.cell.Cell.{Cell}
use Rattle.rml_heap.specs.HeapState.{unset_cell}
use Rattle.rml_heap.specs.Form as form
use Rattle.rml_heap.specs.Form.{Form, address, form_of}
use Rattle.rml_heap.specs.Reading.{cell_at, look, looks, parts_of, block_value, value_below, Stands, AllStand}
use Rattle.rml_heap.proofs.Callers.{BlockStands, IsPlain, all-higher, below-higher, block-address, block-form, block-kind, block-made, block-stands, look-below, outline, outline_of, stands-inside}
use Rattle.rml_prims.specs.Shapes.{IsCons, IsList, con_cell}
use Rattle.rml_prims.proofs.PlainCells.{HasHead, con-form, one-cell, plain-form, plain_value, stands-head, stands-plain}
use Rattle.rml_prims.proofs.PlacedCells.{cons-form}

-- ---- the two parts of a `::`

record TwoParts (cells : List Cell) (names : List ℕ) (low at : ℕ) (vs : List Value) : Type 0 where
  first : Value
  second : Value
  is : vs ≡ first ∷ second ∷ []
  first_stands : Stands cells names low (look cells (suc at)) first
  second_stands : Stands cells names low (look cells (suc (suc at))) second

two-parts : (cells : List Cell) (names : List ℕ) (low at : ℕ) (vs : List Value) → AllStand cells names low (looks cells (suc at) 2) vs → TwoParts cells names low at vs
two-parts cells names low at [] h = absurd h
two-parts cells names low at (v ∷ []) h = absurd h.1
two-parts cells names low at (v ∷ w ∷ []) h = record { first = v; second = w; is = refl; first_stands = h.0; second_stands = h.1.0 }
two-parts cells names low at (v ∷ w ∷ u ∷ vs) h = absurd h.1.1

-- a `::` that is read
record ConsRead (cells : List Cell) (names : List ℕ) (top at : ℕ) (v : Value) : Type 0 where
  first : Value
  second : Value
  is : v ≡ value.Con CONS (first ∷ second ∷ [])
  first_stands : Stands cells names at (look cells (suc at)) first
  second_stands : Stands cells names at (look cells (suc (suc at))) second
  inside : suc (suc (suc at)) ≤ top

cons-read : (cells : List Cell) (names : List ℕ) (top at : ℕ) (v : Value) → form_of (look cells at) ≡ form.ConsBlock → BlockStands cells names top at v → ConsRead cells names top at v
cons-read cells names top at v is h =
    let P : Form → Type 0 = λ f. block_value (value_below h.depth cells names at) names at f (looks cells (suc at) (parts_of f)) ≡ Some v in
    let no_lvar : form.ConsBlock ≢ form.Lvar = λ e. cc in
    let made = block-made h.depth cells names at form.ConsBlock v no_lvar (subst P is h.value) in
    let parts : TwoParts cells names at at made.0 = two-parts cells names at at made.0 made.1 in
    let F : Form → Type 0 = λ f. suc (at + parts_of f) ≤ top in
    let fits : suc (at + 2) ≤ top = subst F is h.fits in
    record {
      first = parts.first;
      second = parts.second;
      is = made.2 ∙ ap (value.Con CONS) parts.is;
      first_stands = parts.first_stands;
      second_stands = parts.second_stands;
      inside = omega (arith, fits);
    }

con-parts : (c : ℕ) (vs ws : List Value) → value.Con c vs ≡ value.Con c ws → vs ≡ ws
con-parts c vs ws same =
    let outs : Value-F.Con c vs ≡ Value-F.Con c ws = sym (outs-Con c vs) ∙ ap out-Value same ∙ outs-Con c ws in
    let is : vs ≡ ws = cc in is

two-same : (a b c d : Value) → a ∷ b ∷ [] ≡ c ∷ d ∷ [] → (a ≡ c) × (b ≡ d)
two-same a b c d h = (cc, cc)

-- ---- the cells of a list that is read

-- a `::` of the cells
is-cons : (cells : List Cell) (names : List ℕ) (top : ℕ) (c : Cell) (v w : Value) → Stands cells names top c (value.Con CONS (v ∷ w ∷ []))
    → (at : ℕ) × IsCons cells top c at (cell_at cells (suc at)) × Stands cells names at (cell_at cells (suc (suc at))) w
is-cons cells names top c v w h =
    let out : outline (value.Con CONS (v ∷ w ∷ [])) ≡ form.ConsBlock = ap outline_of (outs-Con CONS (v ∷ w ∷ [])) in
    let b : HasHead cells names top c (value.Con CONS (v ∷ w ∷ [])) form.ConsBlock = stands-head cells names top c (value.Con CONS (v ∷ w ∷ [])) form.ConsBlock tt out h in
    let r : ConsRead cells names top b.at (value.Con CONS (v ∷ w ∷ [])) = cons-read cells names top b.at (value.Con CONS (v ∷ w ∷ [])) b.head b.stands in
    let same = two-same v w r.first r.second (con-parts CONS (v ∷ w ∷ []) (r.first ∷ r.second ∷ []) r.is) in
    let some : form.ConsBlock ≢ form.Other = λ e. cc in
    let second : look cells (suc (suc b.at)) ≡ cell_at cells (suc (suc b.at)) = (stands-inside cells names b.at (suc (suc b.at)) r.second r.second_stands).0 in
    let W : Value → Type 0 = λ u. Stands cells names b.at (cell_at cells (suc (suc b.at))) u in
    let C : Cell → Type 0 = λ d. Stands cells names b.at d r.second in (
      b.at,
      record {
        is = block-kind c b.at b.form_is;
        head = one-cell (look cells b.at) form.ConsBlock b.head some;
        inside = r.inside;
        first = (stands-inside cells names b.at (suc b.at) r.first r.first_stands).0;
        shown = refl;
        second = second;
      },
      subst W (sym same.1) (subst C second r.second_stands),
    )

nil-cell : (cells : List Cell) (names : List ℕ) (top : ℕ) (c : Cell) → Stands cells names top c (list_of []) → c ≡ con_cell NIL
nil-cell cells names top c h =
    let out : outline (list_of []) ≡ form.Con NIL = ap outline_of (outs-Con NIL []) in
    let P : Form → Type 0 = IsPlain in
    let some : form.Con NIL ≢ form.Other = λ e. cc in
    one-cell c (form.Con NIL) (plain-form cells names top c (list_of []) (subst P (sym out) tt) h ∙ out) some

pub is-list : (cells : List Cell) (names : List ℕ) (top : ℕ) (c : Cell) (vs : List Value) → Stands cells names top c (list_of vs) → (items : List Cell) × IsList cells top c items
is-list cells names top c [] h = ([], nil-cell cells names top c h)
is-list cells names top c (v ∷ vs) h =
    let cons = is-cons cells names top c v (list_of vs) h in
    let rest = is-list cells names cons.0 (cell_at cells (suc (suc cons.0))) vs cons.2 in
    (cell_at cells (suc cons.0) ∷ rest.0, (cons.0, cons.1, rest.1))

-- ---- what the cells of a list stand for, under any names

pub record ListRead (cells : List Cell) (names : List ℕ) (top : ℕ) (items : List Cell) (v : Value) : Type 0 where
  pub values : List Value
  pub is : v ≡ list_of values
  pub stand : AllStand cells names top items values

nil-form : form_of (con_cell NIL) ≡ form.Con NIL
nil-form = con-form NIL

pub list-read : (cells : List Cell) (names : List ℕ) (top : ℕ) (c : Cell) (items : List Cell) (v : Value) → IsList cells top c items → Stands cells names top c v → ListRead cells names top items v
list-read cells names top c [] v is h =
    let P : Form → Type 0 = IsPlain in
    let form_is : form_of c ≡ form.Con NIL = ap form_of is ∙ nil-form in
    let plain : plain_value (form_of c) ≡ Some v = stands-plain cells names top c v (subst P (sym form_is) tt) h in
    let same : Some (value.Con NIL []) ≡ Some v = sym (ap plain_value form_is) ∙ plain in
    record { values = []; is = cc; stand = tt }
list-read cells names top c (item ∷ items) v is h =
    let at : ℕ = is.0 in
    let cons : IsCons cells top c at item = is.1 in
    let stands : BlockStands cells names top at v = block-stands cells names top at c v (ap form_of cons.is ∙ block-form at) h in
    let r : ConsRead cells names top at v = cons-read cells names top at v (ap form_of cons.head ∙ cons-form) stands in
    let S : Cell → Type 0 = λ d. Stands cells names at d r.second in
    let rest : ListRead cells names at items r.second = list-read cells names at (cell_at cells (suc (suc at))) items r.second is.2 (subst S cons.second r.second_stands) in
    let F : Cell → Type 0 = λ d. Stands cells names at d r.first in
    let first : Stands cells names at item r.first = subst F (cons.first ∙ cons.shown) r.first_stands in
    let inside = cons.inside in
    let low : at ≤ top = omega (arith, inside) in
    record {
      values = r.first ∷ rest.values;
      is = r.is ∙ ap (λ w. value.Con CONS (r.first ∷ w ∷ [])) rest.is;
      stand = ((first.0, below-higher first.0 cells names at top item r.first low first.1), all-higher cells names at top items rest.values low rest.stand);
    }

-- ---- a list after cells were added

pub cons-more : (cells more : List Cell) (top : ℕ) (c : Cell) (at : ℕ) (item : Cell) → top ≤ length cells → IsCons cells top c at item → IsCons (cells ++ more) top c at item
cons-more cells more top c at item within h =
    let same : (i : ℕ) → i < length cells → cell_at (cells ++ more) i ≡ cell_at cells i = λ i low. get_or_append_left cells more unset_cell i low in
    let seen : (i : ℕ) → i < length cells → look (cells ++ more) i ≡ look cells i = look-below cells (cells ++ more) (length cells) same in
    let inside = h.inside in
    let zeroth : at < length cells = omega (arith, inside, within) in
    let first : suc at < length cells = omega (arith, inside, within) in
    let second : suc (suc at) < length cells = omega (arith, inside, within) in
    record {
      is = h.is;
      head = seen at zeroth ∙ h.head;
      inside = h.inside;
      first = seen (suc at) first ∙ h.first ∙ sym (same (suc at) first);
      shown = same (suc at) first ∙ h.shown;
      second = seen (suc (suc at)) second ∙ h.second ∙ sym (same (suc (suc at)) second);
    }

pub list-more : (cells more : List Cell) (top : ℕ) (c : Cell) (items : List Cell) → top ≤ length cells → IsList cells top c items → IsList (cells ++ more) top c items
list-more cells more top c [] within h = h
list-more cells more top c (item ∷ items) within h =
    let at : ℕ = h.0 in
    let inside = h.1.inside in
    let low : at ≤ length cells = omega (arith, inside, within) in
    let second : suc (suc at) < length cells = omega (arith, inside, within) in
    let same : cell_at cells (suc (suc at)) ≡ cell_at (cells ++ more) (suc (suc at)) = sym (get_or_append_left cells more unset_cell (suc (suc at)) second) in
    let L : Cell → Type 0 = λ d. IsList (cells ++ more) at d items in
    (at, cons-more cells more top c at item within h.1, subst L same (list-more cells more at (cell_at cells (suc (suc at))) items low h.2))

-- ---- a walk

-- how much is left of a list, by its address
abbrev pub left_of : Cell → ℕ
left_of c = if nat_eq c.kind 3 then suc (address c.number) else 0

pub record Walk (cells : List Cell) (items : List Cell) (size : ℕ) (rest : Cell) : Type 0 where
  pub top : ℕ
  pub left : List Cell
  pub list : IsList cells top rest left
  pub count : size + length left ≡ length items
  pub room : 3 * size + top ≤ length cells

-- one that goes on stands at a `::`
pub record Further (cells : List Cell) (top : ℕ) (rest : Cell) (left : List Cell) : Type 0 where
  pub at : ℕ
  pub item : Cell
  pub others : List Cell
  pub is : left ≡ item ∷ others
  pub cons : IsCons cells top rest at item
  pub list : IsList cells at (cell_at cells (suc (suc at))) others

pub further : (cells : List Cell) (top : ℕ) (rest : Cell) (left : List Cell) → rest.kind ≡ 3 → IsList cells top rest left → Further cells top rest left
further cells top rest [] kind h = let e : 4 ≡ 3 = sym (ap (λ (c : Cell). c.kind) h) ∙ kind in absurd (omega (arith, e))
further cells top rest (item ∷ others) kind h = record { at = h.0; item = item; others = others; is = refl; cons = h.1; list = h.2 }

pub ended : (cells : List Cell) (top : ℕ) (rest : Cell) (left : List Cell) → rest.kind ≢ 3 → IsList cells top rest left → left ≡ []
ended cells top rest [] kind h = refl
ended cells top rest (item ∷ others) kind h = absurd (kind (ap (λ (c : Cell). c.kind) h.1.is))

pub walk-start : (cells : List Cell) (list : Cell) (items : List Cell) → IsList cells (length cells) list items → Walk cells items 0 list
walk-start cells list items h = record { top = length cells; left = items; list = h; count = omega arith; room = omega arith }

pub walk-step : (cells items : List Cell) (size : ℕ) (rest next : Cell) → (w : Walk cells items size rest) → (f : Further cells w.top rest w.left) → next ≡ cell_at cells (suc (suc f.at)) → Walk cells items (size + 1) next
walk-step cells items size rest next w f is =
    let L : Cell → Type 0 = λ c. IsList cells f.at c f.others in
    let count = w.count in
    let more : length w.left ≡ suc (length f.others) = ap length f.is in
    let room = w.room in
    let inside = f.cons.inside in
    record { top = f.at; left = f.others; list = subst L (sym is) f.list; count = omega (arith, count, more); room = omega (arith, room, inside) }

pub cons-place : (cells : List Cell) (top : ℕ) (c : Cell) (at : ℕ) (item : Cell) → top < 2 ^ 32 → IsCons cells top c at item → address c.number ≡ at
cons-place cells top c at item small h =
    let inside = h.inside in
    let low : at < 2 ^ 32 = omega (arith, inside, small) in
    block-address c at (ap form_of h.is ∙ block-form at) low

pub walk-falls : (cells : List Cell) (top : ℕ) (rest : Cell) (left : List Cell) (next : Cell) → top < 2 ^ 32 → rest.kind ≡ 3 → (f : Further cells top rest left) → next ≡ cell_at cells (suc (suc f.at)) → left_of next < left_of rest
walk-falls cells top rest left next small kind f is =
    let here : left_of rest ≡ suc f.at = ap (λ k. if nat_eq k 3 then suc (address rest.number) else 0) kind ∙ ap suc (cons-place cells top rest f.at f.item small f.cons) in
    let inside = f.cons.inside in
    let low : f.at < 2 ^ 32 = omega (arith, inside, small) in
    let L : Cell → Type 0 = λ c. IsList cells f.at c f.others in
    let below : left_of next ≤ f.at = next-below next f.others low (subst L (sym is) f.list) in
    omega (arith, here, below)
  where
    next-below : (c : Cell) (others : List Cell) → f.at < 2 ^ 32 → IsList cells f.at c others → left_of c ≤ f.at
    next-below c [] low h = let e : left_of c ≡ 0 = ap (λ (d : Cell). left_of d) h in omega (arith, e)
    next-below c (item ∷ others) low h =
        let kind : c.kind ≡ 3 = ap (λ (d : Cell). d.kind) h.1.is in
        let e : left_of c ≡ suc h.0 = ap (λ k. if nat_eq k 3 then suc (address c.number) else 0) kind ∙ ap suc (cons-place cells f.at c h.0 item low h.1) in
        let inside = h.1.inside in
        omega (arith, e, inside)
