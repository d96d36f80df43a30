-- The cells of a vector, and the rows that read one.
use Rattle.std.proofs.Common.{◌≡◌, ◌≢◌, ℕ, zero, suc, ◌+◌, ◌<◌, ◌≤◌, ◌^◌, List, [], ◌∷◌, Bool, true, false, Option, Some, None, length, get_or, take, drop, refl, sym, ap, subst, ◌∙◌, arith, inl, inr}
use Rattle.std.specs.Prelude.{slice_get, ℤ, pos, negsuc, nat_lt, if◌then◌else◌}
use Rattle.std.specs.Option.{option_map}
use Rattle.std.proofs.lemmas.Option.{slice_get_past}
use Rattle.std.proofs.lemmas.Bool.{cases_lt}
use Rattle.std.proofs.lemmas.List.{get_or-drop, get_or-take, get_or_default}
use Rattle.rml_value.specs.declared.value.Value.{Value, out-Value}
use Rattle.rml_value.specs.declared.value.Value.TheOpen.{Value-F}
use Rattle.rml_value.specs.declared.value.Value.TheVariants as value
use Rattle.rml_value.specs.declared.value.Value.TheVariants.{outs-Vector}
use Rattle.rml_builtin.specs.declared.row.Row.TheVariants.{VectorLength, VectorNth}
use Rattle.rml_builtin.specs.declared.applied.Applied.{Applied}
use Rattle.rml_builtin.specs.Applied.{Store, gives_one, or_no, ranged}
use Rattle.rml_builtin.specs.Arguments.{int_of, vector_at, vector_of, one}
use Rattle.rml_builtin.specs.Vectors.{nth_item}
use Rattle.rml_builtin.specs.Decimal.{integer_of}
use Rattle.rml_builtin.specs.BuiltIns.{apply}
use Rattle.rml_heap.specs.declared.cell.Cell.{Cell}
use Rattle.rml_heap.specs.HeapState.{free_cell, unset_cell}
use Rattle.rml_heap.specs.Form as form
use Rattle.rml_heap.specs.Form.{Form, address, form_of, or_zero}
use Rattle.rml_heap.specs.Reading.{cell_at, look, looks, parts_of, block_value, value_below, Stands, AllStand}
use Rattle.rml_heap.proofs.Callers.{BlockStands, IsHead, below-higher, block-address, block-form, block-kind, block-made, block-stands, head-is, length-looks, outline, outline_of, stands-inside}
use Rattle.rml_prims.specs.Shapes.{IsVector, OneVector, VectorAndInt, int_cell, vector_head, index_in}
use Rattle.rml_prims.specs.Laid.{AreLaid, address_in, address_of as address_at, alone, one_result, vector_items as laid_items, vector_size}
use Rattle.rml_prims.specs.Found.{CanApply, Finds, IsFound}
use Rattle.rml_prims.proofs.PlainCells.{int-cell, int-value, one-cell, stands-head, HasHead}
use Rattle.rml_prims.proofs.Arguments.{One, Two, one-told, two-told, one-given, two-given, one-cells, two-cells, one-values, two-values}
use Rattle.rml_prims.proofs.Calculations.{int_or_no, found-int, ranged-is}

-- ---- parts of a block

pub all-length : (cells : List Cell) (names : List ℕ) (top : ℕ) (cs : List Cell) (vs : List Value) → AllStand cells names top cs vs → length cs ≡ length vs
all-length cells names top [] [] h = refl
all-length cells names top [] (v ∷ vs) h = absurd h
all-length cells names top (c ∷ cs) [] h = absurd h
all-length cells names top (c ∷ cs) (v ∷ vs) h = ap suc (all-length cells names top cs vs h.1)

-- one of them
pub part-at : (cells : List Cell) (names : List ℕ) (low n at i : ℕ) (vs : List Value) → i < n → AllStand cells names low (looks cells at n) vs → (v : Value) × (slice_get vs i ≡ Some v) × Stands cells names low (look cells (at + i)) v
part-at cells names low zero at i vs inside h = absurd (omega (arith, inside))
part-at cells names low (suc n) at i [] inside h = absurd h
part-at cells names low (suc n) at zero (v ∷ vs) inside h =
    let here : at ≡ at + 0 = omega arith in
    let S : ℕ → Type 0 = λ k. Stands cells names low (look cells k) v in
    (v, refl, subst S here h.0)
part-at cells names low (suc n) at (suc i) (v ∷ vs) inside h =
    let less : i < n = omega (arith, inside) in
    let rest = part-at cells names low n (suc at) i vs less h.1 in
    let there : suc at + i ≡ at + suc i = omega arith in
    let S : ℕ → Type 0 = λ k. Stands cells names low (look cells k) rest.0 in
    (rest.0, rest.1, subst S there rest.2)

-- ---- the block of a vector

vector-out : (out : Value-F Value) (vs : List Value) → vector_at out ≡ Some vs → outline_of out ≡ form.Vector (length vs)
vector-out (Value-F.Vector ws) vs h = let same : ws ≡ vs = cc in ap (λ (us : List Value). form.Vector (length us)) same
vector-out _ vs h = absurd (cc)

-- its items
pub record HasItems (cells : List Cell) (names : List ℕ) (top at n : ℕ) (v : Value) : Type 0 where
  pub items : List Value
  pub is : v ≡ value.Vector items
  pub size : length items ≡ n
  pub stand : AllStand cells names at (looks cells (suc at) n) items
  pub fits : suc (at + n) ≤ top

pub vector-items : (cells : List Cell) (names : List ℕ) (top at n : ℕ) (v : Value) → form_of (look cells at) ≡ form.Vector n → BlockStands cells names top at v → HasItems cells names top at n v
vector-items cells names top at n v is h =
    let P : Form → Type 0 = λ f. block_value (value_below h.depth cells names at) names at f (looks cells (suc at) (parts_of f)) ≡ Some v in
    let no_lvar : form.Vector n ≢ form.Lvar = λ e. cc in
    let made = block-made h.depth cells names at (form.Vector n) v no_lvar (subst P is h.value) in
    let F : Form → Type 0 = λ f. suc (at + parts_of f) ≤ top in
    record {
      items = made.0;
      is = made.2;
      size = sym (all-length cells names at (looks cells (suc at) n) made.0 made.1) ∙ length-looks cells n (suc at);
      stand = made.1;
      fits = subst F is h.fits;
    }

is-vector : (cells : List Cell) (names : List ℕ) (c : Cell) (v : Value) (vs : List Value) → vector_of v ≡ Some vs → Stands cells names (length cells) c v → (at size : ℕ) × IsVector cells c at size
is-vector cells names c v vs is h =
    let out : outline v ≡ form.Vector (length vs) = vector-out (out-Value v) vs is in
    let b : HasHead cells names (length cells) c v (form.Vector (length vs)) = stands-head cells names (length cells) c v (form.Vector (length vs)) tt out h in
    let items : HasItems cells names (length cells) b.at (length vs) v = vector-items cells names (length cells) b.at (length vs) v b.head b.stands in
    let some : form.Vector (length vs) ≢ form.Other = λ e. cc in (
      b.at,
      length vs,
      record {
        is = block-kind c b.at b.form_is;
        head = one-cell (look cells b.at) (form.Vector (length vs)) b.head some;
        fits = items.fits;
        shown = λ i inside.
            let there : suc b.at + i ≡ suc (b.at + i) = omega arith in
            let part = part-at cells names b.at (length vs) (suc b.at) i items.items inside items.stand in
            let S : ℕ → Type 0 = λ k. look cells k ≡ cell_at cells k in
            subst S there (stands-inside cells names b.at (suc b.at + i) part.0 part.2).0;
      },
    )

pub one-vector : (cells inputs : List Cell) (names : List ℕ) (vs : List Value) → AllStand cells names (length cells) inputs vs → One vector_of vs → OneVector cells inputs
one-vector cells inputs names vs stand one =
    let P : List Value → Type 0 = λ ws. AllStand cells names (length cells) inputs ws in
    let told = one-cells cells names (length cells) inputs one.v (subst P one.is stand) in
    let vector = is-vector cells names told.0 one.v one.x one.first told.2 in
    record { at = vector.0; size = vector.1; c = told.0; is = told.1; vector = vector.2 }

pub length-vector : (cells inputs : List Cell) → CanApply VectorLength cells inputs → OneVector cells inputs
length-vector cells inputs can = one-vector cells inputs can.names can.values can.stand (one-told vector_of can.values (λ items. ranged (pos (length items)) can.store) can.right)

pub nth-vector : (cells inputs : List Cell) → CanApply VectorNth cells inputs → VectorAndInt cells inputs
nth-vector cells inputs can =
    let given : Two vector_of int_of can.values = two-told vector_of int_of can.values (λ p. nth_item p.0 p.1 can.store) can.right in
    let P : List Value → Type 0 = λ ws. AllStand cells can.names (length cells) inputs ws in
    let told = two-cells cells can.names (length cells) inputs given.v given.w (subst P given.is can.stand) in
    let vector = is-vector cells can.names told.0 given.v given.x given.first told.3 in
    let second : told.1 ≡ int_cell given.y = int-cell cells can.names (length cells) told.1 given.w given.y given.second told.4 in
    record { at = vector.0; size = vector.1; c = told.0; n = given.y; is = told.2 ∙ ap (λ (c : Cell). told.0 ∷ c ∷ []) second; vector = vector.2 }

-- what is read of it by its address
pub record VectorRead (cells : List Cell) (c : Cell) (at size : ℕ) : Type 0 where
  pub place : address c.number ≡ at
  pub inside : at < length cells
  pub count : or_zero (cell_at cells at).number ≡ size
  pub small : size < 2 ^ 32

pub head-form : (n : ℕ) → form_of (vector_head n) ≡ form.Vector n
unfolding form.form
head-form n = refl

pub vector-read : (cells : List Cell) (c : Cell) (at size : ℕ) → length cells < 2 ^ 32 → IsVector cells c at size → VectorRead cells c at size
vector-read cells c at size small h =
    let fits : suc (at + size) ≤ length cells = h.fits in
    let low : at < 2 ^ 32 = omega (arith, fits, small) in
    let form_is : form_of (look cells at) ≡ form.Vector size = ap form_of h.head ∙ head-form size in
    let P : Form → Type 0 = IsHead in
    let there : look cells at ≡ cell_at cells at = head-is cells at (subst P (sym form_is) tt) in
    record {
      place = block-address c at (ap form_of h.is ∙ block-form at) low;
      inside = omega (arith, fits);
      count = ap (λ (d : Cell). or_zero d.number) (sym there ∙ h.head);
      small = omega (arith, fits, small);
    }

-- ---- the rows

-- the items of the vector of a cell, under any names
pub any-items : (cells : List Cell) (names : List ℕ) (c : Cell) (at size : ℕ) (v : Value) → IsVector cells c at size → Stands cells names (length cells) c v → HasItems cells names (length cells) at size v
any-items cells names c at size v h stands =
    let block : BlockStands cells names (length cells) at v = block-stands cells names (length cells) at c v (ap form_of h.is ∙ block-form at) stands in
    vector-items cells names (length cells) at size v (ap form_of h.head ∙ head-form size) block

pub items-of : (v : Value) (items : List Value) → v ≡ value.Vector items → vector_of v ≡ Some items
items-of v items is = ap vector_of is ∙ ap vector_at (outs-Vector items)

pub length-finds : (cells : List Cell) (c : Cell) (at size : ℕ) → IsVector cells c at size → Finds VectorLength cells (c ∷ []) (option_map int_cell (integer_of (pos size)))
length-finds cells c at size h names store values stand =
    let told = one-values cells names (length cells) c values stand in
    let items : HasItems cells names (length cells) at size told.0 = any-items cells names c at size told.0 h told.2 in
    let same : apply VectorLength values store ≡ int_or_no store (integer_of (pos size)) =
    ap (λ ws. apply VectorLength ws store) told.1 ∙ one-given vector_of (λ ws. ranged (pos (length ws)) store) told.0 items.items (items-of told.0 items.items items.is)
    ∙ ap (λ n. ranged (pos n) store) items.size ∙ ranged-is (pos size) store
    in
    let F : Applied → Type 0 = λ a. IsFound VectorLength cells (c ∷ []) names store a (option_map int_cell (integer_of (pos size))) in
    subst F (sym same) (found-int VectorLength (λ cs inputs v. refl) cells (c ∷ []) names store (integer_of (pos size)))

-- where its items lie
pub vector_items-are : (cells : List Cell) (c : Cell) (at size : ℕ) → IsVector cells c at size → laid_items cells c ≡ take size (drop (suc at) cells)
vector_items-are cells c at size h =
    let place : address_at c ≡ at = ap address_in (ap form_of h.is ∙ block-form at) in
    let form_is : form_of (look cells at) ≡ form.Vector size = ap form_of h.head ∙ head-form size in
    let P : Form → Type 0 = IsHead in
    let there : look cells at ≡ cell_at cells at = head-is cells at (subst P (sym form_is) tt) in
    let count : vector_size (form_of (cell_at cells at)) ≡ size = ap (λ (d : Cell). vector_size (form_of d)) (sym there) ∙ ap vector_size form_is in
    ap (λ n. take (vector_size (form_of (cell_at cells n))) (drop (suc n) cells)) place ∙ ap (λ n. take n (drop (suc at) cells)) count

pub item-there : (cells : List Cell) (at size i : ℕ) (d : Cell) → suc (at + size) ≤ length cells → i < size → get_or (take size (drop (suc at) cells)) i d ≡ cell_at cells (suc (at + i))
item-there cells at size i d fits inside =
    let there : suc at + i ≡ suc (at + i) = omega arith in
    let within : suc (at + i) < length cells = omega (arith, fits, inside) in
    get_or-take size (drop (suc at) cells) i d inside ∙ get_or-drop (suc at) cells i d ∙ ap (λ n. get_or cells n d) there ∙ get_or_default cells (suc (at + i)) d unset_cell within

nth-laid : (cells : List Cell) (c : Cell) (at size i : ℕ) (v : Value) → IsVector cells c at size → i < size → AreLaid VectorNth cells (c ∷ int_cell (pos i) ∷ []) (v ∷ []) [] (look cells (suc (at + i)) ∷ [])
nth-laid cells c at size i v h inside =
    let item : get_or (laid_items cells c) i free_cell ≡ look cells (suc (at + i)) =
    ap (λ cs. get_or cs i free_cell) (vector_items-are cells c at size h) ∙ item-there cells at size i free_cell h.fits inside ∙ sym (h.shown i inside)
    in
    ap (λ d. one_result (alone d)) item

nth-found : (cells : List Cell) (c : Cell) (names : List ℕ) (store : Store) (at size : ℕ) (items : List Value) → IsVector cells c at size → length items ≡ size → at ≤ length cells → AllStand cells names at (looks cells (suc at) size) items
    → (n : ℤ) → IsFound VectorNth cells (c ∷ int_cell n ∷ []) names store (nth_item items n store) (option_map (λ i. look cells (suc (at + i))) (index_in n size))
nth-found cells c names store at size items vector long within stand (negsuc n) = tt
nth-found cells c names store at size items vector long within stand (pos i) =
    elim (cases_lt i size) [
      | inl inside ↦
          let part = part-at cells names at size (suc at) i items inside stand in
          let there : suc at + i ≡ suc (at + i) = omega arith in
          let S : ℕ → Type 0 = λ k. Stands cells names at (look cells k) part.0 in
          let here : Stands cells names at (look cells (suc (at + i))) part.0 = subst S there part.2 in
          let lt : nat_lt i size ≡ true = grind (arith, inside) in
          let F : Option Value → Bool → Type 0 = λ o b. IsFound VectorNth cells (c ∷ int_cell (pos i) ∷ []) names store (or_no o (λ v. gives_one v store)) (option_map (λ j. look cells (suc (at + j))) (if b then Some i else None)) in
          let G : Bool → Type 0 = λ b. F (slice_get items i) b in
          let H : Option Value → Type 0 = λ o. F o true in
          subst G (sym lt) (subst H (sym part.1) (refl, ((here.0, below-higher here.0 cells names at (length cells) (look cells (suc (at + i))) part.0 within here.1), tt), nth-laid cells c at size i part.0 vector inside))
      | inr past ↦
          let none : slice_get items i ≡ None = slice_get_past items i (omega (arith, past, long)) in
          let lt : nat_lt i size ≡ false = grind (arith, past) in
          let F : Option Value → Bool → Type 0 = λ o b. IsFound VectorNth cells (c ∷ int_cell (pos i) ∷ []) names store (or_no o (λ v. gives_one v store)) (option_map (λ j. look cells (suc (at + j))) (if b then Some i else None)) in
          let G : Bool → Type 0 = λ b. F (slice_get items i) b in
          let H : Option Value → Type 0 = λ o. F o false in
          subst G (sym lt) (subst H (sym none) tt)
    ]

pub nth-finds : (cells : List Cell) (c : Cell) (at size : ℕ) (n : ℤ) → IsVector cells c at size → Finds VectorNth cells (c ∷ int_cell n ∷ []) (option_map (λ i. look cells (suc (at + i))) (index_in n size))
nth-finds cells c at size n h names store values stand =
    let told = two-values cells names (length cells) c (int_cell n) values stand in
    let items : HasItems cells names (length cells) at size told.0 = any-items cells names c at size told.0 h told.3 in
    let same : apply VectorNth values store ≡ nth_item items.items n store =
    ap (λ ws. apply VectorNth ws store) told.2
    ∙ two-given vector_of int_of (λ p. nth_item p.0 p.1 store) told.0 told.1 items.items n (items-of told.0 items.items items.is) (int-value cells names (length cells) n told.1 told.4)
    in
    let F : Applied → Type 0 = λ a. IsFound VectorNth cells (c ∷ int_cell n ∷ []) names store a (option_map (λ i. look cells (suc (at + i))) (index_in n size)) in
    let within : at ≤ length cells = let w = items.fits in omega (arith, w) in
    subst F (sym same) (nth-found cells c names store at size items.items h items.size within items.stand n)
