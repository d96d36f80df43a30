-- The rows that make, read and set a logical variable: what they do to the cells is what they give.
use Rattle.std.proofs.Common.{◌≡◌, ◌≢◌, ℕ, zero, suc, ◌+◌, ◌<◌, ◌≤◌, ◌^◌, List, [], ◌∷◌, ◌++◌, Option, Some, None, Result, Ok, Err, length, get_or, set, refl, sym, ap, subst, ◌∙◌, arith, inl, inr}
use Rattle.std.specs.Prelude.{slice_get, ℤ, pos, negsuc}
use Rattle.std.specs.Option.{option_map}
use Rattle.std.proofs.lemmas.List.{append-nil, nil_from_length}
use Rattle.rml_value.specs.declared.value.Value.{Value}
use Rattle.rml_value.specs.declared.value.Value.TheVariants as value
use Rattle.rml_value.specs.declared.value.Value.TheVariants.{outs-Con}
use Rattle.rml_value.specs.declared.value.TheConstants.{NONE, SOME}
use Rattle.rml_builtin.specs.declared.row.Row.TheVariants.{LvarNew, LvarGet, LvarSet}
use Rattle.rml_builtin.specs.declared.applied.Applied.{Applied}
use Rattle.rml_builtin.specs.declared.applied.Applied.TheVariants.{Wrong}
use Rattle.rml_builtin.specs.Applied.{Store, gives_one, or_wrong}
use Rattle.rml_builtin.specs.Arguments.{cell_of as entry_of}
use Rattle.rml_builtin.specs.Lvars.{option_value, set_entry, get_lvar, set_lvar}
use Rattle.rml_builtin.specs.BuiltIns.{apply}
use Rattle.rml_heap.specs.declared.cell.Cell.{Cell}
use Rattle.rml_heap.specs.declared.heap.Full.{Full}
use Rattle.rml_heap.specs.HeapState.{HeapState, HasRoom, cells_used, unset_cell, lvar_head}
use Rattle.rml_heap.specs.Form as form
use Rattle.rml_heap.specs.Form.{Form, IsWord, address, bare, form_of}
use Rattle.rml_heap.specs.Reading.{cell_at, form_before, look, place_of, parts_of, block_value, read_block, read_form, value_below, Stands, AllStand}
use Rattle.rml_trail.specs.TrailState.{TrailState}
use Rattle.rml_heap.proofs.Callers.{added-block, before-end, block-address, block-form, fits-block, stands-no_lvar, unset-form}
use Rattle.rml_prims.specs.declared.run.PrimEnd.TheVariants as prim
use Rattle.rml_prims.specs.Binds.{Binds, HoldsEntry, IsLvar}
use Rattle.rml_prims.specs.Shapes.{IsVariable, block_cell, con_cell, some_head}
use Rattle.rml_prims.specs.Taken.{cells_taken, option_cells_at}
use Rattle.rml_prims.specs.Laid.{AreLaid, address_in, block_laid, content_of, one_result, option_laid}
use Rattle.rml_prims.specs.Found.{CanApply, DoNotFit, Grows, IsMade, IsOption, Makes}
use Rattle.rml_prims.specs.Exact.{State, IsExact, Runs}
use Rattle.rml_prims.proofs.PlainCells.{con-stands}
use Rattle.rml_prims.proofs.Arguments.{One, Two, one-told, two-told, one-given, two-given, one-cells, two-cells, one-values, two-values}
use Rattle.rml_prims.proofs.Bindings.{binds-new, binds-set, lvar-form}
use Rattle.rml_prims.proofs.VariableCells.{HasNumber, entry-there, is-variable, place-new, stands-word, variable-number, word-set}
use Rattle.rml_prims.proofs.Running.{one-place, state}

-- ---- arguments

pub get-variable : (cells inputs : List Cell) → CanApply LvarGet cells inputs → (c : Cell) × (inputs ≡ c ∷ []) × IsVariable cells c
get-variable cells inputs can =
    let given : One entry_of can.values = one-told entry_of can.values (λ k. get_lvar k can.store) can.right in
    let P : List Value → Type 0 = λ ws. AllStand cells can.names (length cells) inputs ws in
    let told = one-cells cells can.names (length cells) inputs given.v (subst P given.is can.stand) in
    (told.0, told.1, is-variable cells can.names can.store told.0 given.v given.x can.binds given.first told.2)

-- what is read of it
pub get-read : (cells inputs : List Cell) (d : Cell) → CanApply LvarGet cells inputs → IsVariable cells (get_or inputs 0 d) × (inputs ≡ get_or inputs 0 d ∷ [])
get-read cells inputs d can =
    let told = get-variable cells inputs can in
    let first : told.0 ≡ get_or inputs 0 d = sym (ap (λ (cs : List Cell). get_or cs 0 d) told.1) in
    let V : Cell → Type 0 = IsVariable cells in
    (subst V first told.2, told.1 ∙ ap (λ (c : Cell). c ∷ []) first)

-- its address
pub variable-place : (cells : List Cell) (c : Cell) → length cells < 2 ^ 32 → (t : IsVariable cells c) → address c.number ≡ t.at
variable-place cells c small t =
    let inside : suc t.at < length cells = t.lvar.inside in
    let low : t.at < 2 ^ 32 = omega (arith, inside, small) in
    block-address c t.at (ap form_of t.is ∙ block-form t.at) low

word-kind : (k : ℕ) (i : ℤ) → IsWord (form.form k i) → k ≡ 10 → ⊥
unfolding form.form
word-kind k i word is = let P : ℕ → Type 0 = λ n. IsWord (form.form n i) in no_word i (subst P is word)
  where
    no_word : (i : ℤ) → IsWord (bare form.Unset i) → ⊥
    no_word (pos zero) h = h
    no_word (pos (suc n)) h = h
    no_word (negsuc n) h = h

-- a content of the kind of what is unset is unset
pub content-unset : (cells : List Cell) (c d : Cell) (t : IsVariable cells c) → address c.number ≡ t.at → d ≡ cell_at cells (suc (address c.number)) → d.kind ≡ 10 → cell_at cells (suc (address c.number)) ≡ unset_cell
content-unset cells c d t place is kind =
    let there : cell_at cells (suc (address c.number)) ≡ cell_at cells (suc t.at) = ap (λ n. cell_at cells (suc n)) place in
    elim t.content [
      | inl unset ↦ there ∙ unset
      | inr word ↦
          let content : Cell = cell_at cells (suc t.at) in
          absurd (word-kind content.kind content.number word (ap (λ (e : Cell). e.kind) (sym (is ∙ there)) ∙ kind))
    ]

-- a logical variable, and what it is to be set to
pub record SetArguments (cells inputs : List Cell) : Type 0 where
  pub lvar : Cell
  pub value : Cell
  pub is : inputs ≡ lvar ∷ value ∷ []
  pub variable : IsVariable cells lvar
  pub word : IsWord (form_of value)

pub set-arguments : (cells inputs : List Cell) → CanApply LvarSet cells inputs → SetArguments cells inputs
set-arguments cells inputs can =
    let given : Two entry_of Some can.values = two-told entry_of Some can.values (λ p. set_lvar p.0 p.1 can.store) can.right in
    let P : List Value → Type 0 = λ ws. AllStand cells can.names (length cells) inputs ws in
    let told = two-cells cells can.names (length cells) inputs given.v given.w (subst P given.is can.stand) in
    record {
      lvar = told.0;
      value = told.1;
      is = told.2;
      variable = is-variable cells can.names can.store told.0 given.v given.x can.binds given.first told.3;
      word = stands-word cells can.names (length cells) told.1 given.w told.4;
    }

pub record SetRead (cells inputs : List Cell) (d : Cell) : Type 0 where
  pub variable : IsVariable cells (get_or inputs 0 d)
  pub word : IsWord (form_of (get_or inputs 1 d))
  pub is : inputs ≡ get_or inputs 0 d ∷ get_or inputs 1 d ∷ []

pub set-read : (cells inputs : List Cell) (d : Cell) → CanApply LvarSet cells inputs → SetRead cells inputs d
set-read cells inputs d can =
    let a : SetArguments cells inputs = set-arguments cells inputs can in
    let first : a.lvar ≡ get_or inputs 0 d = sym (ap (λ (cs : List Cell). get_or cs 0 d) a.is) in
    let second : a.value ≡ get_or inputs 1 d = sym (ap (λ (cs : List Cell). get_or cs 1 d) a.is) in
    let V : Cell → Type 0 = IsVariable cells in
    let W : Cell → Type 0 = λ c. IsWord (form_of c) in
    record { variable = subst V first a.variable; word = subst W second a.word; is = a.is ∙ ap (λ (c : Cell). c ∷ a.value ∷ []) first ∙ ap (λ (c : Cell). get_or inputs 0 d ∷ c ∷ []) second }

no-values : (vs : List Value) (store : Store) → apply LvarNew vs store ≢ Wrong → vs ≡ []
no-values [] store right = refl
no-values (v ∷ vs) store right = absurd (right refl)

pub new-arguments : (cells inputs : List Cell) → CanApply LvarNew cells inputs → inputs ≡ []
new-arguments cells inputs can =
    let none : can.values ≡ [] = no-values can.values can.store can.right in
    let P : List Value → Type 0 = λ ws. AllStand cells can.names (length cells) inputs ws in
    no-cells inputs (subst P none can.stand)
  where
    no-cells : (cs : List Cell) → AllStand cells can.names (length cells) cs [] → cs ≡ []
    no-cells [] h = refl
    no-cells (c ∷ cs) h = absurd h

-- ---- a new one

pub variable-stands : (cells : List Cell) (names : List ℕ) (at k : ℕ) → IsLvar cells at → place_of at names ≡ Some k → Stands cells names (length cells) (block_cell at) (value.Cell k)
unfolding value_below
variable-stands cells names at k h named =
    let seen : form_of (look cells at) ≡ form.Lvar = ap form_of h.head ∙ lvar-form in
    let read : Cell → Option Value = value_below 0 cells names at in
    let fits : suc (at + 1) ≤ length cells = let w = h.inside in omega (arith, w) in
    let block : read_block read cells names (length cells) at form.Lvar ≡ Some (value.Cell k) = fits-block read cells names (length cells) at form.Lvar (value.Cell k) fits (ap (option_map value.Cell) named) in
    let B : Form → Type 0 = λ f. read_block read cells names (length cells) at f ≡ Some (value.Cell k) in
    let F : Form → Type 0 = λ f. read_form (value_below 0 cells names) cells names (length cells) f ≡ Some (value.Cell k) in
    (1, subst F (sym (block-form at)) (subst B (sym seen) block))

pub new-runs : (before after : HeapState) (trail : TrailState) (outputs : List Cell) → length outputs ≡ 1 → HasRoom before 2
    → after ≡ record before { values = before.values ++ lvar_head ∷ unset_cell ∷ [] }
    → Runs LvarNew [] (state before trail outputs) (state after trail (set outputs 0 (block_cell (length before.values)))) prim.Done
new-runs before after trail outputs places room added names store [] binds stand =
    let more : List Cell = lvar_head ∷ unset_cell ∷ [] in
    let at : ℕ = length before.values in
    let values : after.values ≡ before.values ++ more = ap (λ (s : HeapState). s.values) added in
    let all : List ℕ = names ++ at ∷ [] in
    let grown : Binds (before.values ++ more) all (store ++ None ∷ []) = binds-new before.values names store binds in
    let last : ℕ = length names in
    let here : slice_get all last ≡ Some at = get-last names at in
    let lvar : IsLvar (before.values ++ more) at = grown.lvars last at here in
    let new : (k : ℕ) → slice_get names k ≡ Some at → ⊥ = λ k named. let w = (binds.lvars k at named).inside in omega (arith, w) in
    let named : place_of at all ≡ Some (length store) = place-new at names new ∙ ap Some binds.long in
    let stands : Stands (before.values ++ more) all (length (before.values ++ more)) (block_cell at) (value.Cell (length store)) = variable-stands (before.values ++ more) all at (length store) lvar named in
    let B : List Cell → Type 0 = λ ws. Binds ws all (store ++ None ∷ []) in
    let S : List Cell → Type 0 = λ ws. AllStand ws all (length ws) (block_cell at ∷ []) (value.Cell (length store) ∷ []) in
    let O : List Cell → Type 0 = λ cs. AllStand after.values all (length after.values) cs (value.Cell (length store) ∷ []) in
    record {
      cells = more;
      made = at ∷ [];
      laid = let P : List Cell → Type 0 = AreLaid LvarNew before.values [] (value.Cell (length store) ∷ []) more in subst P (sym (one-place outputs (block_cell at) places)) refl;
      taken = refl;
      room = room;
      heap = added;
      trail = refl;
      store = subst B (sym values) grown;
      results = subst O (sym (one-place outputs (block_cell at) places)) (subst S (sym values) (stands, tt));
    }
  where
    get-last : (xs : List ℕ) (x : ℕ) → slice_get (xs ++ x ∷ []) (length xs) ≡ Some x
    get-last [] x = refl
    get-last (y ∷ xs) x = get-last xs x
new-runs before after trail outputs places room added names store (v ∷ vs) binds stand = absurd stand

pub new-full : (before : HeapState) (trail : TrailState) (outputs : List Cell) (full : Full) → DoNotFit before 2 full → (after : HeapState) → after ≡ before
    → Runs LvarNew [] (state before trail outputs) (state after trail outputs) (prim.Full full.used full.need)
new-full before trail outputs full not_fit after same names store [] binds stand = (not_fit, ap (λ (s : HeapState). state s trail outputs) same)
new-full before trail outputs full not_fit after same names store (v ∷ vs) binds stand = absurd stand

-- ---- what one holds

held-there : (cells : List Cell) (lvar : Cell) (at : ℕ) → lvar ≡ block_cell at → content_of cells lvar ≡ cell_at cells (suc at)
held-there cells lvar at is = ap (λ n. cell_at cells (suc n)) (ap address_in (ap form_of is ∙ block-form at))

some-form : form_of some_head ≡ form.ConBlock SOME 1
unfolding form.form
some-form = refl

some-no_lvar : form_of some_head ≢ form.Lvar
some-no_lvar e = let f : form.ConBlock SOME 1 ≡ form.Lvar = sym some-form ∙ e in cc

none-cells : 0 ≡ cells_taken LvarGet (value.Con NONE [] ∷ [])
none-cells = sym (ap (λ f. 0 + option_cells_at f) (outs-Con NONE []))

some-cells : (w : Value) → 2 ≡ cells_taken LvarGet (value.Con SOME (w ∷ []) ∷ [])
some-cells w = sym (ap (λ f. 0 + option_cells_at f) (outs-Con SOME (w ∷ [])))

-- the cells of an option
none-laid : (cells : List Cell) (lvar : Cell) (at : ℕ) (v : Value) → lvar ≡ block_cell at → cell_at cells (suc at) ≡ unset_cell → AreLaid LvarGet cells (lvar ∷ []) (v ∷ []) [] (con_cell NONE ∷ [])
none-laid cells lvar at v is unset =
    let content : content_of cells lvar ≡ unset_cell = held-there cells lvar at is ∙ unset in
    ap (λ (d : Cell). one_result (option_laid (length cells) d (form_of d))) content ∙ ap (λ f. one_result (option_laid (length cells) unset_cell f)) unset-form

word-laid : (at : ℕ) (content : Cell) (f : Form) → IsWord f → option_laid at content f ≡ block_laid at (some_head ∷ content ∷ [])
word-laid at content (form.Int i) word = refl
word-laid at content (form.Char c) word = refl
word-laid at content (form.Rel r) word = refl
word-laid at content (form.Block b) word = refl
word-laid at content (form.Con c) word = refl
word-laid at content _ word = absurd word

some-laid : (cells : List Cell) (lvar : Cell) (at : ℕ) (v : Value) → lvar ≡ block_cell at → IsWord (form_of (cell_at cells (suc at)))
    → AreLaid LvarGet cells (lvar ∷ []) (v ∷ []) (some_head ∷ cell_at cells (suc at) ∷ []) (block_cell (length cells) ∷ [])
some-laid cells lvar at v is word =
    ap (λ (d : Cell). one_result (option_laid (length cells) d (form_of d))) (held-there cells lvar at is) ∙ ap one_result (word-laid (length cells) (cell_at cells (suc at)) (form_of (cell_at cells (suc at))) word)

option-read : (names : List ℕ) (store : Store) (before after : HeapState) (lvar : Cell) (at : ℕ) → lvar ≡ block_cell at → (result : Result Cell Full) → Binds before.values names store → cells_used before ≤ before.limit
    → IsOption before (cell_at before.values (suc at)) after result → (entry : Option Value) → HoldsEntry before.values names at entry
    → IsMade LvarGet (lvar ∷ []) names store before (gives_one (option_value entry) store) after result
option-read names store before after lvar at is (Ok c) binds within (inl h) None held =
    let values : after.values ≡ before.values = ap (λ (s : HeapState). s.values) h.2 in
    let L : List Cell → Type 0 = λ ws. form_before ws (length ws) ≢ form.Lvar in
    let S : Cell → Type 0 = λ d. Stands after.values names (length after.values) d (value.Con NONE []) in
    record {
      cells = [];
      laid = none-laid before.values lvar at (value.Con NONE []) is h.0 ∙ ap (λ (d : Cell). record { added = []; cells = d ∷ [] }) (sym h.1);
      taken = none-cells;
      room = let none = none-cells in omega (arith, within, none);
      heap = h.2 ∙ ap (λ (vs : List Cell). record before { values = vs }) (sym (append-nil before.values));
      last = subst L (sym values) binds.last;
      stays = refl;
      result = (subst S (sym h.1) (con-stands after.values names (length after.values) NONE), tt);
    }
option-read names store before after lvar at is (Ok c) binds within (inr h) None held = absurd (word-set (cell_at before.values (suc at)) h.0 held)
option-read names store before after lvar at is (Ok c) binds within (inl h) (Some w) held = absurd (word-set (cell_at before.values (suc at)) (stands-word before.values names (length before.values) (cell_at before.values (suc at)) w held) h.0)
option-read names store before after lvar at is (Ok c) binds within (inr h) (Some w) held =
    let content : Cell = cell_at before.values (suc at) in
    let more : List Cell = some_head ∷ content ∷ [] in
    let values : after.values ≡ before.values ++ more = ap (λ (s : HeapState). s.values) h.3 in
    let count : parts_of (form_of some_head) ≡ 1 = ap parts_of some-form in
    let stands : Stands (before.values ++ more) names (length (before.values ++ more)) (block_cell (length before.values)) (value.Con SOME (w ∷ [])) =
    added-block before.values names some_head (content ∷ []) (w ∷ []) (value.Con SOME (w ∷ [])) binds.last some-no_lvar count (held, tt)
    (λ read each. ap (λ f. block_value read names (length before.values) f (content ∷ [])) some-form ∙ ap (option_map (value.Con SOME)) each)
    in
    let last : form_before (before.values ++ more) (length (before.values ++ more)) ≢ form.Lvar = before-end before.values some_head (content ∷ []) some-no_lvar (stands-no_lvar before.values names (length before.values) content w held, tt) in
    let L : List Cell → Type 0 = λ ws. form_before ws (length ws) ≢ form.Lvar in
    let S : List Cell → Type 0 = λ ws. Stands ws names (length ws) (block_cell (length before.values)) (value.Con SOME (w ∷ [])) in
    let C : Cell → Type 0 = λ d. Stands after.values names (length after.values) d (value.Con SOME (w ∷ [])) in
    record {
      cells = more;
      laid = some-laid before.values lvar at (value.Con SOME (w ∷ [])) is h.0 ∙ ap (λ (d : Cell). record { added = more; cells = d ∷ [] }) (sym h.2);
      taken = some-cells w;
      room = let two = some-cells w in let r = h.1 in omega (arith, r, two);
      heap = h.3;
      last = subst L (sym values) last;
      stays = refl;
      result = (subst C (sym h.2) (subst S (sym values) stands), tt);
    }
option-read names store before after lvar at is (Err full) binds within h None held = absurd (word-set (cell_at before.values (suc at)) h.0 held)
option-read names store before after lvar at is (Err full) binds within h (Some w) held = let D : ℕ → Type 0 = λ n. DoNotFit before n full in (subst D (some-cells w) h.1, h.2)

pub option-makes : (before after : HeapState) (c : Cell) (result : Result Cell Full) → cells_used before ≤ before.limit → (t : IsVariable before.values c)
    → IsOption before (cell_at before.values (suc t.at)) after result → Makes LvarGet before (c ∷ []) after result
option-makes before after c result within t is names store values binds stand =
    let told = one-values before.values names (length before.values) c values stand in
    let S : Cell → Type 0 = λ d. Stands before.values names (length before.values) d told.0 in
    let number : HasNumber names t.at told.0 = variable-number before.values names (length before.values) t.at told.0 t.lvar.head (subst S t.is told.2) in
    let entry : Option Value = get_or store number.k None in
    let there : slice_get store number.k ≡ Some entry = entry-there names store number.k t.at binds.long number.named in
    let same : apply LvarGet values store ≡ gives_one (option_value entry) store =
    ap (λ ws. apply LvarGet ws store) told.1 ∙ one-given entry_of (λ k. get_lvar k store) told.0 number.k number.entry
    ∙ ap (λ o. or_wrong o (λ held. gives_one (option_value held) store)) there
    in
    let M : Applied → Type 0 = λ a. IsMade LvarGet (c ∷ []) names store before a after result in
    subst M (sym same) (option-read names store before after c t.at t.is result binds within is entry (binds.holds number.k t.at entry number.named there))

-- ---- one that is set

set-exact : (names : List ℕ) (store : Store) (before after : HeapState) (trail trail_after : TrailState) (lvar value : Cell) (at k : ℕ) (w : Value)
    → Binds before.values names store → cells_used before ≤ before.limit → slice_get names k ≡ Some at → Stands before.values names (length before.values) value w → suc (address lvar.number) ≡ suc at
    → (entry : Option Value) → slice_get store k ≡ Some entry → HoldsEntry before.values names at entry
    → cell_at before.values (suc at) ≡ unset_cell
    → after ≡ record before { values = set before.values (suc at) value } → trail_after ≡ record trail { entries = trail.entries ++ suc at ∷ [] }
    → IsExact LvarSet (lvar ∷ value ∷ []) names (state before trail []) (set_entry entry k w store) (state after trail_after []) prim.Done
set-exact names store before after trail trail_after lvar value at k w binds within named stands place None there held unset heap entries =
    let values : after.values ≡ set before.values (suc at) value = ap (λ (s : HeapState). s.values) heap in
    let B : List Cell → Type 0 = λ ws. Binds ws names (set store k (Some w)) in
    let N : List ℕ → Type 0 = λ ns. Binds after.values ns (set store k (Some w)) in
    let room : HasRoom before 0 = omega (arith, within) in
    record {
      cells = [];
      made = [];
      laid = refl;
      taken = refl;
      room = room;
      heap = heap ∙ ap (λ n. record before { values = set before.values n value }) (sym place) ∙ ap (λ (vs : List Cell). record before { values = vs }) (sym (append-nil (set before.values (suc (address lvar.number)) value)));
      trail = entries ∙ ap (λ n. record trail { entries = trail.entries ++ n ∷ [] }) (sym place);
      store = subst N (sym (append-nil names)) (subst B (sym values) (binds-set before.values names store k at value w binds named there stands));
      results = tt;
    }
set-exact names store before after trail trail_after lvar value at k w binds within named stands place (Some old) there held unset heap entries =
    absurd (word-set (cell_at before.values (suc at)) (stands-word before.values names (length before.values) (cell_at before.values (suc at)) old held) unset)

refused-exact : (names : List ℕ) (store : Store) (before : State) (inputs : List Cell) (at k : ℕ) (w : Value) (entry : Option Value) → HoldsEntry before.heap.values names at entry
    → cell_at before.heap.values (suc at) ≢ unset_cell → IsExact LvarSet inputs names before (set_entry entry k w store) before prim.No
refused-exact names store before inputs at k w None held is_set = absurd (is_set held)
refused-exact names store before inputs at k w (Some old) held is_set = refl

-- what the row gives of these cells
record SetGives (names : List ℕ) (store : Store) (values : List Value) (heap : HeapState) (at : ℕ) (value : Cell) : Type 0 where
  k : ℕ
  w : Value
  named : slice_get names k ≡ Some at
  stands : Stands heap.values names (length heap.values) value w
  there : slice_get store k ≡ Some (get_or store k None)
  held : HoldsEntry heap.values names at (get_or store k None)
  same : apply LvarSet values store ≡ set_entry (get_or store k None) k w store

set-gives : (names : List ℕ) (store : Store) (values : List Value) (heap : HeapState) (lvar value : Cell) (t : IsVariable heap.values lvar) → Binds heap.values names store
    → AllStand heap.values names (length heap.values) (lvar ∷ value ∷ []) values → SetGives names store values heap t.at value
set-gives names store values heap lvar value t binds stand =
    let told = two-values heap.values names (length heap.values) lvar value values stand in
    let S : Cell → Type 0 = λ d. Stands heap.values names (length heap.values) d told.0 in
    let number : HasNumber names t.at told.0 = variable-number heap.values names (length heap.values) t.at told.0 t.lvar.head (subst S t.is told.3) in
    let there : slice_get store number.k ≡ Some (get_or store number.k None) = entry-there names store number.k t.at binds.long number.named in
    record {
      k = number.k;
      w = told.1;
      named = number.named;
      stands = told.4;
      there = there;
      held = binds.holds number.k t.at (get_or store number.k None) number.named there;
      same = ap (λ ws. apply LvarSet ws store) told.2 ∙ two-given entry_of Some (λ p. set_lvar p.0 p.1 store) told.0 told.1 number.k told.1 number.entry refl
          ∙ ap (λ o. or_wrong o (λ held. set_entry held number.k told.1 store)) there;
    }

pub set-runs : (before after : HeapState) (trail trail_after : TrailState) (lvar value : Cell) (t : IsVariable before.values lvar) → cells_used before ≤ before.limit → address lvar.number ≡ t.at
    → cell_at before.values (suc t.at) ≡ unset_cell
    → after ≡ record before { values = set before.values (suc t.at) value } → trail_after ≡ record trail { entries = trail.entries ++ suc t.at ∷ [] }
    → Runs LvarSet (lvar ∷ value ∷ []) (state before trail []) (state after trail_after []) prim.Done
set-runs before after trail trail_after lvar value t within place unset heap entries names store values binds stand =
    let g : SetGives names store values before t.at value = set-gives names store values before lvar value t binds stand in
    let E : Applied → Type 0 = λ a. IsExact LvarSet (lvar ∷ value ∷ []) names (state before trail []) a (state after trail_after []) prim.Done in
    subst E (sym g.same) (set-exact names store before after trail trail_after lvar value t.at g.k g.w binds within g.named g.stands (ap suc place) (get_or store g.k None) g.there g.held unset heap entries)

pub refused-runs : (before : HeapState) (trail : TrailState) (outputs : List Cell) (lvar value : Cell) (t : IsVariable before.values lvar) → cell_at before.values (suc t.at) ≢ unset_cell
    → Runs LvarSet (lvar ∷ value ∷ []) (state before trail outputs) (state before trail outputs) prim.No
refused-runs before trail outputs lvar value t is_set names store values binds stand =
    let g : SetGives names store values before t.at value = set-gives names store values before lvar value t binds stand in
    let E : Applied → Type 0 = λ a. IsExact LvarSet (lvar ∷ value ∷ []) names (state before trail outputs) a (state before trail outputs) prim.No in
    subst E (sym g.same) (refused-exact names store (state before trail outputs) (lvar ∷ value ∷ []) t.at g.k g.w (get_or store g.k None) g.held is_set)

-- ---- as the calls say it

pub new-ends : (before after : HeapState) (trail : TrailState) (inputs outputs : List Cell) (c : Cell) → CanApply LvarNew before.values inputs → length outputs ≡ 1 → HasRoom before 2
    → after ≡ record before { values = before.values ++ lvar_head ∷ unset_cell ∷ [] } → c ≡ block_cell (length before.values)
    → Runs LvarNew inputs (state before trail outputs) (state after trail (set outputs 0 c)) prim.Done
new-ends before after trail inputs outputs c can places room added is =
    let I : List Cell → Type 0 = λ cs. Runs LvarNew cs (state before trail outputs) (state after trail (set outputs 0 c)) prim.Done in
    let C : Cell → Type 0 = λ d. Runs LvarNew [] (state before trail outputs) (state after trail (set outputs 0 d)) prim.Done in
    subst I (sym (new-arguments before.values inputs can)) (subst C (sym is) (new-runs before after trail outputs places room added))

pub new-refused : (before after : HeapState) (trail : TrailState) (inputs outputs : List Cell) (full : Full) → CanApply LvarNew before.values inputs → DoNotFit before 2 full → after ≡ before
    → Runs LvarNew inputs (state before trail outputs) (state after trail outputs) (prim.Full full.used full.need)
new-refused before after trail inputs outputs full can not_fit same =
    let I : List Cell → Type 0 = λ cs. Runs LvarNew cs (state before trail outputs) (state after trail outputs) (prim.Full full.used full.need) in
    subst I (sym (new-arguments before.values inputs can)) (new-full before trail outputs full not_fit after same)

pub option-grows : (before after : HeapState) (content : Cell) (result : Result Cell Full) → IsOption before content after result → Grows before after
option-grows before after content (Ok c) (inl h) = record { cells = []; is = h.2 ∙ ap (λ (vs : List Cell). record before { values = vs }) (sym (append-nil before.values)) }
option-grows before after content (Ok c) (inr h) = record { cells = some_head ∷ content ∷ []; is = h.3 }
option-grows before after content (Err full) h = record { cells = []; is = h.2 ∙ ap (λ (vs : List Cell). record before { values = vs }) (sym (append-nil before.values)) }

pub option-ends : (before after : HeapState) (inputs : List Cell) (c : Cell) (result : Result Cell Full) → cells_used before ≤ before.limit → length before.values < 2 ^ 32 → IsVariable before.values c → inputs ≡ c ∷ []
    → IsOption before (cell_at before.values (suc (address c.number))) after result → Makes LvarGet before inputs after result
option-ends before after inputs c result within small t is h =
    let O : ℕ → Type 0 = λ n. IsOption before (cell_at before.values (suc n)) after result in
    let I : List Cell → Type 0 = λ cs. Makes LvarGet before cs after result in
    subst I (sym is) (option-makes before after c result within t (subst O (variable-place before.values c small t) h))

pub set-ends : (before after : HeapState) (trail trail_after : TrailState) (inputs outputs : List Cell) (lvar value : Cell) → cells_used before ≤ before.limit → length before.values < 2 ^ 32 → length outputs ≡ 0
    → IsVariable before.values lvar → inputs ≡ lvar ∷ value ∷ []
    → cell_at before.values (suc (address lvar.number)) ≡ unset_cell
    → after ≡ record before { values = set before.values (suc (address lvar.number)) value } → trail_after ≡ record trail { entries = trail.entries ++ suc (address lvar.number) ∷ [] }
    → Runs LvarSet inputs (state before trail outputs) (state after trail_after outputs) prim.Done
set-ends before after trail trail_after inputs outputs lvar value within small none t is unset heap entries =
    let place : address lvar.number ≡ t.at = variable-place before.values lvar small t in
    let next : suc (address lvar.number) ≡ suc t.at = ap suc place in
    let I : List Cell → Type 0 = λ cs. Runs LvarSet cs (state before trail outputs) (state after trail_after outputs) prim.Done in
    let O : List Cell → Type 0 = λ os. Runs LvarSet (lvar ∷ value ∷ []) (state before trail os) (state after trail_after os) prim.Done in
    subst I (sym is)
    (subst O (sym (nil_from_length outputs none))
    (set-runs before after trail trail_after lvar value t within place (sym (ap (cell_at before.values) next) ∙ unset)
    (heap ∙ ap (λ n. record before { values = set before.values n value }) next) (entries ∙ ap (λ n. record trail { entries = trail.entries ++ n ∷ [] }) next)))

pub refused-ends : (before after : HeapState) (trail trail_after : TrailState) (inputs outputs : List Cell) (lvar value : Cell) → length before.values < 2 ^ 32
    → IsVariable before.values lvar → inputs ≡ lvar ∷ value ∷ [] → cell_at before.values (suc (address lvar.number)) ≢ unset_cell → after ≡ before → trail_after ≡ trail
    → Runs LvarSet inputs (state before trail outputs) (state after trail_after outputs) prim.No
refused-ends before after trail trail_after inputs outputs lvar value small t is is_set heap entries =
    let place : address lvar.number ≡ t.at = variable-place before.values lvar small t in
    let I : List Cell → Type 0 = λ cs. Runs LvarSet cs (state before trail outputs) (state after trail_after outputs) prim.No in
    let H : HeapState → Type 0 = λ h. Runs LvarSet (lvar ∷ value ∷ []) (state before trail outputs) (state h trail_after outputs) prim.No in
    let T : TrailState → Type 0 = λ ts. Runs LvarSet (lvar ∷ value ∷ []) (state before trail outputs) (state before ts outputs) prim.No in
    subst I (sym is) (subst H (sym heap) (subst T (sym entries) (refused-runs before trail outputs lvar value t (λ e. is_set (ap (λ n. cell_at before.values (suc n)) place ∙ e)))))
