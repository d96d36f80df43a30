-- What cells are read as, all of them together, is what stands in them, and the other way round.
use Rattle.std.proofs.Common.{◌≡◌, ◌≢◌, ℕ, zero, suc, ◌+◌, ◌<◌, ◌≤◌, ◌⊎◌, List, [], ◌∷◌, Bool, true, false, Option, Some, None, length, refl, sym, ap, subst, ◌∙◌, arith, inl, inr}
use Rattle.std.specs.Prelude.{slice_get, if◌then◌else◌}
use Rattle.std.specs.Option.{option_map, option_and_then}
use Rattle.std.proofs.lemmas.Option.{get_or_from_slice_get, slice_get-get_or, slice_get_within}
use Rattle.rml_value.specs.declared.value.Value.{Value}
use Rattle.rml_builtin.specs.Applied.{Store}
use Rattle.rml_heap.specs.declared.cell.Cell.{Cell}
use Rattle.rml_heap.specs.HeapState.{unset_cell}
use Rattle.rml_heap.specs.Form as form
use Rattle.rml_heap.specs.Form.{Form, IsWord, form_of}
use Rattle.rml_heap.specs.Reading.{cell_at, form_before, Stands, AllStand}
use Rattle.rml_heap.proofs.Callers.{below-shallow, look-shown, map-some, stands-no_lvar, then-some, unset-form}
use Rattle.rml_prims.specs.Standing.{each_of, is_lvar, lvars_from, lvars_in, value_in, values_in, entry_at, entry_in, store_in}
use Rattle.rml_prims.specs.Binds.{Binds, HoldsEntry, IsLvar}
use Rattle.rml_prims.proofs.PlainCells.{one-cell}
use Rattle.rml_prims.proofs.VariableCells.{stands-word}

-- ---- values

pub value-stands : (cells : List Cell) (c : Cell) (v : Value) → value_in cells c ≡ Some v → Stands cells (lvars_in cells) (length cells) c v
value-stands cells c v h = (suc (length cells), h)

pub stands-value : (cells : List Cell) (c : Cell) (v : Value) → Stands cells (lvars_in cells) (length cells) c v → value_in cells c ≡ Some v
stands-value cells c v h = below-shallow h.0 cells (lvars_in cells) (length cells) c v h.1

pub values-stand : (cells cs : List Cell) (vs : List Value) → values_in cells cs ≡ Some vs → AllStand cells (lvars_in cells) (length cells) cs vs
values-stand cells [] vs h =
    let P : List Value → Type 0 = λ ws. AllStand cells (lvars_in cells) (length cells) [] ws in
    let none : [] ≡ vs = cc in subst P none tt
values-stand cells (c ∷ cs) vs h =
    let first = then-some (λ v. option_map (λ ws. v ∷ ws) (values_in cells cs)) (value_in cells c) vs h in
    let rest = map-some (λ ws. first.0 ∷ ws) (values_in cells cs) vs first.2 in
    let P : List Value → Type 0 = λ ws. AllStand cells (lvars_in cells) (length cells) (c ∷ cs) ws in
    subst P (sym rest.2) (value-stands cells c first.0 first.1, values-stand cells cs rest.0 rest.1)

pub stand-values : (cells cs : List Cell) (vs : List Value) → AllStand cells (lvars_in cells) (length cells) cs vs → values_in cells cs ≡ Some vs
stand-values cells [] [] h = refl
stand-values cells [] (v ∷ vs) h = absurd h
stand-values cells (c ∷ cs) [] h = absurd h
stand-values cells (c ∷ cs) (v ∷ vs) h =
    ap (option_and_then (λ w. option_map (λ ws. w ∷ ws) (values_in cells cs))) (stands-value cells c v h.0) ∙ ap (option_map (λ ws. v ∷ ws)) (stand-values cells cs vs h.1)

-- ---- the heads of logical variables

lvar-is : (f : Form) → is_lvar f ≡ true → f ≡ form.Lvar
lvar-is form.Lvar h = refl
lvar-is _ h = absurd (cc)

-- one that is listed
record IsListed (from : ℕ) (cells : List Cell) (at : ℕ) : Type 0 where
  i : ℕ
  place : at ≡ from + i
  inside : i < length cells
  head : form_of (cell_at cells i) ≡ form.Lvar

listed-head : (from : ℕ) (cells : List Cell) (k at : ℕ) → slice_get (lvars_from from cells) k ≡ Some at → IsListed from cells at
listed-head from [] k at h = absurd (cc)
listed-head from (c ∷ cells) k at h = pick (is_lvar (form_of c)) refl (λ j. listed-head (suc from) cells j at) k h
  where
    further : IsListed (suc from) cells at → IsListed from (c ∷ cells) at
    further t = let p = t.place in let q = t.inside in record { i = suc t.i; place = omega (arith, p); inside = omega (arith, q); head = t.head }

    pick : (b : Bool) → is_lvar (form_of c) ≡ b → ((j : ℕ) → slice_get (lvars_from (suc from) cells) j ≡ Some at → IsListed (suc from) cells at) → (k : ℕ) → slice_get (if b then from ∷ lvars_from (suc from) cells else lvars_from (suc from) cells) k ≡ Some at → IsListed from (c ∷ cells) at
    pick true is again zero h = let e : from ≡ at = cc in record { i = 0; place = omega (arith, e); inside = omega arith; head = lvar-is (form_of c) is }
    pick true is again (suc k) h = further (again k h)
    pick false is again k h = further (again k h)

-- each is listed
head-listed : (from : ℕ) (cells : List Cell) (i : ℕ) → i < length cells → form_of (cell_at cells i) ≡ form.Lvar → (k : ℕ) × (slice_get (lvars_from from cells) k ≡ Some (from + i))
head-listed from [] i inside head = absurd (omega (arith, inside))
head-listed from (c ∷ cells) zero inside head =
    let here : from ≡ from + 0 = omega arith in
    let yes : is_lvar (form_of c) ≡ true = ap is_lvar head in
    (0, ap (λ b. slice_get (if b then from ∷ lvars_from (suc from) cells else lvars_from (suc from) cells) 0) yes ∙ ap Some here)
head-listed from (c ∷ cells) (suc i) inside head =
    let less : i < length cells = omega (arith, inside) in
    let rest = head-listed (suc from) cells i less head in
    let there : suc from + i ≡ from + suc i = omega arith in
    pick (is_lvar (form_of c)) rest.0 (rest.1 ∙ ap Some there)
  where
    pick : (b : Bool) (k : ℕ) → slice_get (lvars_from (suc from) cells) k ≡ Some (from + suc i) → (j : ℕ) × (slice_get (if b then from ∷ lvars_from (suc from) cells else lvars_from (suc from) cells) j ≡ Some (from + suc i))
    pick true k h = (suc k, h)
    pick false k h = (k, h)

-- and none twice
listed-apart : (from : ℕ) (cells : List Cell) (j k at : ℕ) → slice_get (lvars_from from cells) j ≡ Some at → slice_get (lvars_from from cells) k ≡ Some at → j ≡ k
listed-apart from [] j k at g h = absurd (cc)
listed-apart from (c ∷ cells) j k at g h = pick (is_lvar (form_of c)) (λ i n. listed-apart (suc from) cells i n at) j k g h
  where
    later : (n : ℕ) → slice_get (lvars_from (suc from) cells) n ≡ Some at → from < at
    later n h = let t : IsListed (suc from) cells at = listed-head (suc from) cells n at h in let p = t.place in omega (arith, p)

    pick : (b : Bool) → ((i n : ℕ) → slice_get (lvars_from (suc from) cells) i ≡ Some at → slice_get (lvars_from (suc from) cells) n ≡ Some at → i ≡ n) → (j k : ℕ) → slice_get (if b then from ∷ lvars_from (suc from) cells else lvars_from (suc from) cells) j ≡ Some at
        → slice_get (if b then from ∷ lvars_from (suc from) cells else lvars_from (suc from) cells) k ≡ Some at → j ≡ k
    pick true again zero zero g h = refl
    pick true again zero (suc k) g h = let e : from ≡ at = cc in let l = later k h in absurd (omega (arith, e, l))
    pick true again (suc j) zero g h = let e : from ≡ at = cc in let l = later j g in absurd (omega (arith, e, l))
    pick true again (suc j) (suc k) g h = ap suc (again j k g h)
    pick false again j k g h = again j k g h

-- ---- what each of some leads to

each-long : {A B : Type 0} (f : A → Option B) (xs : List A) (ys : List B) → each_of f xs ≡ Some ys → length xs ≡ length ys
each-long {A} {B} f [] ys h = let none : [] ≡ ys = cc in ap length none
each-long {A} {B} f (x ∷ xs) ys h =
    let first = then-some (λ y. option_map (λ zs. y ∷ zs) (each_of f xs)) (f x) ys h in
    let rest = map-some (λ zs. first.0 ∷ zs) (each_of f xs) ys first.2 in
    ap suc (each-long f xs rest.0 rest.1) ∙ sym (ap length rest.2)

each-some : {A B : Type 0} (f : A → Option B) (xs : List A) (ys : List B) (k : ℕ) (x : A) → each_of f xs ≡ Some ys → slice_get xs k ≡ Some x → (y : B) × (f x ≡ Some y) × (slice_get ys k ≡ Some y)
each-some {A} {B} f [] ys k x h there = absurd (cc)
each-some {A} {B} f (z ∷ xs) ys k x h there =
    let first = then-some (λ y. option_map (λ zs. y ∷ zs) (each_of f xs)) (f z) ys h in
    let rest = map-some (λ zs. first.0 ∷ zs) (each_of f xs) ys first.2 in
    pick (λ zs n. each-some f xs zs n x) k first.0 rest.0 first.1 rest.1 rest.2 there
  where
    pick : ((zs : List B) (n : ℕ) → each_of f xs ≡ Some zs → slice_get xs n ≡ Some x → (w : B) × (f x ≡ Some w) × (slice_get zs n ≡ Some w)) → (k : ℕ) (y : B) (zs : List B) → f z ≡ Some y → each_of f xs ≡ Some zs → ys ≡ y ∷ zs → slice_get (z ∷ xs) k ≡ Some x → (w : B) × (f x ≡ Some w) × (slice_get ys k ≡ Some w)
    pick again zero y zs first rest whole there = let e : z ≡ x = cc in (y, ap f (sym e) ∙ first, ap (λ ws. slice_get ws 0) whole)
    pick again (suc k) y zs first rest whole there =
        let told = again zs k rest there in
        (told.0, told.1, ap (λ ws. slice_get ws (suc k)) whole ∙ told.2)

each-is : {A B : Type 0} (f : A → Option B) (xs : List A) (ys : List B) → length xs ≡ length ys → ((k : ℕ) (x : A) (y : B) → slice_get xs k ≡ Some x → slice_get ys k ≡ Some y → f x ≡ Some y) → each_of f xs ≡ Some ys
each-is {A} {B} f [] [] long each = refl
each-is {A} {B} f [] (y ∷ ys) long each = absurd (omega (arith, long))
each-is {A} {B} f (x ∷ xs) [] long each = absurd (omega (arith, long))
each-is {A} {B} f (x ∷ xs) (y ∷ ys) long each =
    let rest : length xs ≡ length ys = omega (arith, long) in
    ap (option_and_then (λ z. option_map (λ zs. z ∷ zs) (each_of f xs))) (each 0 x y refl refl) ∙ ap (option_map (λ zs. y ∷ zs)) (each-is f xs ys rest (λ k. each (suc k)))

-- ---- entries of the store

entry-kind : (cells : List Cell) (c : Cell) (f : Form) (entry : Option Value) → entry_at cells c f ≡ Some entry → ((entry ≡ None) × (f ≡ form.Unset)) ⊎ ((v : Value) × (entry ≡ Some v) × (value_in cells c ≡ Some v))
entry-kind cells c form.Unset entry h = inl (cc, refl)
entry-kind cells c _ entry h = let told = map-some Some (value_in cells c) entry h in inr (told.0, told.2, told.1)

word-entry : (cells : List Cell) (c : Cell) (f : Form) → IsWord f → entry_at cells c f ≡ option_map Some (value_in cells c)
word-entry cells c (form.Int i) word = refl
word-entry cells c (form.Char b) word = refl
word-entry cells c (form.Rel r) word = refl
word-entry cells c (form.Block at) word = refl
word-entry cells c (form.Con k) word = refl
word-entry cells c _ word = absurd word

-- the content of one that is listed
record HasContent (cells : List Cell) (at : ℕ) (entry : Option Value) : Type 0 where
  inside : suc at < length cells
  told : ((entry ≡ None) × (cell_at cells (suc at) ≡ unset_cell)) ⊎ ((v : Value) × (entry ≡ Some v) × (value_in cells (cell_at cells (suc at)) ≡ Some v))

has-content : (cells : List Cell) (at : ℕ) (entry : Option Value) → entry_in cells at ≡ Some entry → HasContent cells at entry
has-content cells at entry h =
    let there = then-some (λ (c : Cell). entry_at cells c (form_of c)) (slice_get cells (suc at)) entry h in
    let c : Cell = there.0 in
    let is : cell_at cells (suc at) ≡ c = get_or_from_slice_get cells (suc at) c unset_cell there.1 in
    let some : form.Unset ≢ form.Other = λ e. cc in
    record {
      inside = slice_get_within cells (suc at) c there.1;
      told = elim (entry-kind cells c (form_of c) entry there.2) [
        | inl unset ↦ inl (unset.0, is ∙ one-cell c form.Unset unset.1 some)
        | inr set ↦ inr (set.0, set.1, ap (value_in cells) is ∙ set.2)
      ];
    }

content-no_lvar : (cells : List Cell) (at : ℕ) (entry : Option Value) → HasContent cells at entry → form_of (cell_at cells (suc at)) ≢ form.Lvar
content-no_lvar cells at entry h e =
    elim h.told [
      | inl unset ↦ let f : form.Unset ≡ form.Lvar = sym unset-form ∙ sym (ap form_of unset.1) ∙ e in absurd (cc)
      | inr set ↦ stands-no_lvar cells (lvars_in cells) (length cells) (cell_at cells (suc at)) set.0 (value-stands cells (cell_at cells (suc at)) set.0 set.2) e
    ]

-- what is known of each head
head-content : (cells : List Cell) (store : Store) (i : ℕ) → store_in cells ≡ Some store → i < length cells → form_of (cell_at cells i) ≡ form.Lvar → (entry : Option Value) × HasContent cells i entry
head-content cells store i h inside head =
    let listed = head-listed 0 cells i inside head in
    let here : 0 + i ≡ i = omega arith in
    let entry = each-some (entry_in cells) (lvars_in cells) store listed.0 i h (listed.1 ∙ ap Some here) in
    (entry.0, has-content cells i entry.0 entry.1)

before-clear : (cells : List Cell) (store : Store) (n : ℕ) → store_in cells ≡ Some store → n ≤ length cells → (n < length cells → form_of (cell_at cells n) ≡ form.Lvar) → form_before cells n ≢ form.Lvar
before-clear cells store zero h within head e = cc
before-clear cells store (suc i) h within head e =
    let inside : i < length cells = omega (arith, within) in
    let content = head-content cells store i h inside e in
    content-no_lvar cells i content.0 content.1 (head content.1.inside)

pub store-binds : (cells : List Cell) (store : Store) → store_in cells ≡ Some store → Binds cells (lvars_in cells) store
store-binds cells store h =
    record {
      long = each-long (entry_in cells) (lvars_in cells) store h;
      lvars = lvar;
      apart = listed-apart 0 cells;
      holds = held;
      last = let whole : length cells ≤ length cells = omega arith in before-clear cells store (length cells) h whole (λ past. absurd (omega (arith, past)));
    }
  where
    lvar : (k at : ℕ) → slice_get (lvars_in cells) k ≡ Some at → IsLvar cells at
    lvar k at named =
        let t : IsListed 0 cells at = listed-head 0 cells k at named in
        let place = t.place in
        let i_is : t.i ≡ at = omega (arith, place) in
        let head : form_of (cell_at cells at) ≡ form.Lvar = ap (λ n. form_of (cell_at cells n)) (sym i_is) ∙ t.head in
        let inside = t.inside in
        let within : at ≤ length cells = omega (arith, inside, i_is) in
        let entry = each-some (entry_in cells) (lvars_in cells) store k at h named in
        let content : HasContent cells at entry.0 = has-content cells at entry.0 entry.1 in
        let some : form.Lvar ≢ form.Other = λ e. cc in
        record { head = look-shown cells at (before-clear cells store at h within (λ less. head)) ∙ one-cell (cell_at cells at) form.Lvar head some; inside = content.inside }

    held : (k at : ℕ) (entry : Option Value) → slice_get (lvars_in cells) k ≡ Some at → slice_get store k ≡ Some entry → HoldsEntry cells (lvars_in cells) at entry
    held k at entry named there =
        let told = each-some (entry_in cells) (lvars_in cells) store k at h named in
        let same : Some told.0 ≡ Some entry = sym told.2 ∙ there in
        let is : told.0 ≡ entry = cc in
        let content : HasContent cells at entry = has-content cells at entry (told.1 ∙ ap Some is) in
        let E : Option Value → Type 0 = λ e. HoldsEntry cells (lvars_in cells) at e in
        elim content.told [
          | inl unset ↦ subst E (sym unset.0) unset.1
          | inr set ↦ subst E (sym set.1) (value-stands cells (cell_at cells (suc at)) set.0 set.2)
        ]

pub binds-store : (cells : List Cell) (store : Store) → Binds cells (lvars_in cells) store → store_in cells ≡ Some store
binds-store cells store binds = each-is (entry_in cells) (lvars_in cells) store binds.long each
  where
    entry-of : (at : ℕ) (entry : Option Value) → HoldsEntry cells (lvars_in cells) at entry → entry_at cells (cell_at cells (suc at)) (form_of (cell_at cells (suc at))) ≡ Some entry
    entry-of at None unset = ap (λ (c : Cell). entry_at cells c (form_of c)) unset ∙ ap (entry_at cells unset_cell) unset-form
    entry-of at (Some v) stands =
        let c : Cell = cell_at cells (suc at) in
        word-entry cells c (form_of c) (stands-word cells (lvars_in cells) (length cells) c v stands) ∙ ap (option_map Some) (stands-value cells c v stands)

    each : (k at : ℕ) (entry : Option Value) → slice_get (lvars_in cells) k ≡ Some at → slice_get store k ≡ Some entry → entry_in cells at ≡ Some entry
    each k at entry named there =
        let inside = (binds.lvars k at named).inside in
        ap (option_and_then (λ (c : Cell). entry_at cells c (form_of c))) (slice_get-get_or cells (suc at) unset_cell inside) ∙ entry-of at entry (binds.holds k at entry named there)
