-- The trail against the heap, over plain lists.
use Rattle.std.proofs.Common.{◌≡◌, ◌≢◌, ℕ, ◌+◌, ◌-◌, ◌*◌, ◌/◌, ◌<◌, ◌≤◌, List, [], ◌∷◌, ◌++◌, length, set, take, drop, refl, sym, ap, subst, ◌∙◌, arith, false, true, eqb, inl, inr, get_or-set_other, get_or-set_same, length-append, length-set, append_assoc}
use Rattle.std.specs.List.{AllByRecursion, IsDistinct, list_any}
use Rattle.std.proofs.lemmas.List.{get_or_past, get_or-take, take-append-le, drop-append-le, get_or_append_left, append-nil, take-append-drop}
use Rattle.std.proofs.lemmas.Bool.{eqb-false, ne_eqb, cases_lt}
use Rattle.std.proofs.lemmas.Bool.Decides.{eqb_tells}
use Rattle.std.proofs.lemmas.Map.Steps.{length-le_from_distinct_below}
use Rattle.rml_heap.specs.declared.cell.Cell.{Cell}
use Rattle.rml_heap.specs.HeapState.{HeapState, unset_cell}
use Rattle.rml_heap.specs.Form as form
use Rattle.rml_heap.specs.Form.{Form, IsWord, form_of}
use Rattle.rml_heap.specs.Reading.{cell_at}
use Rattle.rml_trail.specs.TrailState.{TrailState, IsContent, IsSet, Fits, unset_all}

pub unset-form : form_of unset_cell ≡ form.Unset
unfolding form.form
unset-form = refl

pub word-not_unset : (c : Cell) → IsWord (form_of c) → c ≢ unset_cell
word-not_unset c h e = let P : Form → Type 0 = λ f. IsWord f in subst P (ap form_of e ∙ unset-form) h

pub word-no_head : (f : Form) → IsWord f → f ≢ form.Lvar
word-no_head f h e = let P : Form → Type 0 = λ f. IsWord f in subst P e h

pub unset-no_head : form_of unset_cell ≢ form.Lvar
unset-no_head e = let f : form.Unset ≡ form.Lvar = sym unset-form ∙ e in cc

pub value-inside : (cells : List Cell) (at : ℕ) → IsWord (form_of (cell_at cells at)) → at < length cells
value-inside cells at h =
    elim (cases_lt at (length cells)) [
      | inl within ↦ within
      | inr past ↦ absurd (word-not_unset (cell_at cells at) h (get_or_past cells at unset_cell past))
    ]

-- a write elsewhere keeps an entry
entry-set : (cells : List Cell) (at : ℕ) (c : Cell) (e : ℕ) → e ≢ at → form_of (cell_at cells at) ≢ form.Lvar → IsSet cells e → IsSet (set cells at c) e
entry-set cells at c e other no_head h =
    let before : e - 1 ≢ at = λ same. no_head (ap (λ n. form_of (cell_at cells n)) (sym same) ∙ h.content.head) in
    let head : cell_at (set cells at c) (e - 1) ≡ cell_at cells (e - 1) = get_or-set_other cells at (e - 1) c unset_cell before in
    let value : cell_at (set cells at c) e ≡ cell_at cells e = get_or-set_other cells at e c unset_cell other in
    let P : Cell → Type 0 = λ c. IsWord (form_of c) in
    record { content = record { positive = h.content.positive; head = ap form_of head ∙ h.content.head }; value = subst P (sym value) h.value }

all-weaker : (P Q : ℕ → Type 0) (es : List ℕ) → ((e : ℕ) → P e → Q e) → AllByRecursion P es → AllByRecursion Q es
all-weaker P Q [] f h = tt
all-weaker P Q (e ∷ es) f h = (f e h.0, all-weaker P Q es f h.1)

all-both : (P Q R : ℕ → Type 0) (es : List ℕ) → ((e : ℕ) → P e → Q e → R e) → AllByRecursion P es → AllByRecursion Q es → AllByRecursion R es
all-both P Q R [] f h i = tt
all-both P Q R (e ∷ es) f h i = (f e h.0 i.0, all-both P Q R es f h.1 i.1)

all-push : (P : ℕ → Type 0) (es : List ℕ) (e : ℕ) → AllByRecursion P es → P e → AllByRecursion P (es ++ e ∷ [])
all-push P [] e h p = (p, tt)
all-push P (x ∷ es) e h p = (h.0, all-push P es e h.1 p)

all-pop : (P : ℕ → Type 0) (es : List ℕ) (e : ℕ) → AllByRecursion P (es ++ e ∷ []) → AllByRecursion P es × P e
all-pop P [] e h = (tt, h.0)
all-pop P (x ∷ es) e h = let rest = all-pop P es e h.1 in ((h.0, rest.0), rest.1)

distinct-push : (es : List ℕ) (e : ℕ) → IsDistinct eqb es → AllByRecursion (λ x. x ≢ e) es → IsDistinct eqb (es ++ e ∷ [])
unfolding IsDistinct
distinct-push [] e h p = (tt, tt)
distinct-push (x ∷ es) e h p = (all-push (λ y. eqb x y ≡ false) es e h.0 (ne_eqb x e p.0), distinct-push es e h.1 p.1)

distinct-pop : (es : List ℕ) (e : ℕ) → IsDistinct eqb (es ++ e ∷ []) → IsDistinct eqb es × AllByRecursion (λ x. x ≢ e) es
unfolding IsDistinct
distinct-pop [] e h = (tt, tt)
distinct-pop (x ∷ es) e h =
    let here = all-pop (λ y. eqb x y ≡ false) es e h.0 in
    let rest = distinct-pop es e h.1 in
    ((here.0, rest.0), (eqb-false x e here.1, rest.1))

-- each entry and the place before it
spread : List ℕ → List ℕ
spread [] = []
spread (e ∷ es) = e ∷ (e - 1) ∷ spread es

length-spread : (es : List ℕ) → length (spread es) ≡ 2 * length es
unfolding spread
length-spread [] = refl
length-spread (e ∷ es) = let h = length-spread es in omega (arith, h)

-- a value's place is not among them, if it is no entry
apart-value : (cells : List Cell) (e : ℕ) (es : List ℕ) → IsWord (form_of (cell_at cells e)) → AllByRecursion (λ y. eqb e y ≡ false) es → AllByRecursion (IsSet cells) es → AllByRecursion (λ y. eqb e y ≡ false) (spread es)
unfolding spread
apart-value cells e [] v d h = tt
apart-value cells e (x ∷ es) v d h =
    let other : e ≢ x - 1 = λ same. word-no_head (form_of (cell_at cells e)) v (ap (λ n. form_of (cell_at cells n)) same ∙ h.0.content.head) in
    (d.0, (ne_eqb e (x - 1) other, apart-value cells e es v d.1 h.1))

apart-head : (cells : List Cell) (e : ℕ) (es : List ℕ) → IsSet cells e → AllByRecursion (λ y. eqb e y ≡ false) es → AllByRecursion (IsSet cells) es → AllByRecursion (λ y. eqb (e - 1) y ≡ false) (spread es)
unfolding spread
apart-head cells e [] v d h = tt
apart-head cells e (x ∷ es) v d h =
    let one : e - 1 ≢ x = λ same. word-no_head (form_of (cell_at cells x)) h.0.value (ap (λ n. form_of (cell_at cells n)) (sym same) ∙ v.content.head) in
    let far : e ≢ x = eqb-false e x d.0 in
    let p : 0 < e = v.content.positive in
    let q : 0 < x = h.0.content.positive in
    let two : e - 1 ≢ x - 1 = λ same. far (omega (arith, same)) in
    (ne_eqb (e - 1) x one, (ne_eqb (e - 1) (x - 1) two, apart-head cells e es v d.1 h.1))

distinct-spread : (cells : List Cell) (es : List ℕ) → IsDistinct eqb es → AllByRecursion (IsSet cells) es → IsDistinct eqb (spread es)
unfolding spread IsDistinct
distinct-spread cells [] d h = tt
distinct-spread cells (e ∷ es) d h =
    let p : 0 < e = h.0.content.positive in
    let self : e ≢ e - 1 = λ same. omega (arith, same) in
    ((ne_eqb e (e - 1) self, apart-value cells e es h.0.value d.0 h.1), (apart-head cells e es h.0 d.0 h.1, distinct-spread cells es d.1 h.1))

below-spread : (cells : List Cell) (es : List ℕ) → AllByRecursion (IsSet cells) es → AllByRecursion (λ e. e < length cells) (spread es)
unfolding spread
below-spread cells [] h = tt
below-spread cells (e ∷ es) h =
    let in_cells : e < length cells = value-inside cells e h.0.value in
    (in_cells, (omega (arith, in_cells), below-spread cells es h.1))

below-any : (n : ℕ) (xs : List ℕ) → AllByRecursion (λ e. e < n) xs → (q : ℕ) → list_any (eqb q) xs ≡ true → q < n
below-any n [] h q e = absurd (cc)
below-any n (x ∷ xs) h q e =
    elim (eqb_tells q x) [
      | inl same ↦ let s : q ≡ x = same.1 in let b : x < n = h.0 in omega (arith, s, b)
      | inr other ↦ below-any n xs h.1 q (rw other.0 at e)
    ]

-- the entries and one more take two cells each
pub room : (cells : List Cell) (es : List ℕ) → IsDistinct eqb es → AllByRecursion (IsSet cells) es → 2 * length es ≤ length cells
room cells es d h =
    let most : length (spread es) ≤ length cells = length-le_from_distinct_below (spread es) (length cells) (distinct-spread cells es d h) (below-any (length cells) (spread es) (below-spread cells es h)) in
    omega (arith, most, length-spread es)

-- after a set
set-all : (cells : List Cell) (at : ℕ) (c : Cell) (es : List ℕ) → cell_at cells at ≡ unset_cell → AllByRecursion (IsSet cells) es → AllByRecursion (λ e. e ≢ at) es
set-all cells at c es unset h =
    all-weaker (IsSet cells) (λ e. e ≢ at) es (λ e entry same. word-not_unset (cell_at cells e) entry.value (ap (cell_at cells) same ∙ unset)) h

pub set-fits : (cells frames : List Cell) (limit most : ℕ) (es : List ℕ) (at : ℕ) (c : Cell)
    → Fits (record { entries = es; limit = most }) (record { values = cells; frames = frames; limit = limit })
    → IsContent cells at → cell_at cells at ≡ unset_cell → at < length cells → IsWord (form_of c)
    → Fits (record { entries = es ++ at ∷ []; limit = most }) (record { values = set cells at c; frames = frames; limit = limit })
set-fits cells frames limit most es at c fits content unset inside value =
    let others : AllByRecursion (λ e. e ≢ at) es = set-all cells at c es unset fits.entries in
    let no_head : form_of (cell_at cells at) ≢ form.Lvar = λ e. unset-no_head (ap form_of (sym unset) ∙ e) in
    let p : 0 < at = content.positive in
    let before : at - 1 ≢ at = λ same. omega (arith, same) in
    let here : cell_at (set cells at c) at ≡ c = get_or-set_same cells at c unset_cell inside in
    let there : cell_at (set cells at c) (at - 1) ≡ cell_at cells (at - 1) = get_or-set_other cells at (at - 1) c unset_cell before in
    let P : Cell → Type 0 = λ c. IsWord (form_of c) in
    record {
      distinct = distinct-push es at fits.distinct others;
      entries = all-push (IsSet (set cells at c)) es at (all-both (λ e. e ≢ at) (IsSet cells) (IsSet (set cells at c)) es (λ e other entry. entry-set cells at c e other no_head entry) others fits.entries) (record { content = record { positive = p; head = ap form_of there ∙ content.head }; value = subst P (sym here) value });
      limit = fits.limit;
    }

-- one more entry has room too
pub set-room : (cells frames : List Cell) (limit most : ℕ) (es : List ℕ) (at : ℕ) (c : Cell)
    → Fits (record { entries = es; limit = most }) (record { values = cells; frames = frames; limit = limit })
    → IsContent cells at → cell_at cells at ≡ unset_cell → at < length cells → IsWord (form_of c) → length cells ≤ limit → length es < most / 2
set-room cells frames limit most es at c fits content unset inside value within =
    let after = set-fits cells frames limit most es at c fits content unset inside value in
    let enough : 2 * length (es ++ at ∷ []) ≤ length (set cells at c) = room (set cells at c) (es ++ at ∷ []) after.distinct after.entries in
    let wide : limit ≤ most = fits.limit in
    let long : length (es ++ at ∷ []) ≡ length es + 1 = length-append es (at ∷ []) in
    let same : length (set cells at c) ≡ length cells = length-set cells at c in
    let bound : 2 * length es + 2 ≤ most = omega (arith, enough, wide, long, same) in
    grind (arith, bound)

-- after an entry was unset
pub undo-fits : (cells frames : List Cell) (limit most : ℕ) (es : List ℕ) (at : ℕ)
    → Fits (record { entries = es ++ at ∷ []; limit = most }) (record { values = cells; frames = frames; limit = limit })
    → Fits (record { entries = es; limit = most }) (record { values = set cells at unset_cell; frames = frames; limit = limit })
undo-fits cells frames limit most es at fits =
    let parts = distinct-pop es at fits.distinct in
    let entries = all-pop (IsSet cells) es at fits.entries in
    let no_head : form_of (cell_at cells at) ≢ form.Lvar = word-no_head (form_of (cell_at cells at)) entries.1.value in
    record {
      distinct = parts.0;
      entries = all-both (λ e. e ≢ at) (IsSet cells) (IsSet (set cells at unset_cell)) es (λ e other entry. entry-set cells at unset_cell e other no_head entry) parts.1 entries.0;
      limit = fits.limit;
    }

pub undo-inside : (cells frames : List Cell) (limit most : ℕ) (es : List ℕ) (at : ℕ)
    → Fits (record { entries = es ++ at ∷ []; limit = most }) (record { values = cells; frames = frames; limit = limit })
    → at < length cells
undo-inside cells frames limit most es at fits = value-inside cells at (all-pop (IsSet cells) es at fits.entries).1.value

pub unset_all-push : (es : List ℕ) (at : ℕ) (cells : List Cell) → unset_all (es ++ at ∷ []) cells ≡ unset_all es (set cells at unset_cell)
unset_all-push [] at cells = refl
unset_all-push (e ∷ es) at cells = ap (λ cs. set cs e unset_cell) (unset_all-push es at cells)

-- how far an undoing has come
pub record Undoing (before : TrailState) (cells_before : HeapState) (mark : ℕ) (trail : TrailState) (heap : HeapState) : Type 0 where
  pub fits : Fits trail heap
  pub within : mark ≤ length trail.entries
  pub kept : take mark trail.entries ≡ take mark before.entries
  pub undone : unset_all (drop mark trail.entries) heap.values ≡ unset_all (drop mark before.entries) cells_before.values
  pub frames : heap.frames ≡ cells_before.frames
  pub limit : heap.limit ≡ cells_before.limit
  pub most : trail.limit ≡ before.limit

pub undoing-step : (before : TrailState) (cells_before : HeapState) (mark : ℕ) (es : List ℕ) (at most limit : ℕ) (cells frames : List Cell)
    → mark ≤ length es
    → Undoing before cells_before mark (record { entries = es ++ at ∷ []; limit = most }) (record { values = cells; frames = frames; limit = limit })
    → Undoing before cells_before mark (record { entries = es; limit = most }) (record { values = set cells at unset_cell; frames = frames; limit = limit })
undoing-step before cells_before mark es at most limit cells frames short h =
    let kept : take mark (es ++ at ∷ []) ≡ take mark es = take-append-le mark es (at ∷ []) short in
    let rest : drop mark (es ++ at ∷ []) ≡ drop mark es ++ at ∷ [] = drop-append-le mark es (at ∷ []) short in
    let undone : unset_all (drop mark (es ++ at ∷ [])) cells ≡ unset_all (drop mark es) (set cells at unset_cell) = ap (λ xs. unset_all xs cells) rest ∙ unset_all-push (drop mark es) at cells in
    record {
      fits = undo-fits cells frames limit most es at h.fits;
      within = short;
      kept = sym kept ∙ h.kept;
      undone = sym undone ∙ h.undone;
      frames = h.frames;
      limit = h.limit;
      most = h.most;
    }

entry-extends : (cells more : List Cell) (e : ℕ) → IsSet cells e → IsSet (cells ++ more) e
entry-extends cells more e h =
    let inside : e < length cells = value-inside cells e h.value in
    let below : e - 1 < length cells = omega (arith, inside) in
    let value : cell_at (cells ++ more) e ≡ cell_at cells e = get_or_append_left cells more unset_cell e inside in
    let P : Cell → Type 0 = λ c. IsWord (form_of c) in
    record { content = record { positive = h.content.positive; head = ap form_of (get_or_append_left cells more unset_cell (e - 1) below) ∙ h.content.head }; value = subst P (sym value) h.value }

-- more cells above
pub fits-added : (trail : TrailState) (heap : HeapState) (more : List Cell) → Fits trail heap → Fits trail (record heap { values = heap.values ++ more })
fits-added trail heap more h =
    record {
      distinct = h.distinct;
      entries = all-weaker (IsSet heap.values) (IsSet (heap.values ++ more)) trail.entries (entry-extends heap.values more) h.entries;
      limit = h.limit;
    }

entry-below : (cells : List Cell) (top e : ℕ) → e < top → IsSet cells e → IsSet (take top cells) e
entry-below cells top e below h =
    let before : e - 1 < top = omega (arith, below) in
    let value : cell_at (take top cells) e ≡ cell_at cells e = get_or-take top cells e unset_cell below in
    let P : Cell → Type 0 = λ c. IsWord (form_of c) in
    record { content = record { positive = h.content.positive; head = ap form_of (get_or-take top cells (e - 1) unset_cell before) ∙ h.content.head }; value = subst P (sym value) h.value }

-- cells taken back, none of them an entry
pub fits-taken_back : (trail : TrailState) (heap : HeapState) (top : ℕ) → AllByRecursion (λ e. e < top) trail.entries → Fits trail heap → Fits trail (record heap { values = take top heap.values })
fits-taken_back trail heap top below h =
    record {
      distinct = h.distinct;
      entries = all-both (λ e. e < top) (IsSet heap.values) (IsSet (take top heap.values)) trail.entries (entry-below heap.values top) below h.entries;
      limit = h.limit;
    }

-- a trail without entries
pub fits-nothing : (heap : HeapState) (limit : ℕ) → heap.limit ≤ limit → Fits (record { entries = []; limit = limit }) heap
unfolding IsDistinct
fits-nothing heap limit wide = record { distinct = tt; entries = tt; limit = wide }

pub fits-frames : (trail : TrailState) (heap : HeapState) (frames : List Cell) → Fits trail heap → Fits trail (record heap { frames = frames })
fits-frames trail heap frames h = record { distinct = h.distinct; entries = h.entries; limit = h.limit }

pub length_unset_all : (es : List ℕ) (cells : List Cell) → length (unset_all es cells) ≡ length cells
length_unset_all [] cells = refl
length_unset_all (e ∷ es) cells = length-set (unset_all es cells) e unset_cell ∙ length_unset_all es cells

-- after all entries from some place on were unset
fits-undo_all : (xs ys : List ℕ) (cells frames : List Cell) (limit most : ℕ)
    → Fits (record { entries = xs ++ ys; limit = most }) (record { values = cells; frames = frames; limit = limit })
    → Fits (record { entries = xs; limit = most }) (record { values = unset_all ys cells; frames = frames; limit = limit })
fits-undo_all xs [] cells frames limit most h =
    let P : List ℕ → Type 0 = λ es. Fits (record { entries = es; limit = most }) (record { values = cells; frames = frames; limit = limit }) in
    subst P (append-nil xs) h
fits-undo_all xs (y ∷ ys) cells frames limit most h =
    let P : List ℕ → Type 0 = λ es. Fits (record { entries = es; limit = most }) (record { values = cells; frames = frames; limit = limit }) in
    undo-fits (unset_all ys cells) frames limit most xs y (fits-undo_all (xs ++ y ∷ []) ys cells frames limit most (subst P (sym (append_assoc xs (y ∷ []) ys)) h))

pub fits-undone : (trail : TrailState) (heap : HeapState) (mark : ℕ)
    → Fits trail heap
    → Fits (record { entries = take mark trail.entries; limit = trail.limit }) (record heap { values = unset_all (drop mark trail.entries) heap.values })
fits-undone trail heap mark h =
    let P : List ℕ → Type 0 = λ es. Fits (record { entries = es; limit = trail.limit }) heap in
    fits-undo_all (take mark trail.entries) (drop mark trail.entries) heap.values heap.frames heap.limit trail.limit (subst P (sym (take-append-drop mark trail.entries)) h)
