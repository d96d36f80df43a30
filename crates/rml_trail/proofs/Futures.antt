-- What comes after a moment: each step keeps it, and undoing leads back.
use Rattle.std.proofs.Common.{◌≡◌, ◌≢◌, ℕ, zero, suc, ◌+◌, ◌-◌, ◌<◌, ◌≤◌, List, [], ◌∷◌, ◌++◌, length, set, take, drop, refl, sym, ap, ◌∙◌, arith, inl, inr, append_assoc, set-set}
use Rattle.std.specs.List.{AllByRecursion}
use Rattle.std.proofs.lemmas.List.{append-nil, length-append, length-take, take_all, take-take, take-append-le, take-append-drop, take-set-le, take_at, drop_at, drop-append-le, set-get_or, set_past, get_or-take, get_or_append_left, get_or-set_other, get_or-set_same}
use Rattle.std.proofs.lemmas.Bool.{cases_lt}
use Rattle.std.proofs.lemmas.Bool.Decides.{eqb_tells}
use Rattle.rml_heap.specs.declared.cell.Cell.{Cell}
use Rattle.rml_heap.specs.HeapState.{unset_cell}
use Rattle.rml_heap.specs.Form as form
use Rattle.rml_heap.specs.Form.{Form, IsWord, form_of}
use Rattle.rml_heap.specs.Reading.{cell_at, look}
use Rattle.rml_heap.proofs.Callers.{look-below, look-content}
use Rattle.rml_trail.specs.TrailState.{IsContent, IsSet, unset_all}
use Rattle.rml_trail.specs.Future.{Store, Future}
use Rattle.rml_trail.proofs.Trails.{unset_all-push, length_unset_all, unset-no_head, word-no_head, value-inside}

-- undoing a set gives what undoing gave before the set
pub unset_all-set : (es : List ℕ) (at : ℕ) (c : Cell) (cells : List Cell) → cell_at cells at ≡ unset_cell → unset_all (es ++ at ∷ []) (set cells at c) ≡ unset_all es cells
unset_all-set es at c cells unset =
    let back : set (set cells at c) at unset_cell ≡ cells = set-set cells at c unset_cell ∙ sym (ap (set cells at) unset) ∙ set-get_or cells at unset_cell in
    unset_all-push es at (set cells at c) ∙ ap (unset_all es) back

-- undoing twice is undoing both
pub unset_all-append : (xs ys : List ℕ) (cells : List Cell) → unset_all (xs ++ ys) cells ≡ unset_all xs (unset_all ys cells)
unset_all-append [] ys cells = refl
unset_all-append (x ∷ xs) ys cells = ap (λ cs. set cs x unset_cell) (unset_all-append xs ys cells)

take-set : (n : ℕ) (cells : List Cell) (at : ℕ) (c : Cell) → take n (set cells at c) ≡ set (take n cells) at c
take-set zero cells at c = refl
take-set (suc n) [] at c = refl
take-set (suc n) (x ∷ cells) zero c = refl
take-set (suc n) (x ∷ cells) (suc at) c = ap (λ cs. x ∷ cs) (take-set n cells at c)

-- undoing below a place is by the cells below it
pub take-unset_all : (n : ℕ) (es : List ℕ) (cells : List Cell) → take n (unset_all es cells) ≡ unset_all es (take n cells)
take-unset_all n [] cells = refl
take-unset_all n (e ∷ es) cells = take-set n (unset_all es cells) e unset_cell ∙ ap (λ cs. set cs e unset_cell) (take-unset_all n es cells)

pub future-same : (s : Store) → Future s s
future-same s =
    record {
      more = [];
      entries = sym (append-nil s.entries);
      looks = λ at below. refl;
      undone = let whole : length s.cells ≤ length s.cells = omega arith in take_all (length s.cells) s.cells whole;
    }

-- then no cell of then was taken back
pub future-longer : (s t : Store) → Future s t → length s.cells ≤ length t.cells
future-longer s t h =
    elim (cases_lt (length t.cells) (length s.cells)) [
      | inl shorter ↦
          let short : length (unset_all h.more t.cells) ≤ length s.cells = omega (arith, length_unset_all h.more t.cells, shorter) in
          let is : unset_all h.more t.cells ≡ s.cells = sym (take_all (length s.cells) (unset_all h.more t.cells) short) ∙ h.undone in
          let e : length (unset_all h.more t.cells) ≡ length s.cells = ap length is in
          absurd (omega (arith, e, length_unset_all h.more t.cells, shorter))
      | inr longer ↦ longer
    ]

pub future-then : (s t u : Store) → Future s t → Future t u → Future s u
future-then s t u h k =
    let longer : length s.cells ≤ length t.cells = future-longer s t h in
    record {
      more = h.more ++ k.more;
      entries = k.entries ∙ ap (λ es. es ++ k.more) h.entries ∙ append_assoc s.entries h.more k.more;
      looks = λ at below. let further : at < length t.cells = omega (arith, below, longer) in k.looks at further ∙ h.looks at below;
      undone =
          let n : ℕ = length s.cells in
          let split : take n (unset_all (h.more ++ k.more) u.cells) ≡ unset_all h.more (take n (unset_all k.more u.cells)) =
          ap (take n) (unset_all-append h.more k.more u.cells) ∙ take-unset_all n h.more (unset_all k.more u.cells)
          in
          let inner : take n (unset_all k.more u.cells) ≡ take n t.cells = sym (take-take n (length t.cells) (unset_all k.more u.cells) longer) ∙ ap (take n) k.undone in
          split ∙ ap (unset_all h.more) inner ∙ sym (take-unset_all n h.more t.cells) ∙ h.undone;
    }

-- a variable was set
pub future-set : (s t : Store) (at : ℕ) (c : Cell) → Future s t → IsContent t.cells at → cell_at t.cells at ≡ unset_cell → at < length t.cells → IsWord (form_of c)
    → Future s (record { cells = set t.cells at c; entries = t.entries ++ at ∷ [] })
future-set s t zero c h content unset inside word = let positive : 0 < 0 = content.positive in absurd (omega (arith, positive))
future-set s t (suc at) c h content unset inside word =
    let before : suc at - 1 ≡ at = omega arith in
    let head : form_of (cell_at t.cells at) ≡ form.Lvar = ap (λ n. form_of (cell_at t.cells n)) (sym before) ∙ content.head in
    let old : form_of (cell_at t.cells (suc at)) ≢ form.Lvar = λ e. unset-no_head (ap form_of (sym unset) ∙ e) in
    let new : form_of c ≢ form.Lvar = word-no_head (form_of c) word in
    record {
      more = h.more ++ suc at ∷ [];
      entries = ap (λ es. es ++ suc at ∷ []) h.entries ∙ append_assoc s.entries h.more (suc at ∷ []);
      looks = λ i below. look-content t.cells at c head inside old new i ∙ h.looks i below;
      undone = ap (take (length s.cells)) (unset_all-set h.more (suc at) c t.cells unset) ∙ h.undone;
    }

-- cells below a place stay, and entries stay
future-kept : (s t : Store) (cells : List Cell) → Future s t → take (length s.cells) cells ≡ take (length s.cells) t.cells
    → ((at : ℕ) → at < length s.cells → cell_at cells at ≡ cell_at t.cells at) → Future s (record { cells = cells; entries = t.entries })
future-kept s t cells h same each =
    let n : ℕ = length s.cells in
    record {
      more = h.more;
      entries = h.entries;
      looks = λ at below. look-below t.cells cells n each at below ∙ h.looks at below;
      undone = take-unset_all n h.more cells ∙ ap (unset_all h.more) same ∙ sym (take-unset_all n h.more t.cells) ∙ h.undone;
    }

pub future-added : (s t : Store) (more : List Cell) → Future s t → Future s (record { cells = t.cells ++ more; entries = t.entries })
future-added s t more h =
    let longer : length s.cells ≤ length t.cells = future-longer s t h in
    future-kept s t (t.cells ++ more) h (take-append-le (length s.cells) t.cells more longer)
    (λ at below. get_or_append_left t.cells more unset_cell at (omega (arith, below, longer)))

pub future-taken_back : (s t : Store) (top : ℕ) → Future s t → length s.cells ≤ top → Future s (record { cells = take top t.cells; entries = t.entries })
future-taken_back s t top h above =
    future-kept s t (take top t.cells) h (take-take (length s.cells) top t.cells above)
    (λ at below. get_or-take top t.cells at unset_cell (omega (arith, below, above)))

pub future-written : (s t : Store) (at : ℕ) (c : Cell) → Future s t → length s.cells ≤ at → Future s (record { cells = set t.cells at c; entries = t.entries })
future-written s t at c h above =
    future-kept s t (set t.cells at c) h (take-set-le (length s.cells) t.cells at c above)
    (λ i below. let other : i ≢ at = λ e. omega (arith, e, below, above) in get_or-set_other t.cells at i c unset_cell other)

-- ---- undoing is not seen

-- heads stay heads, and nothing becomes one
heads-stay : (es : List ℕ) (cells : List Cell) → AllByRecursion (IsSet cells) es → (i : ℕ) → form_of (cell_at cells i) ≡ form.Lvar → form_of (cell_at (unset_all es cells) i) ≡ form.Lvar
heads-stay [] cells h i head = head
heads-stay (e ∷ es) cells h i head =
    let other : i ≢ e = λ same. word-no_head (form_of (cell_at cells e)) h.0.value (ap (λ n. form_of (cell_at cells n)) (sym same) ∙ head) in
    ap form_of (get_or-set_other (unset_all es cells) e i unset_cell unset_cell other) ∙ heads-stay es cells h.1 i head

no-heads-come : (es : List ℕ) (cells : List Cell) (i : ℕ) → form_of (cell_at cells i) ≢ form.Lvar → form_of (cell_at (unset_all es cells) i) ≢ form.Lvar
no-heads-come [] cells i none = none
no-heads-come (e ∷ es) cells i none =
    elim (eqb_tells i e) [
      | inl same ↦
          elim (cases_lt e (length (unset_all es cells))) [
            | inl inside ↦
                let now : cell_at (set (unset_all es cells) e unset_cell) i ≡ unset_cell = ap (cell_at (set (unset_all es cells) e unset_cell)) same.1 ∙ get_or-set_same (unset_all es cells) e unset_cell unset_cell inside in
                λ head. unset-no_head (sym (ap form_of now) ∙ head)
            | inr past ↦
                let as_was : set (unset_all es cells) e unset_cell ≡ unset_all es cells = set_past (unset_all es cells) e unset_cell past in
                λ head. no-heads-come es cells i none (ap (λ cs. form_of (cell_at cs i)) (sym as_was) ∙ head)
          ]
      | inr other ↦
          let as_was : cell_at (set (unset_all es cells) e unset_cell) i ≡ cell_at (unset_all es cells) i = get_or-set_other (unset_all es cells) e i unset_cell unset_cell other.1 in
          λ head. no-heads-come es cells i none (ap form_of (sym as_was) ∙ head)
    ]

content-undone : (e : ℕ) (es : List ℕ) (cells : List Cell) → IsSet cells e → AllByRecursion (IsSet cells) es → (i : ℕ) → look (set (unset_all es cells) e unset_cell) i ≡ look (unset_all es cells) i
content-undone zero es cells one h i = let positive : 0 < 0 = one.content.positive in absurd (omega (arith, positive))
content-undone (suc e) es cells one h i =
    let before : suc e - 1 ≡ e = omega arith in
    let head : form_of (cell_at cells e) ≡ form.Lvar = ap (λ n. form_of (cell_at cells n)) (sym before) ∙ one.content.head in
    let inside : suc e < length (unset_all es cells) = let w = value-inside cells (suc e) one.value in omega (arith, w, length_unset_all es cells) in
    look-content (unset_all es cells) e unset_cell (heads-stay es cells h e head) inside
    (no-heads-come es cells (suc e) (word-no_head (form_of (cell_at cells (suc e))) one.value)) unset-no_head i

pub look-undone : (es : List ℕ) (cells : List Cell) → AllByRecursion (IsSet cells) es → (i : ℕ) → look (unset_all es cells) i ≡ look cells i
look-undone [] cells h i = refl
look-undone (e ∷ es) cells h i = content-undone e es cells h.0 h.1 i ∙ look-undone es cells h.1 i

all-drop : (P : ℕ → Type 0) (n : ℕ) (es : List ℕ) → AllByRecursion P es → AllByRecursion P (drop n es)
all-drop P zero es h = h
all-drop P (suc n) [] h = tt
all-drop P (suc n) (e ∷ es) h = all-drop P n es h.1

pub future-undone : (s t : Store) (mark : ℕ) → Future s t → length s.entries ≤ mark → AllByRecursion (IsSet t.cells) t.entries
    → Future s (record { cells = unset_all (drop mark t.entries) t.cells; entries = take mark t.entries })
future-undone s t mark h above set_all =
    let n : ℕ = length s.entries in
    let kept : take n t.entries ≡ s.entries = ap (take n) h.entries ∙ take_at s.entries h.more n refl in
    let rest : drop n t.entries ≡ h.more = ap (drop n) h.entries ∙ drop_at s.entries h.more n refl in
    let long : length t.entries ≡ n + length h.more = ap length h.entries ∙ length-append s.entries h.more in
    let room : n ≤ length (take mark t.entries) = omega (arith, length-take mark t.entries, above, long) in
    let more : List ℕ = drop n (take mark t.entries) in
    let front : take n (take mark t.entries) ≡ s.entries = take-take n mark t.entries above ∙ kept in
    let both : more ++ drop mark t.entries ≡ h.more =
    sym (drop-append-le n (take mark t.entries) (drop mark t.entries) room) ∙ ap (drop n) (take-append-drop mark t.entries) ∙ rest
    in
    record {
      more = more;
      entries = sym (take-append-drop n (take mark t.entries)) ∙ ap (λ es. es ++ more) front;
      looks = λ i below. look-undone (drop mark t.entries) t.cells (all-drop (IsSet t.cells) mark t.entries set_all) i ∙ h.looks i below;
      undone = ap (take (length s.cells)) (sym (unset_all-append more (drop mark t.entries) t.cells) ∙ ap (λ es. unset_all es t.cells) both) ∙ h.undone;
    }

-- undoing what was set since leads back
pub future-restored : (s t : Store) → Future s t → (take (length s.entries) t.entries ≡ s.entries) × (take (length s.cells) (unset_all (drop (length s.entries) t.entries) t.cells) ≡ s.cells)
future-restored s t h =
    let n : ℕ = length s.entries in
    let kept : take n t.entries ≡ s.entries = ap (take n) h.entries ∙ take_at s.entries h.more n refl in
    let rest : drop n t.entries ≡ h.more = ap (drop n) h.entries ∙ drop_at s.entries h.more n refl in
    (kept, ap (λ es. take (length s.cells) (unset_all es t.cells)) rest ∙ h.undone)
