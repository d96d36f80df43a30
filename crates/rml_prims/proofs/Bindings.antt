-- What the cells and the store are to each other after cells were added, after a logical variable was made, and after one was set.
use Rattle.std.proofs.Common.{◌≡◌, ◌≢◌, ℕ, zero, suc, ◌+◌, ◌<◌, ◌≤◌, ◌⊎◌, List, [], ◌∷◌, ◌++◌, Option, Some, None, length, set, refl, sym, ap, subst, ◌∙◌, arith, inl, inr, get_or-set_other, get_or-set_same, length-append, length-set}
use Rattle.std.specs.Prelude.{slice_get}
use Rattle.std.proofs.lemmas.List.{get_or_append_left}
use Rattle.std.proofs.lemmas.Option.{slice_get_within}
use Rattle.std.proofs.lemmas.Bool.Decides.{eqb_tells}
use Rattle.rml_value.specs.declared.value.Value.{Value}
use Rattle.rml_builtin.specs.Applied.{Store}
use Rattle.rml_heap.specs.declared.cell.Cell.{Cell}
use Rattle.rml_heap.specs.HeapState.{unset_cell, lvar_head}
use Rattle.rml_heap.specs.Form as form
use Rattle.rml_heap.specs.Form.{Form, form_of}
use Rattle.rml_heap.specs.Reading.{cell_at, form_before, look, Stands}
use Rattle.rml_heap.specs.Agrees.{Agrees}
use Rattle.rml_heap.proofs.Callers.{agrees-content, agrees-more, agrees-names, at-end, before-append, before-next, below-agrees, below-higher, look-below, look-content, look-is, look-shown, stands-no_lvar, unset-form}
use Rattle.rml_prims.specs.Binds.{Binds, HoldsEntry, IsLvar}

-- ---- lists by places

get-push : {A : Type 0} (xs : List A) (x y : A) (k : ℕ) → slice_get (xs ++ x ∷ []) k ≡ Some y → (slice_get xs k ≡ Some y) ⊎ ((k ≡ length xs) × (x ≡ y))
get-push [] x y zero h = inr (refl, cc)
get-push {A} [] x y (suc k) h = let none_is : Option A = None in let e : none_is ≡ Some y = h in absurd (cc)
get-push (z ∷ xs) x y zero h = inl h
get-push (z ∷ xs) x y (suc k) h =
    elim (get-push xs x y k h) [
      | inl old ↦ inl old
      | inr new ↦ inr (ap suc new.0, new.1)
    ]

get-set : {A : Type 0} (xs : List A) (k j : ℕ) (x y : A) → slice_get (set xs k x) j ≡ Some y → ((j ≡ k) × (x ≡ y)) ⊎ ((j ≢ k) × (slice_get xs j ≡ Some y))
get-set {A} [] k j x y h = let none_is : Option A = None in let e : none_is ≡ Some y = h in absurd (cc)
get-set (z ∷ xs) zero zero x y h = inl (refl, cc)
get-set (z ∷ xs) zero (suc j) x y h = inr (λ e. omega (arith, e), h)
get-set (z ∷ xs) (suc k) zero x y h = inr (λ e. omega (arith, e), h)
get-set (z ∷ xs) (suc k) (suc j) x y h =
    elim (get-set xs k j x y h) [
      | inl same ↦ inl (ap suc same.0, same.1)
      | inr other ↦ inr (λ e. other.0 (omega (arith, e)), other.1)
    ]

-- ---- what stays

pub lvar-form : form_of lvar_head ≡ form.Lvar
unfolding form.form
lvar-form = refl

lvar-not_unset : lvar_head ≢ unset_cell
lvar-not_unset e = let f : form.Lvar ≡ form.Unset = sym lvar-form ∙ ap form_of e ∙ unset-form in cc

pub unset-no_lvar : form_of unset_cell ≢ form.Lvar
unset-no_lvar e = let f : form.Unset ≡ form.Lvar = sym unset-form ∙ e in cc

-- the head of a logical variable is seen, and there
pub head-there : (cells : List Cell) (at : ℕ) → look cells at ≡ lvar_head → cell_at cells at ≡ lvar_head
head-there cells at head =
    elim (look-is cells at) [
      | inl hidden ↦ absurd (lvar-not_unset (sym head ∙ hidden))
      | inr seen ↦ sym seen ∙ head
    ]

-- a cell stands for what it stood for, below all cells
pub stands-agree : (before : List Cell) (names : List ℕ) (after : List Cell) (names_after : List ℕ) → Agrees (length before) before names after names_after → length before ≤ length after
    → (c : Cell) (v : Value) → Stands before names (length before) c v → Stands after names_after (length after) c v
stands-agree before names after names_after agrees long c v h =
    (h.0, below-higher h.0 after names_after (length before) (length after) c v long (below-agrees h.0 before names after names_after (length before) agrees c v h.1))

entry-agrees : (before : List Cell) (names : List ℕ) (after : List Cell) (names_after : List ℕ) → Agrees (length before) before names after names_after → length before ≤ length after
    → (at : ℕ) → cell_at after (suc at) ≡ cell_at before (suc at) → (entry : Option Value) → HoldsEntry before names at entry → HoldsEntry after names_after at entry
entry-agrees before names after names_after agrees long at same None h = same ∙ h
entry-agrees before names after names_after agrees long at same (Some v) h =
    let P : Cell → Type 0 = λ c. Stands after names_after (length after) c v in
    subst P (sym same) (stands-agree before names after names_after agrees long (cell_at before (suc at)) v h)

-- ---- cells were added

lvar-added : (cells more : List Cell) (at : ℕ) → IsLvar cells at → IsLvar (cells ++ more) at
lvar-added cells more at h =
    let inside : suc at < length cells = h.inside in
    let below : at < length cells = omega (arith, inside) in
    let size = length-append cells more in
    record {
      head = look-below cells (cells ++ more) (length cells) (λ i low. get_or_append_left cells more unset_cell i low) at below ∙ h.head;
      inside = omega (arith, inside, size);
    }

pub binds-added : (cells more : List Cell) (names : List ℕ) (store : Store) → form_before (cells ++ more) (length (cells ++ more)) ≢ form.Lvar → Binds cells names store → Binds (cells ++ more) names store
binds-added cells more names store last h =
    let within : length cells ≤ length cells = omega arith in
    let long : length cells ≤ length (cells ++ more) = let e = length-append cells more in omega (arith, e) in
    record {
      long = h.long;
      lvars = λ k at named. lvar-added cells more at (h.lvars k at named);
      apart = h.apart;
      holds = λ k at entry named held.
          entry-agrees cells names (cells ++ more) names (agrees-more (length cells) cells more names within) long at
          (get_or_append_left cells more unset_cell (suc at) (h.lvars k at named).inside) entry (h.holds k at entry named held);
      last = last;
    }

-- ---- a logical variable was made

pub binds-new : (cells : List Cell) (names : List ℕ) (store : Store) → Binds cells names store → Binds (cells ++ lvar_head ∷ unset_cell ∷ []) (names ++ length cells ∷ []) (store ++ None ∷ [])
binds-new cells names store h =
    let more : List Cell = lvar_head ∷ unset_cell ∷ [] in
    let none_is : Option Value = None in
    let after : List Cell = cells ++ more in
    let one : List Cell = cells ++ lvar_head ∷ [] in
    let two : one ++ unset_cell ∷ [] ≡ after = append-two cells lvar_head unset_cell in
    let size : length after ≡ length cells + 2 = length-append cells more in
    let one_size : length one ≡ suc (length cells) = let e = length-append cells (lvar_head ∷ []) in omega (arith, e) in
    let head_is : cell_at after (length cells) ≡ lvar_head = at-end cells lvar_head (unset_cell ∷ []) in
    let content_is : cell_at after (suc (length cells)) ≡ unset_cell =
    ap (λ (ws : List Cell). cell_at ws (suc (length cells))) (sym two) ∙ ap (cell_at (one ++ unset_cell ∷ [])) (sym one_size) ∙ at-end one unset_cell []
    in
    let F : Form → Type 0 = λ f. f ≢ form.Lvar in
    let L : List Cell → Type 0 = λ ws. form_before ws (length ws) ≢ form.Lvar in
    let last : form_before after (length after) ≢ form.Lvar = subst L two (subst F (sym (before-next one unset_cell)) unset-no_lvar) in
    let seen : look after (length cells) ≡ lvar_head = look-shown after (length cells) (subst F (sym (before-append cells more)) h.last) ∙ head_is in
    let up : Binds after names store = binds-added cells more names store last h in
    let IsHere : ℕ → Type 0 = IsLvar after in
    record {
      long = length-append names (length cells ∷ []) ∙ ap (λ n. n + 1) h.long ∙ sym (length-append store (none_is ∷ []));
      lvars = λ k at named.
          elim (get-push names (length cells) at k named) [
            | inl old ↦ up.lvars k at old
            | inr new ↦ subst IsHere new.1 (record { head = seen; inside = omega (arith, size) })
          ];
      apart = λ j k at first second.
          elim (get-push names (length cells) at j first) [
            | inl old ↦
                elim (get-push names (length cells) at k second) [
                  | inl old' ↦ h.apart j k at old old'
                  | inr new ↦ let inside = (h.lvars j at old).inside in absurd (omega (arith, inside, new.1))
                ]
            | inr new ↦
                elim (get-push names (length cells) at k second) [
                  | inl old ↦ let inside = (h.lvars k at old).inside in absurd (omega (arith, inside, new.1))
                  | inr new' ↦ new.0 ∙ sym new'.0
                ]
          ];
      holds = λ k at entry named held.
          elim (get-push names (length cells) at k named) [
            | inl old ↦
                elim (get-push store none_is entry k held) [
                  | inl was ↦
                      let same : length after ≤ length after = omega arith in
                      entry-agrees after names after (names ++ length cells ∷ []) (agrees-names (length after) after names (length cells ∷ [])) same at refl entry (up.holds k at entry old was)
                  | inr past ↦ let w : k < length names = slice_get_within names k at old in absurd (omega (arith, w, h.long, past.0))
                ]
            | inr new ↦
                elim (get-push store none_is entry k held) [
                  | inl was ↦ let w : k < length store = slice_get_within store k entry was in absurd (omega (arith, w, h.long, new.0))
                  | inr none ↦
                      let P : Option Value → Type 0 = HoldsEntry after (names ++ length cells ∷ []) at in
                      let content : cell_at after (suc at) ≡ unset_cell = ap (λ n. cell_at after (suc n)) (sym new.1) ∙ content_is in
                      subst P none.1 content
                ]
          ];
      last = last;
    }
  where
    append-two : (cells : List Cell) (c d : Cell) → (cells ++ c ∷ []) ++ d ∷ [] ≡ cells ++ c ∷ d ∷ []
    append-two [] c d = refl
    append-two (x ∷ xs) c d = ap (λ (ws : List Cell). x ∷ ws) (append-two xs c d)

-- ---- a logical variable was set

before-set : (cells : List Cell) (at : ℕ) (c : Cell) (n : ℕ) → form_of c ≢ form.Lvar → suc at < length cells → form_before cells n ≢ form.Lvar → form_before (set cells (suc at) c) n ≢ form.Lvar
before-set cells at c zero new inside clear = clear
before-set cells at c (suc n) new inside clear =
    let F : Cell → Type 0 = λ d. form_of d ≢ form.Lvar in
    elim (eqb_tells n (suc at)) [
      | inl same ↦ subst F (sym (ap (cell_at (set cells (suc at) c)) same.1 ∙ get_or-set_same cells (suc at) c unset_cell inside)) new
      | inr other ↦ subst F (sym (get_or-set_other cells (suc at) n c unset_cell other.1)) clear
    ]

pub binds-set : (cells : List Cell) (names : List ℕ) (store : Store) (k at : ℕ) (c : Cell) (v : Value)
    → Binds cells names store → slice_get names k ≡ Some at → slice_get store k ≡ Some None → Stands cells names (length cells) c v
    → Binds (set cells (suc at) c) names (set store k (Some v))
binds-set cells names store k at c v h here unset stands =
    let after : List Cell = set cells (suc at) c in
    let lvar : IsLvar cells at = h.lvars k at here in
    let inside : suc at < length cells = lvar.inside in
    let head : cell_at cells at ≡ lvar_head = head-there cells at lvar.head in
    let head_form : form_of (cell_at cells at) ≡ form.Lvar = ap form_of head ∙ lvar-form in
    let content : cell_at cells (suc at) ≡ unset_cell = h.holds k at None here unset in
    let F : Cell → Type 0 = λ d. form_of d ≢ form.Lvar in
    let old : form_of (cell_at cells (suc at)) ≢ form.Lvar = subst F (sym content) unset-no_lvar in
    let no_head : form_of c ≢ form.Lvar = stands-no_lvar cells names (length cells) c v stands in
    let agrees : Agrees (length cells) cells names after names = agrees-content (length cells) cells names at c head_form inside old no_head in
    let size : length after ≡ length cells = length-set cells (suc at) c in
    let long : length cells ≤ length after = omega (arith, size) in
    record {
      long = h.long ∙ sym (length-set store k (Some v));
      lvars = λ j a named.
          let was : IsLvar cells a = h.lvars j a named in
          record { head = look-content cells at c head_form inside old no_head a ∙ was.head; inside = let w = was.inside in omega (arith, w, size) };
      apart = h.apart;
      holds = λ j a entry named held.
          elim (get-set store k j (Some v) entry held) [
            | inl same ↦
                let there : slice_get names j ≡ Some at = ap (slice_get names) same.0 ∙ here in
                let both : Some a ≡ Some at = sym named ∙ there in
                let a_is : a ≡ at = cc in
                let now : cell_at after (suc a) ≡ c = ap (λ n. cell_at after (suc n)) a_is ∙ get_or-set_same cells (suc at) c unset_cell inside in
                let P : Cell → Type 0 = λ d. Stands after names (length after) d v in
                let Q : Option Value → Type 0 = HoldsEntry after names a in
                subst Q same.1 (subst P (sym now) (stands-agree cells names after names agrees long c v stands))
            | inr other ↦
                let far : a ≢ at = λ e. other.0 (h.apart j k at (named ∙ ap Some e) here) in
                let elsewhere : suc a ≢ suc at = λ e. far (omega (arith, e)) in
                let kept : cell_at after (suc a) ≡ cell_at cells (suc a) = get_or-set_other cells (suc at) (suc a) c unset_cell elsewhere in
                entry-agrees cells names after names agrees long a kept entry (h.holds j a entry named other.1)
          ];
      last = let S : ℕ → Type 0 = λ n. form_before after n ≢ form.Lvar in subst S (sym size) (before-set cells at c (length cells) no_head inside h.last);
    }
