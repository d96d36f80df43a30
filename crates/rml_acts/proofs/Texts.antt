-- Whether a cell stands for a text whose head has some address, by the cells of both.
use Rattle.std.specs.Prelude.{ℕ, zero, suc, ◌≡◌, ◌≢◌, ◌+◌, ◌/◌, ◌^◌, ◌<◌, ◌≤◌, ◌↔◌, Bool, true, false, IsTrue, nat_lt, if◌then◌else◌, ℤ, pos, negsuc, List, [], ◌∷◌, length, map, Option, Some, None, option_map}
use Rattle.std.specs.Option.{option_and_then}
use Rattle.std.proofs.Common.{inl, inr, refl, ap, sym, ◌∙◌, subst, arith, get_or}
use Rattle.std.proofs.lemmas.Bool.Decides.{leb_tells}
use Rattle.std.proofs.lemmas.List.{get_or_past}
use Rattle.std.proofs.lemmas.Slice.Eq.{bytes_eq-Decides}
use Rattle.rml_heap.specs.declared.cell.Cell.{Cell}
use Rattle.rml_heap.specs.HeapState.{unset_cell}
use Rattle.rml_heap.specs.Form as form
use Rattle.rml_heap.specs.Form.{Form, form_of, address, or_zero}
use Rattle.rml_heap.specs.Text.{words_for, packed, word_cell, text_of, text_cells}
use Rattle.rml_heap.specs.Reading as reading
use Rattle.rml_heap.specs.Reading.{cell_at, look, looks, each_of, word_of}
use Rattle.rml_heap.proofs.Outlines.{map-some}
use Rattle.rml_heap.proofs.Packing.{length-packed}
use Rattle.rml_heap.proofs.Told.{look-is}
use Rattle.rml_prims.specs.Shapes.{text_head}
use Rattle.rml_code.specs.Seen as seen
use Rattle.rml_code.specs.Seen.{Seen, seen_in, seen_as, seen_at, text_at, only_text, is_same}
use Rattle.rml_acts.specs.Sees.{IsTextAt}
use Rattle.rml_acts.proofs.Sights.{kind-of, text-there}

looks-at : (cells : List Cell) (n at j : ℕ) (d : Cell) → j < n → get_or (looks cells at n) j d ≡ look cells (at + j)
looks-at cells zero at j d h = absurd (omega (arith, h))
looks-at cells (suc n) at zero d h = ap (look cells) (omega arith)
looks-at cells (suc n) at (suc j) d h = looks-at cells n (suc at) j d (omega (arith, h)) ∙ ap (look cells) (omega arith)

-- a cell of the table of words is set
words-set : (is : List ℤ) (j : ℕ) → j < length is → get_or (map word_cell is) j unset_cell ≢ unset_cell
words-set [] j h = absurd (omega (arith, h))
words-set (i ∷ is) zero h = λ e. absurd (omega (arith, ap (λ (c : Cell). c.kind) e))
words-set (i ∷ is) (suc j) h = words-set is j (omega (arith, h))

-- the cells of a text
pub text-cell : (cells : List Cell) (at : ℕ) (bytes : List ℕ) (k : ℕ) → IsTextAt cells at bytes → k < suc (words_for (length bytes)) → (cell_at cells (at + k) ≡ get_or (text_cells bytes) k unset_cell) × (get_or (text_cells bytes) k unset_cell ≢ unset_cell)
text-cell cells at bytes zero h inside = (ap (cell_at cells) (omega arith) ∙ h.head, λ e. absurd (omega (arith, ap (λ (c : Cell). c.kind) e)))
text-cell cells at bytes (suc j) h inside =
    let n : ℕ = words_for (length bytes) in
    let below : j < n = omega (arith, inside) in
    let word : Cell = get_or (map word_cell (packed n bytes)) j unset_cell in
    let set : word ≢ unset_cell = words-set (packed n bytes) j (omega (arith, below, length-packed n bytes)) in
    let seen_is : look cells (suc at + j) ≡ word = sym (looks-at cells n (suc at) j unset_cell below) ∙ ap (λ (cs : List Cell). get_or cs j unset_cell) h.words in
    let place : at + suc j ≡ suc at + j = omega arith in
    let there : cell_at cells (suc at + j) ≡ word =
    elim (look-is cells (suc at + j)) [
      | inl unset ↦ absurd (set (sym seen_is ∙ unset))
      | inr as_is ↦ sym as_is ∙ seen_is
    ]
    in
    (ap (cell_at cells) place ∙ there, set)

inside-set : (cells : List Cell) (at : ℕ) → cell_at cells at ≢ unset_cell → at < length cells
inside-set cells at set =
    elim (leb_tells (length cells) at) [
      | inl past ↦ absurd (set (get_or_past cells at unset_cell past.1))
      | inr inside ↦ inside.1
    ]

pub text-inside : (cells : List Cell) (at : ℕ) (bytes : List ℕ) → IsTextAt cells at bytes → at + suc (words_for (length bytes)) ≤ length cells
text-inside cells at bytes h =
    let n : ℕ = words_for (length bytes) in
    let last = text-cell cells at bytes n h (omega arith) in
    let inside : at + n < length cells = inside-set cells (at + n) (λ e. last.1 (sym last.0 ∙ e)) in
    omega (arith, inside)

pub text-set : (cells : List Cell) (at : ℕ) (bytes : List ℕ) (k : ℕ) → IsTextAt cells at bytes → k < suc (words_for (length bytes)) → cell_at cells (at + k) ≢ unset_cell
text-set cells at bytes k h inside = let is = text-cell cells at bytes k h inside in λ e. is.1 (sym is.0 ∙ e)

-- cells that are the same look the same
looks-agree : (cells : List Cell) (a b n : ℕ) → ((k : ℕ) → k < suc n → cell_at cells (b + k) ≡ cell_at cells (a + k)) → looks cells (suc b) n ≡ looks cells (suc a) n
unfolding look
looks-agree cells a b zero h = refl
looks-agree cells a b (suc n) h =
    let here : cell_at cells b ≡ cell_at cells a = ap (cell_at cells) (omega arith) ∙ h 0 (omega arith) ∙ ap (cell_at cells) (omega arith) in
    let next : cell_at cells (suc b) ≡ cell_at cells (suc a) = ap (cell_at cells) (omega arith) ∙ h 1 (omega arith) ∙ ap (cell_at cells) (omega arith) in
    let first : look cells (suc b) ≡ look cells (suc a) = ap (λ (c : Cell). reading.behind (form_of c) (cell_at cells (suc b))) here ∙ ap (reading.behind (form_of (cell_at cells a))) next in
    let rest : looks cells (suc (suc b)) n ≡ looks cells (suc (suc a)) n =
    looks-agree cells (suc a) (suc b) n (λ k below. ap (cell_at cells) (omega arith) ∙ h (suc k) (omega (arith, below)) ∙ ap (cell_at cells) (omega arith))
    in
    ap (λ (c : Cell). c ∷ looks cells (suc (suc b)) n) first ∙ ap (λ (cs : List Cell). look cells (suc a) ∷ cs) rest

text-form : (n : ℕ) → form_of (text_head n) ≡ form.Text n
unfolding form.form
text-form n = refl

abbrev pub Agree : List Cell → ℕ → ℕ → ℕ → Type 0
Agree cells a b n = (k : ℕ) → k < n → cell_at cells (b + k) ≡ cell_at cells (a + k)

-- where the cells are the same, the text is the same
text-other : (cells : List Cell) (at other : ℕ) (bytes : List ℕ) → IsTextAt cells at bytes → Agree cells at other (suc (words_for (length bytes))) → seen_at cells other (form_of (cell_at cells other)) ≡ Some (seen.Text bytes)
text-other cells at other bytes h agree =
    let n : ℕ = length bytes in
    let head : cell_at cells other ≡ text_head n = ap (cell_at cells) (omega arith) ∙ agree 0 (omega arith) ∙ ap (cell_at cells) (omega arith) ∙ h.head in
    let words : looks cells (suc other) (words_for n) ≡ looks cells (suc at) (words_for n) = looks-agree cells at other (words_for n) agree in
    ap (λ (c : Cell). seen_at cells other (form_of c)) head
    ∙ ap (seen_at cells other) (text-form n)
    ∙ ap (λ (cs : List Cell). option_map seen.Text (option_and_then (text_of n) (each_of word_of cs))) words
    ∙ ap (option_map seen.Text) h.read

-- and where the text is the same, so are the cells
same-text : (cells : List Cell) (other : ℕ) (bytes : List ℕ) (f : Form) → form_of (cell_at cells other) ≡ f → seen_at cells other f ≡ Some (seen.Text bytes) → IsTextAt cells other bytes
same-text cells other bytes (form.Text n) is h =
    let found = map-some seen.Text (text_at cells other n) (seen.Text bytes) h in
    let same : found.0 ≡ bytes = cc in
    subst (IsTextAt cells other) same (text-there cells other n found.0 is found.1)
same-text cells other bytes (form.ConBlock c n) is h = absurd (cc)
same-text cells other bytes form.ConsBlock is h = absurd (cc)
same-text cells other bytes _ is h = absurd (cc)

text-agree : (cells : List Cell) (at other : ℕ) (bytes : List ℕ) → IsTextAt cells at bytes → IsTextAt cells other bytes → Agree cells at other (suc (words_for (length bytes)))
text-agree cells at other bytes h i k below = (text-cell cells other bytes k i below).0 ∙ sym (text-cell cells at bytes k h below).0

is-same-text : (bytes : List ℕ) (o : Option Seen) → is_same (seen.Text bytes) (only_text o) ≡ true → o ≡ Some (seen.Text bytes)
is-same-text bytes None h = absurd (cc)
is-same-text bytes (Some (seen.Int i)) h = absurd (cc)
is-same-text bytes (Some (seen.Char c)) h = absurd (cc)
is-same-text bytes (Some (seen.Con c)) h = absurd (cc)
is-same-text bytes (Some (seen.Text t)) h = ap (λ (u : List ℕ). Some (seen.Text u)) (sym ((bytes_eq-Decides bytes t).0 h))

no-text : (bytes : List ℕ) (o : Option Seen) → (o ≡ Some (seen.Text bytes) → ⊥) → is_same (seen.Text bytes) (only_text o) ≡ false
no-text bytes o other = pick (is_same (seen.Text bytes) (only_text o)) refl
  where
    pick : (b : Bool) → is_same (seen.Text bytes) (only_text o) ≡ b → b ≡ false
    pick true h = absurd (other (is-same-text bytes o h))
    pick false h = refl

its-text : (bytes : List ℕ) (o : Option Seen) → o ≡ Some (seen.Text bytes) → is_same (seen.Text bytes) (only_text o) ≡ true
its-text bytes o h = ap (λ (p : Option Seen). is_same (seen.Text bytes) (only_text p)) h ∙ (bytes_eq-Decides bytes bytes).1 refl

-- a cell of another kind
seen-no-text : (cells : List Cell) (c : Cell) (f : Form) (bytes : List ℕ) → form_of c ≡ f → c.kind ≢ 3 → seen_as cells f ≡ Some (seen.Text bytes) → ⊥
seen-no-text cells c (form.Block at) bytes is other h = absurd (other (kind-of c (form.Block at) is (λ e. cc)))
seen-no-text cells c (form.Int i) bytes is other h = absurd (cc)
seen-no-text cells c (form.Char i) bytes is other h = absurd (cc)
seen-no-text cells c (form.Con i) bytes is other h = absurd (cc)
seen-no-text cells c _ bytes is other h = absurd (cc)

pub other-kind : (cells : List Cell) (c : Cell) (bytes : List ℕ) → c.kind ≢ 3 → is_same (seen.Text bytes) (only_text (seen_in cells c)) ≡ false
other-kind cells c bytes other = no-text bytes (seen_in cells c) (seen-no-text cells c (form_of c) bytes refl other)

-- by the test of the cells
as-tested : (cells : List Cell) (at : ℕ) (bytes : List ℕ) (other : ℕ) (o : Option Seen) (r : Bool) → IsTextAt cells at bytes
    → (IsTrue r ↔ Agree cells at other (suc (words_for (length bytes))))
    → (Agree cells at other (suc (words_for (length bytes))) → o ≡ Some (seen.Text bytes))
    → (o ≡ Some (seen.Text bytes) → Agree cells at other (suc (words_for (length bytes))))
    → r ≡ is_same (seen.Text bytes) (only_text o)
as-tested cells at bytes other o true h tells there back = sym (its-text bytes o (there (tells.0 refl)))
as-tested cells at bytes other o false h tells there back = sym (no-text bytes o (λ is. absurd (no (tells.1 (back is)))))
  where
    no : IsTrue false → ⊥
    no e = cc

past-disagrees : (cells : List Cell) (at other : ℕ) (bytes : List ℕ) → IsTextAt cells at bytes → length cells ≤ other → Agree cells at other (suc (words_for (length bytes))) → ⊥
past-disagrees cells at other bytes h past agree =
    let here : cell_at cells (other + 0) ≡ unset_cell = get_or_past cells (other + 0) unset_cell (omega (arith, past)) in
    text-set cells at bytes 0 h (omega arith) (sym (agree 0 (omega arith)) ∙ here)

by-number : (cells : List Cell) (at : ℕ) (i : ℤ) (bytes : List ℕ) (r : Bool) → length cells < 4294967295 → IsTextAt cells at bytes
    → (IsTrue r ↔ Agree cells at (address i) (suc (words_for (length bytes)))) → r ≡ is_same (seen.Text bytes) (only_text (seen_as cells (form.natural form.Block i)))
by-number cells at (negsuc n) bytes r small h tells =
    as-tested cells at bytes 4294967295 None r h tells (λ agree. absurd (past-disagrees cells at 4294967295 bytes h (omega (arith, small)) agree)) (λ is. absurd (cc))
by-number cells at (pos n) bytes r small h tells = pick (nat_lt n (2 ^ 32)) refl tells
  where
    o : Option Seen
    o = seen_at cells n (form_of (cell_at cells n))

    back : o ≡ Some (seen.Text bytes) → Agree cells at n (suc (words_for (length bytes)))
    back is = text-agree cells at n bytes h (same-text cells n bytes (form_of (cell_at cells n)) refl is)

    pick : (b : Bool) → nat_lt n (2 ^ 32) ≡ b → (IsTrue r ↔ Agree cells at (if b then n else 4294967295) (suc (words_for (length bytes)))) → r ≡ is_same (seen.Text bytes) (only_text o)
    pick true low tells = as-tested cells at bytes n o r h tells (text-other cells at n bytes h) back
    pick false high tells =
        as-tested cells at bytes 4294967295 o r h tells (λ agree. absurd (past-disagrees cells at 4294967295 bytes h (omega (arith, small)) agree))
        (λ is. absurd (past-disagrees cells at n bytes h (grind (arith, high, small)) (back is)))

pub is-text : (cells : List Cell) (at : ℕ) (c : Cell) (bytes : List ℕ) (r : Bool) → length cells < 4294967295 → c.kind ≡ 3 → IsTextAt cells at bytes
    → (IsTrue r ↔ Agree cells at (address c.number) (suc (words_for (length bytes)))) → r ≡ is_same (seen.Text bytes) (only_text (seen_in cells c))
unfolding form.form
is-text cells at c bytes r small kind h tells =
    by-number cells at c.number bytes r small h tells ∙ ap (λ k. is_same (seen.Text bytes) (only_text (seen_as cells (form.form k c.number)))) (sym kind)

-- as many words as the head says
pub counted : (cells : List Cell) (at : ℕ) (bytes : List ℕ) (c : Cell) (n : ℕ) → IsTextAt cells at bytes → c ≡ cell_at cells at → n ≡ or_zero c.number → (n + 7) / 8 ≡ words_for (length bytes)
counted cells at bytes c n h c_is n_is = ap (λ k. (k + 7) / 8) (n_is ∙ ap (λ (d : Cell). or_zero d.number) (c_is ∙ h.head))

pub tested-text : (cells : List Cell) (at other m : ℕ) (c : Cell) (bytes : List ℕ) (r : Bool) → length cells < 4294967295 → c.kind ≡ 3 → IsTextAt cells at bytes → other ≡ address c.number → 1 + m ≡ suc (words_for (length bytes))
    → (IsTrue r ↔ Agree cells at other (1 + m)) → r ≡ is_same (seen.Text bytes) (only_text (seen_in cells c))
tested-text cells at other m c bytes r small kind h other_is m_is tells =
    let P : ℕ → Type 0 = λ n. IsTrue r ↔ Agree cells at n (1 + m) in
    let Q : ℕ → Type 0 = λ n. IsTrue r ↔ Agree cells at (address c.number) n in
    is-text cells at c bytes r small kind h (subst Q m_is (subst P other_is tells))
