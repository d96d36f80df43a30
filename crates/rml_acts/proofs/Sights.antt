-- What is seen of a cell, by its kind.
use Rattle.std.specs.Prelude.{ℕ, zero, suc, ◌≡◌, ◌≢◌, ◌/◌, ◌%◌, ◌^◌, ◌==◌, ◌&&◌, ◌<◌, Bool, true, false, nat_lt, if◌then◌else◌, ℤ, pos, negsuc, List, [], ◌∷◌, length, map, Some, None, option_map}
use Rattle.std.proofs.Common.{inl, inr, refl, ap, sym, ◌∙◌, subst, arith}
use Rattle.std.proofs.lemmas.Bool.{ltb-true}
use Rattle.std.proofs.lemmas.Bool.Decides.{leb_tells}
use Rattle.std.proofs.lemmas.List.{get_or_past}
use Rattle.rml_value.specs.declared.value.TheConstants.{CONS}
use Rattle.rml_heap.specs.declared.cell.Cell.{Cell}
use Rattle.rml_heap.specs.HeapState.{unset_cell}
use Rattle.rml_heap.specs.Form as form
use Rattle.rml_heap.specs.Form.{Form, form_of, address, or_zero}
use Rattle.rml_heap.specs.Text.{words_for, word_cell, text_of}
use Rattle.rml_heap.specs.Reading.{cell_at, looks, each_of, word_of}
use Rattle.rml_heap.proofs.Forms.{cell_of}
use Rattle.rml_heap.proofs.Told.{block-address}
use Rattle.rml_heap.proofs.Outlines.{map-some, then-some, text-packed, length-each_of, length-looks}
use Rattle.rml_prims.specs.Shapes.{text_head}
use Rattle.rml_code.specs.Seen as seen
use Rattle.rml_code.specs.Seen.{Seen, seen_in, seen_as, seen_at, text_at}
use Rattle.rml_acts.specs.Sees.{IsTextAt}
use Rattle.rml_acts.proofs.Effects.{some-is}
use Rattle.rml_acts.proofs.Forms.{cell-is, word-is}

-- the cells of integers that are read as these
pub words-are : (cs : List Cell) (is : List ℤ) → each_of word_of cs ≡ Some is → cs ≡ map word_cell is
words-are [] is h = ap (map word_cell) (some-is [] is h)
words-are (c ∷ cs) is h =
    let first = then-some (λ (i : ℤ). option_map (λ (js : List ℤ). i ∷ js) (each_of word_of cs)) (word_of c) is h in
    let rest = map-some (λ (js : List ℤ). first.0 ∷ js) (each_of word_of cs) is first.2 in
    ap (λ (d : Cell). d ∷ cs) (word-is c first.0 first.1) ∙ ap (λ (ds : List Cell). word_cell first.0 ∷ ds) (words-are cs rest.0 rest.1) ∙ ap (map word_cell) (sym rest.2)

-- a text
pub text-there : (cells : List Cell) (at n : ℕ) (bytes : List ℕ) → form_of (cell_at cells at) ≡ form.Text n → text_at cells at n ≡ Some bytes → IsTextAt cells at bytes
text-there cells at n bytes head h =
    let found = then-some (text_of n) (each_of word_of (looks cells (suc at) (words_for n))) bytes h in
    let words : List ℤ = found.0 in
    let are : looks cells (suc at) (words_for n) ≡ map word_cell words = words-are (looks cells (suc at) (words_for n)) words found.1 in
    let long : length words ≡ words_for n = length-each_of word_of (looks cells (suc at) (words_for n)) words found.1 ∙ length-looks cells (words_for n) (suc at) in
    let is = text-packed n words bytes found.2 in
    let size : length bytes ≡ n = is.1 long in
    let some : form.Text n ≢ form.Other = λ e. cc in
    record {
      head = cell-is (cell_at cells at) (form.Text n) head some ∙ ap text_head (sym size);
      words = rw size (are ∙ ap (map word_cell) (sym is.0));
      read = rw size h;
    }

-- ---- by its kind

pub see-int : (cells : List Cell) (c : Cell) (s : Seen) → c.kind ≡ 0 → seen_in cells c ≡ Some s → s ≡ seen.Int c.number
unfolding form.form
see-int cells c s kind h =
    let P : ℕ → Type 0 = λ k. seen_as cells (form.form k c.number) ≡ Some s in
    sym (some-is (seen.Int c.number) s (subst P kind h))

pub record SeenChar (c : Cell) (s : Seen) : Type 0 where
  pub small : or_zero c.number < 256
  pub is : s ≡ seen.Char (or_zero c.number)

char-seen : (cells : List Cell) (i : ℤ) (s : Seen) → seen_as cells (form.natural form.char_form i) ≡ Some s → (or_zero i < 256) × (s ≡ seen.Char (or_zero i))
char-seen cells (negsuc n) s h = absurd (cc)
char-seen cells (pos n) s h = pick (nat_lt n 256) refl h
  where
    pick : (b : Bool) → nat_lt n 256 ≡ b → seen_as cells (if b then form.Char n else form.Other) ≡ Some s → (n < 256) × (s ≡ seen.Char n)
    pick true small h = (ltb-true n 256 small, sym (some-is (seen.Char n) s h))
    pick false small h = absurd (cc)

pub see-char : (cells : List Cell) (c : Cell) (s : Seen) → c.kind ≡ 1 → seen_in cells c ≡ Some s → SeenChar c s
unfolding form.form
see-char cells c s kind h =
    let P : ℕ → Type 0 = λ k. seen_as cells (form.form k c.number) ≡ Some s in
    let is = char-seen cells c.number s (subst P kind h) in
    record { small = is.0; is = is.1 }

con-seen : (cells : List Cell) (i : ℤ) (s : Seen) → seen_as cells (form.natural form.Con i) ≡ Some s → s ≡ seen.Con (or_zero i)
con-seen cells (negsuc n) s h = absurd (cc)
con-seen cells (pos n) s h = sym (some-is (seen.Con n) s h)

pub see-con : (cells : List Cell) (c : Cell) (s : Seen) → c.kind ≡ 4 → seen_in cells c ≡ Some s → s ≡ seen.Con (or_zero c.number)
unfolding form.form
see-con cells c s kind h =
    let P : ℕ → Type 0 = λ k. seen_as cells (form.form k c.number) ≡ Some s in
    con-seen cells c.number s (subst P kind h)

-- ---- a block

-- the address of a head of a block that is seen lies among the cells
head-there : (cells : List Cell) (at : ℕ) (s : Seen) → seen_at cells at (form_of (cell_at cells at)) ≡ Some s → at < length cells
unfolding form.form
head-there cells at s h =
    elim (leb_tells (length cells) at) [
      | inl past ↦
          let P : Cell → Type 0 = λ c. seen_at cells at (form_of c) ≡ Some s in
          absurd (nothing (subst P (get_or_past cells at unset_cell past.1) h))
      | inr inside ↦ inside.1
    ]
  where
    nothing : None ≡ Some s → ⊥
    nothing e = cc

pub kind-of : (c : Cell) (f : Form) → form_of c ≡ f → f ≢ form.Other → c.kind ≡ (cell_of f).kind
kind-of c f is some = ap (λ (d : Cell). d.kind) (cell-is c f is some)

pub record SeenBlock (cells : List Cell) (c : Cell) (s : Seen) : Type 0 where
  pub inside : address c.number < length cells
  pub seen : seen_at cells (address c.number) (form_of (cell_at cells (address c.number))) ≡ Some s

seen-block : (cells : List Cell) (c : Cell) (s : Seen) (f : Form) → form_of c ≡ f → length cells < 2 ^ 32 → c.kind ≢ 0 → c.kind ≢ 1 → c.kind ≢ 4 → seen_as cells f ≡ Some s → SeenBlock cells c s
seen-block cells c s (form.Int i) is small no_int no_char no_con h = absurd (no_int (kind-of c (form.Int i) is (λ e. cc)))
seen-block cells c s (form.Char n) is small no_int no_char no_con h = absurd (no_char (kind-of c (form.Char n) is (λ e. cc)))
seen-block cells c s (form.Con n) is small no_int no_char no_con h = absurd (no_con (kind-of c (form.Con n) is (λ e. cc)))
seen-block cells c s (form.Block at) is small no_int no_char no_con h =
    let inside : at < length cells = head-there cells at s h in
    let here : address c.number ≡ at = block-address c at is (omega (arith, inside, small)) in
    let P : ℕ → Type 0 = λ n. (n < length cells) × (seen_at cells n (form_of (cell_at cells n)) ≡ Some s) in
    let both : P (address c.number) = subst P (sym here) (inside, h) in
    record { inside = both.0; seen = both.1 }
seen-block cells c s _ is small no_int no_char no_con h = absurd (cc)

pub see-block : (cells : List Cell) (c : Cell) (s : Seen) → length cells < 2 ^ 32 → c.kind ≢ 0 → c.kind ≢ 1 → c.kind ≢ 4 → seen_in cells c ≡ Some s → SeenBlock cells c s
see-block cells c s small no_int no_char no_con h = seen-block cells c s (form_of c) refl small no_int no_char no_con h

-- by its head
text-seen : (cells : List Cell) (at : ℕ) (i : ℤ) (s : Seen) → form_of (cell_at cells at) ≡ form.natural form.Text i → seen_at cells at (form.natural form.Text i) ≡ Some s → (bytes : List ℕ) × (s ≡ seen.Text bytes) × IsTextAt cells at bytes
text-seen cells at (negsuc n) s is h = absurd (cc)
text-seen cells at (pos n) s is h =
    let found = map-some seen.Text (text_at cells at n) s h in
    (found.0, found.2, text-there cells at n found.0 is found.1)

pub see-text : (cells : List Cell) (at : ℕ) (s : Seen) → (cell_at cells at).kind ≡ 5 → seen_at cells at (form_of (cell_at cells at)) ≡ Some s → (bytes : List ℕ) × (s ≡ seen.Text bytes) × IsTextAt cells at bytes
unfolding form.form
see-text cells at s kind h =
    let i : ℤ = (cell_at cells at).number in
    let is : form_of (cell_at cells at) ≡ form.natural form.Text i = ap (λ k. form.form k i) kind in
    let P : Form → Type 0 = λ f. seen_at cells at f ≡ Some s in
    text-seen cells at i s is (subst P is h)

applied-seen : (cells : List Cell) (at c n : ℕ) (s : Seen) → seen_at cells at (form.applied_form c n) ≡ Some s → s ≡ seen.Con c
applied-seen cells at c zero s h = absurd (cc)
applied-seen cells at c (suc n) s h = pick ((c == CONS) && (n == 1)) h
  where
    pick : (b : Bool) → seen_at cells at (if b then form.Other else form.ConBlock c (suc n)) ≡ Some s → s ≡ seen.Con c
    pick true h = absurd (cc)
    pick false h = sym (some-is (seen.Con c) s h)

con-block-seen : (cells : List Cell) (at : ℕ) (i : ℤ) (s : Seen) → seen_at cells at (form.natural form.con_form i) ≡ Some s → s ≡ seen.Con (or_zero i / 1048576)
con-block-seen cells at (negsuc n) s h = absurd (cc)
con-block-seen cells at (pos n) s h = applied-seen cells at (n / 1048576) (n % 1048576) s h

pub see-con-block : (cells : List Cell) (at : ℕ) (s : Seen) → (cell_at cells at).kind ≡ 6 → seen_at cells at (form_of (cell_at cells at)) ≡ Some s → s ≡ seen.Con (or_zero (cell_at cells at).number / 1048576)
unfolding form.form
see-con-block cells at s kind h =
    let i : ℤ = (cell_at cells at).number in
    let P : ℕ → Type 0 = λ k. seen_at cells at (form.form k i) ≡ Some s in
    con-block-seen cells at i s (subst P kind h)

cons-seen : (cells : List Cell) (at : ℕ) (c : Cell) (s : Seen) (f : Form) → form_of c ≡ f → c.kind ≢ 5 → c.kind ≢ 6 → seen_at cells at f ≡ Some s → s ≡ seen.Con CONS
cons-seen cells at c s (form.Text n) is no_text no_con h = absurd (no_text (kind-of c (form.Text n) is (λ e. cc)))
cons-seen cells at c s (form.ConBlock k n) is no_text no_con h = absurd (no_con (kind-of c (form.ConBlock k n) is (λ e. cc)))
cons-seen cells at c s form.ConsBlock is no_text no_con h = sym (some-is (seen.Con CONS) s h)
cons-seen cells at c s _ is no_text no_con h = absurd (cc)

pub see-cons : (cells : List Cell) (at : ℕ) (s : Seen) → (cell_at cells at).kind ≢ 5 → (cell_at cells at).kind ≢ 6 → seen_at cells at (form_of (cell_at cells at)) ≡ Some s → s ≡ seen.Con CONS
see-cons cells at s no_text no_con h = cons-seen cells at (cell_at cells at) s (form_of (cell_at cells at)) refl no_text no_con h

pub see-inside : (cells : List Cell) (at : ℕ) (s : Seen) → seen_at cells at (form_of (cell_at cells at)) ≡ Some s → at < length cells
see-inside = head-there
