-- What the cells are that an instruction takes.
use Rattle.std.specs.Prelude.{ℕ, suc, ◌≡◌, ◌≢◌, ◌+◌, ◌<◌, ◌^◌, ◌&&◌, nat_le, ℤ, List, length, Some, slice_get, slice_index_or}
use Rattle.std.proofs.Common.{refl, ap, sym, ◌∙◌, subst, arith}
use Rattle.std.proofs.lemmas.Option.{slice_get_within, get_or_from_slice_get}
use Rattle.rml_heap.specs.declared.cell.Cell.{Cell}
use Rattle.rml_heap.specs.HeapState.{unset_cell}
use Rattle.rml_heap.specs.Form as form
use Rattle.rml_heap.specs.Form.{Form, form_of, address, or_zero}
use Rattle.rml_heap.specs.Reading.{cell_at, word_in, word_of}
use Rattle.rml_heap.proofs.Callers.{block-address, cell_of, has-form}
use Rattle.rml_code.specs.Effects.{parts_in, part_at, part_of, entry_in}
use Rattle.rml_acts.proofs.Effects.{some-is, if-some}

-- a cell by its form
pub cell-is : (c : Cell) (f : Form) → form_of c ≡ f → f ≢ form.Other → c ≡ cell_of f
cell-is c f is no_other =
    let P : Form → Type 0 = λ g. g ≢ form.Other → c ≡ cell_of g in
    let here : P (form_of c) = λ other. (has-form c.kind c.number).cell other in
    subst P is here no_other

-- an integer
pub word-in-is : (f : Form) (i : ℤ) → word_in f ≡ Some i → f ≡ form.Int i
word-in-is (form.Int j) i h = ap form.Int (some-is j i h)
word-in-is _ i h = absurd (cc)

pub word-is : (c : Cell) (i : ℤ) → word_of c ≡ Some i → c ≡ cell_of (form.Int i)
word-is c i h =
    let some : form.Int i ≢ form.Other = λ e. cc in
    cell-is c (form.Int i) (word-in-is (form_of c) i h) some

pub word-number : (c : Cell) (i : ℤ) → word_of c ≡ Some i → c.number ≡ i
word-number c i h = ap (λ (d : Cell). d.number) (word-is c i h)

-- a relation
entry-in-is : (f : Form) (b : ℕ) → entry_in f ≡ Some b → (r : ℕ) × (f ≡ form.Rel r) × (suc (suc r) ≡ b)
entry-in-is (form.Rel r) b h = (r, refl, omega (arith, some-is (2 + r) b h))
entry-in-is _ b h = absurd (cc)

pub entry-number : (c : Cell) (b : ℕ) → entry_in (form_of c) ≡ Some b → or_zero c.number ≡ b
entry-number c b h =
    let is = entry-in-is (form_of c) b h in
    let some : form.Rel is.0 ≢ form.Other = λ e. cc in
    ap (λ (d : Cell). or_zero d.number) (cell-is c (form.Rel is.0) is.1 some) ∙ is.2

-- a part of a block
part-at-is : (cells : List Cell) (i : ℕ) (f : Form) (x : Cell) → part_at cells i f ≡ Some x → (at : ℕ) × (f ≡ form.Block at) × (slice_get cells (at + i) ≡ Some x)
part-at-is cells i (form.Block at) x h = (at, refl, (if-some (nat_le 1 i && nat_le i (parts_in (form_of (cell_at cells at)))) (slice_get cells (at + i)) x h).1)
part-at-is cells i _ x h = absurd (cc)

pub part-there : (cells : List Cell) (i : ℕ) (c x : Cell) → length cells < 2 ^ 32 → part_of cells i c ≡ Some x → (address c.number + i < length cells) × (slice_index_or cells (address c.number + i) unset_cell ≡ x)
part-there cells i c x small h =
    let is = part-at-is cells i (form_of c) x h in
    let at : ℕ = is.0 in
    let inside : at + i < length cells = slice_get_within cells (at + i) x is.2 in
    let low : at < 2 ^ 32 = omega (arith, inside, small) in
    let address_is : address c.number ≡ at = block-address c at is.1 low in
    let P : ℕ → Type 0 = λ n. (n + i < length cells) × (slice_index_or cells (n + i) unset_cell ≡ x) in
    subst P (sym address_is) (inside, get_or_from_slice_get cells (at + i) x unset_cell is.2)
