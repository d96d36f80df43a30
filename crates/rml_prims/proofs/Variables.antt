-- Which logical variables cells have, where cells are added or written.
use Rattle.std.specs.Prelude.{ℕ, zero, suc, ◌≡◌, ◌+◌, Bool, true, false, if◌then◌else◌, List, [], ◌∷◌, ◌++◌, length, slice_set}
use Rattle.std.proofs.Common.{refl, sym, ap, ◌∙◌, arith, append-nil}
use Rattle.rml_heap.specs.declared.cell.Cell.{Cell}
use Rattle.rml_heap.specs.HeapState.{lvar_head, unset_cell}
use Rattle.rml_heap.specs.Form as form
use Rattle.rml_heap.specs.Form.{form_of}
use Rattle.rml_heap.specs.Reading.{cell_at}
use Rattle.rml_prims.specs.Standing.{is_lvar, lvars_from, lvars_in, NoHeads}

-- a head, or none, before some cells
listed : Bool → ℕ → List ℕ → List ℕ
listed b at rest = if b then at ∷ rest else rest

listed-append : (b : Bool) (at : ℕ) (xs ys : List ℕ) → listed b at (xs ++ ys) ≡ listed b at xs ++ ys
unfolding listed
listed-append true at xs ys = refl
listed-append false at xs ys = refl

-- those of the first cells, and then of the others
pub lvars-append : (at : ℕ) (cells more : List Cell) → lvars_from at (cells ++ more) ≡ lvars_from at cells ++ lvars_from (at + length cells) more
unfolding listed
lvars-append at [] more = let e : at ≡ at + 0 = omega arith in ap (λ n. lvars_from n more) e
lvars-append at (c ∷ cells) more =
    let e : suc at + length cells ≡ at + suc (length cells) = omega arith in
    ap (listed (is_lvar (form_of c)) at) (lvars-append (suc at) cells more ∙ ap (λ n. lvars_from (suc at) cells ++ lvars_from n more) e)
    ∙ listed-append (is_lvar (form_of c)) at (lvars_from (suc at) cells) (lvars_from (at + suc (length cells)) more)

pub lvars-none : (at : ℕ) (cells : List Cell) → NoHeads cells → lvars_from at cells ≡ []
lvars-none at [] none = refl
lvars-none at (c ∷ cells) none = ap (λ b. if b then at ∷ lvars_from (suc at) cells else lvars_from (suc at) cells) none.0 ∙ lvars-none (suc at) cells none.1

-- cells of blocks are added
pub lvars-added : (cells more : List Cell) → NoHeads more → lvars_in (cells ++ more) ≡ lvars_in cells
lvars-added cells more none =
    lvars-append 0 cells more ∙ ap (λ rest. lvars_in cells ++ rest) (lvars-none (0 + length cells) more none) ∙ append-nil (lvars_in cells)

-- a variable is made
pub lvars-made : (cells : List Cell) → lvars_in (cells ++ lvar_head ∷ unset_cell ∷ []) ≡ lvars_in cells ++ length cells ∷ []
unfolding form.form
lvars-made cells =
    let e : 0 + length cells ≡ length cells = omega arith in
    lvars-append 0 cells (lvar_head ∷ unset_cell ∷ []) ∙ ap (λ n. lvars_in cells ++ n ∷ []) e

-- a cell that is no head is written over one that is none, as the content of a variable is
pub lvars-set : (from at : ℕ) (c : Cell) (cells : List Cell) → is_lvar (form_of (cell_at cells at)) ≡ false → is_lvar (form_of c) ≡ false → lvars_from from (slice_set cells at c) ≡ lvars_from from cells
lvars-set from at c [] was is = refl
lvars-set from zero c (d ∷ cells) was is =
    ap (λ b. if b then from ∷ lvars_from (suc from) cells else lvars_from (suc from) cells) is
    ∙ sym (ap (λ b. if b then from ∷ lvars_from (suc from) cells else lvars_from (suc from) cells) was)
lvars-set from (suc at) c (d ∷ cells) was is =
    ap (λ rest. if is_lvar (form_of d) then from ∷ rest else rest) (lvars-set (suc from) at c cells was is)
