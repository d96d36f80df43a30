-- The trail of a heap: what it remembers, when it fits the heap, and what undoing leaves.
use Rattle.std.specs.Prelude.{ℕ, ◌≡◌, ◌-◌, ◌<◌, ◌≤◌, List, [], ◌∷◌, eqb, slice_set}
use Rattle.std.specs.List.{AllByRecursion, IsDistinct}
use Rattle.rml_heap.specs.declared.cell.Cell.{Cell}
use Rattle.rml_heap.specs.HeapState.{HeapState, unset_cell}
use Rattle.rml_heap.specs.Form as form
use Rattle.rml_heap.specs.Form.{IsWord, form_of}
use Rattle.rml_heap.specs.Reading.{cell_at}

-- the addresses of the contents that were set, in order, and the greatest limit of a heap that it has room for
pub record TrailState : Type 0 where
  pub entries : List ℕ
  pub limit : ℕ

-- the address of a logical variable's content
pub record IsContent (cells : List Cell) (at : ℕ) : Type 0 where
  pub positive : 0 < at
  pub head : form_of (cell_at cells (at - 1)) ≡ form.Lvar

-- the address of a logical variable's content, which is set to a cell that can stand for a value
pub record IsSet (cells : List Cell) (at : ℕ) : Type 0 where
  pub content : IsContent cells at
  pub value : IsWord (form_of (cell_at cells at))

-- the trail fits the heap: its entries are different variables of the heap that are set, and it has room for all that the heap may have
pub record Fits (trail : TrailState) (heap : HeapState) : Type 0 where
  pub distinct : IsDistinct eqb trail.entries
  pub entries : AllByRecursion (IsSet heap.values) trail.entries
  pub limit : heap.limit ≤ trail.limit

-- the cells after these contents were unset
abbrev pub unset_all : List ℕ → List Cell → List Cell
unset_all [] cells = cells
unset_all (at ∷ ats) cells = slice_set (unset_all ats cells) at unset_cell
