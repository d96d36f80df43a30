-- The cells of a run as two lists.
use Rattle.std.specs.Prelude.{ℕ, ◌+◌, ◌-◌, ◌<◌, ◌≤◌, List, pos, length}
use Rattle.rml_heap.specs.declared.cell.Cell.{Cell}
use Rattle.rml_heap.specs.declared.cell.TheConstants.{INT, LVAR, UNSET}

-- the cells of values, which begin at the address 0, the cells of frames, which end at the limit, and the limit
pub record HeapState : Type 0 where
  pub values : List Cell
  pub frames : List Cell
  pub limit : ℕ

-- how many cells are handed out
abbrev pub cells_used : HeapState → ℕ
cells_used heap = length heap.values + length heap.frames

-- so many more fit
abbrev pub HasRoom : HeapState → ℕ → Type 0
HasRoom heap n = cells_used heap + n ≤ heap.limit

-- the lowest address of the frames
abbrev pub bottom_of : HeapState → ℕ
bottom_of heap = heap.limit - length heap.frames

-- the address of a frame's cell
pub record IsInFrames (heap : HeapState) (at : ℕ) : Type 0 where
  pub low : bottom_of heap ≤ at
  pub high : at < heap.limit

-- what a cell holds that is handed out
abbrev pub free_cell : Cell
free_cell = record { kind = INT; number = pos 0 }

-- the content of a logical variable that is not set; it stands for the cells that are not handed out, too
abbrev pub unset_cell : Cell
unset_cell = record { kind = UNSET; number = pos 0 }

abbrev pub lvar_head : Cell
lvar_head = record { kind = LVAR; number = pos 0 }
