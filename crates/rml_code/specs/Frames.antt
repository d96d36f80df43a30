-- Registers and frames. A success frame is a label, the frames that stood before it, and what is saved. A failure frame has besides how
-- many entries the trail had, and how many cells values had. The last frame that was pushed lies lowest.
use Rattle.std.specs.Prelude.{ℕ, ◌+◌, ◌-◌, ◌&&◌, nat_le, if◌then◌else◌, List, [], ◌∷◌, ◌++◌, map, length, drop, Option, Some, None, pos, slice_set, slice_index_or}
use Rattle.std.specs.Option.{option_and_then}
use Rattle.rml_heap.specs.declared.cell.Cell.{Cell}
use Rattle.rml_heap.specs.declared.cell.TheConstants.{INT}
use Rattle.rml_heap.specs.HeapState.{HeapState, bottom_of, free_cell}
use Rattle.rml_heap.specs.Form.{address, or_zero}
use Rattle.rml_code.specs.declared.state.State.{State}

-- ---- registers

abbrev pub register : State → ℕ → Cell
register s a = slice_index_or s.registers a free_cell

abbrev pub constant : State → ℕ → Cell
constant s i = slice_index_or s.constants i free_cell

abbrev pub put : ℕ → Cell → State → State
put a c s = record s { registers = slice_set s.registers a c }

-- what they hold
abbrev pub registers_of : List ℕ → State → List Cell
registers_of rs s = map (register s) rs

-- they get cells, one after another
abbrev pub loaded : List ℕ → List Cell → List Cell → List Cell
loaded [] cells registers = registers
loaded (r ∷ rs) [] registers = registers
loaded (r ∷ rs) (c ∷ cells) registers = loaded rs cells (slice_set registers r c)

-- ---- frames

-- a number that a frame keeps
abbrev pub number_cell : ℕ → Cell
number_cell n = record { kind = INT; number = pos n }

abbrev pub success_frame : ℕ → List Cell → State → List Cell
success_frame label saved s = number_cell label ∷ number_cell s.success ∷ number_cell s.failure ∷ saved

abbrev pub failure_frame : ℕ → List Cell → State → List Cell
failure_frame label saved s =
    number_cell label ∷ number_cell (length s.trail.entries) ∷ number_cell (length s.heap.values) ∷ number_cell s.success ∷ number_cell s.failure ∷ saved

abbrev pub with_frame : List Cell → HeapState → HeapState
with_frame cells heap = record heap { frames = cells ++ heap.frames }

-- the frames from this address on, which lies among them
abbrev pub frames_from : ℕ → HeapState → Option (List Cell)
frames_from at heap = if nat_le (bottom_of heap) at && nat_le at heap.limit then Some (drop (at - bottom_of heap) heap.frames) else None

-- what a success frame keeps, and the cells behind its numbers: those that are saved, and the frames before it
pub record Success : Type 0 where
  pub success : ℕ
  pub failure : ℕ
  pub rest : List Cell

abbrev pub success_in : List Cell → Option Success
success_in (label ∷ success ∷ failure ∷ rest) = Some (record { success = address success.number; failure = address failure.number; rest = rest })
success_in _ = None

-- what a failure frame keeps
pub record Failure : Type 0 where
  pub mark : ℕ
  pub top : ℕ
  pub success : ℕ
  pub failure : ℕ
  pub rest : List Cell

abbrev pub failure_in : List Cell → Option Failure
failure_in (label ∷ mark ∷ top ∷ success ∷ failure ∷ rest) =
    Some (record { mark = address mark.number; top = address top.number; success = address success.number; failure = address failure.number; rest = rest })
failure_in _ = None

abbrev pub success_at : ℕ → HeapState → Option Success
success_at at heap = option_and_then success_in (frames_from at heap)

abbrev pub failure_at : ℕ → HeapState → Option Failure
failure_at at heap = option_and_then failure_in (frames_from at heap)

-- the label that a frame begins with
abbrev pub label_in : List Cell → Option ℕ
label_in [] = None
label_in (label ∷ rest) = Some (or_zero label.number)

abbrev pub label_at : ℕ → HeapState → Option ℕ
label_at at heap = option_and_then label_in (frames_from at heap)
