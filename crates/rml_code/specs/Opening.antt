-- How a run begins. The last success frame and the last failure frame are pushed, by which it ends at the blocks 0 and 1. Then the list of
-- the arguments is placed, from the last one to the first, each text before its `::`, and then the constants in their order. These are the
-- start cells. If a block or frame does not fit, that is the end.
use Rattle.std.specs.Prelude.{ℕ, ◌+◌, ◌-◌, nat_le, if◌then◌else◌, List, [], ◌∷◌, ◌++◌, map, length, replicate, Result, Ok, Err, slice_index_or}
use Rattle.rml_value.specs.declared.value.TheConstants.{NIL}
use Rattle.rml_heap.specs.declared.cell.Cell.{Cell}
use Rattle.rml_heap.specs.declared.heap.Full.{Full}
use Rattle.rml_heap.specs.HeapState.{HeapState, cells_used, free_cell}
use Rattle.rml_heap.specs.Text.{text_cells}
use Rattle.rml_prims.specs.Shapes.{con_cell, block_cell, cons_head}
use Rattle.rml_code.specs.declared.constants.Part.{Part}
use Rattle.rml_code.specs.declared.constants.Part.TheVariants as part
use Rattle.rml_code.specs.declared.constants.Constant.{Constant}
use Rattle.rml_code.specs.declared.constants.Constant.TheVariants as constant
use Rattle.rml_code.specs.declared.listing.Listing.{Listing}
use Rattle.rml_code.specs.declared.state.State.{State}
use Rattle.rml_code.specs.Frames.{number_cell, with_frame}
use Rattle.rml_code.specs.Effects.{word_cell, con_head, tuple_head}

-- ---- what is placed, or does not fit

abbrev pub Placing : Type 0 → Type 0
Placing A = Result A Full

abbrev pub then_place : {A B : Type 0} → Placing A → (A → Placing B) → Placing B
then_place (Ok x) go = go x
then_place (Err full) go = Err full

-- so many cells, or it is full
abbrev pub if_fits : {A : Type 0} → ℕ → HeapState → A → Placing A
if_fits n heap x = if nat_le (cells_used heap + n) heap.limit then Ok x else Err (record { used = cells_used heap; need = n })

-- the cells, and one that leads to what was placed last
pub record Placed : Type 0 where
  pub heap : HeapState
  pub cell : Cell

abbrev pub place : List Cell → HeapState → Placing Placed
place cells heap = if_fits (length cells) heap (record { heap = record heap { values = heap.values ++ cells }; cell = block_cell (length heap.values) })

abbrev pub push : List Cell → HeapState → Placing HeapState
push cells heap = if_fits (length cells) heap (with_frame cells heap)

-- ---- frames

-- each leads to both
abbrev pub first_success : ℕ → List Cell
first_success limit = number_cell 0 ∷ number_cell (limit - 3) ∷ number_cell (limit - 8) ∷ []

abbrev pub first_failure : ℕ → List Cell
first_failure limit = number_cell 1 ∷ number_cell 0 ∷ number_cell 0 ∷ number_cell (limit - 3) ∷ number_cell (limit - 8) ∷ []

abbrev pub first_frames : ℕ → Placing HeapState
first_frames limit = then_place (push (first_success limit) (record { values = []; frames = []; limit = limit })) (push (first_failure limit))

-- ---- arguments

-- behind the list that follows
abbrev pub place_onto : List ℕ → Placed → Placing Placed
place_onto bytes tail = then_place (place (text_cells bytes) tail.heap) (λ (text : Placed). place (cons_head ∷ text.cell ∷ tail.cell ∷ []) text.heap)

abbrev pub place_arguments : List (List ℕ) → HeapState → Placing Placed
place_arguments [] heap = Ok (record { heap = heap; cell = con_cell NIL })
place_arguments (bytes ∷ rest) heap = then_place (place_arguments rest heap) (place_onto bytes)

-- ---- constants

abbrev pub part_cell : List Cell → Part → Cell
part_cell known (part.Word w) = word_cell w
part_cell known (part.Constant i) = slice_index_or known i free_cell

-- the block of a constant, where those before it have these cells
abbrev pub constant_cells : List Cell → Constant → List Cell
constant_cells known (constant.Text bytes) = text_cells bytes
constant_cells known (constant.Con c parts) = con_head c (length parts) ∷ map (part_cell known) parts
constant_cells known (constant.Tuple parts) = tuple_head (length parts) ∷ map (part_cell known) parts
constant_cells known (constant.Cons head tail) = cons_head ∷ part_cell known head ∷ part_cell known tail ∷ []

-- the cells, and one for each constant so far
pub record Known : Type 0 where
  pub heap : HeapState
  pub constants : List Cell

abbrev pub place_constants : List Constant → Known → Placing Known
place_constants [] known = Ok known
place_constants (k ∷ ks) known =
    then_place (place (constant_cells known.constants k) known.heap) (λ (placed : Placed). place_constants ks (record { heap = placed.heap; constants = known.constants ++ placed.cell ∷ [] }))

-- ---- the state

-- the list of arguments in the first register
abbrev pub started : ℕ → Cell → Known → State
started count list known = record {
  registers = list ∷ replicate (count - 1) free_cell;
  constants = known.constants;
  heap = known.heap;
  trail = record { entries = []; limit = known.heap.limit };
  success = known.heap.limit - 3;
  failure = known.heap.limit - 8;
}

abbrev pub opening : Listing → List (List ℕ) → ℕ → Placing State
opening l args limit =
    then_place (first_frames limit) (λ (heap : HeapState).
    then_place (place_arguments args heap) (λ (list : Placed).
    then_place (place_constants l.constants (record { heap = list.heap; constants = [] })) (λ (known : Known).
    Ok (started l.registers list.cell known))))
