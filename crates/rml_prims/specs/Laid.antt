-- How the results of a built-in lie in cells. What they are is told by `apply` in rml_builtin, of the values and the store that the cells
-- stand for; this says of which cells they are made. A value that a list, a vector or a logical variable holds is not copied: its cell is.
use Rattle.std.specs.Prelude.{ℕ, zero, suc, ◌≡◌, ◌+◌, List, [], ◌∷◌, ◌++◌, length, take, drop, Option, Some, None, slice_index_or}
use Rattle.rml_value.specs.declared.value.Value.{Value, out-Value}
use Rattle.rml_value.specs.declared.value.Value.TheOpen.{Value-F}
use Rattle.rml_value.specs.declared.value.TheConstants.{NIL, NONE}
use Rattle.rml_builtin.specs.declared.row.Row.{Row}
use Rattle.rml_builtin.specs.declared.row.Row.TheVariants.{StringList, LvarNew, LvarGet, ListVector, VectorList, VectorNth}
use Rattle.rml_builtin.specs.Arguments.{chars_of}
use Rattle.rml_heap.specs.declared.cell.Cell.{Cell}
use Rattle.rml_heap.specs.HeapState.{lvar_head, unset_cell, free_cell}
use Rattle.rml_heap.specs.Form as form
use Rattle.rml_heap.specs.Form.{Form, form_of, or_zero}
use Rattle.rml_heap.specs.Text.{text_cells}
use Rattle.rml_heap.specs.Reading.{cell_at}
use Rattle.rml_prims.specs.Shapes.{int_cell, char_cell, con_cell, block_cell, cons_head, some_head, vector_head}

-- cells that are added behind all that there are, and a cell that leads to them or is a value by itself
pub record Laid : Type 0 where
  pub added : List Cell
  pub cell : Cell

abbrev pub alone : Cell → Laid
alone c = record { added = []; cell = c }

-- a block at an address
abbrev pub block_laid : ℕ → List Cell → Laid
block_laid at cells = record { added = cells; cell = block_cell at }

-- ---- what is made

-- a list at an address, whose last `::` lies lowest
abbrev pub onto_list : ℕ → Cell → Laid → Laid
onto_list at c tail = record { added = tail.added ++ cons_head ∷ c ∷ tail.cell ∷ []; cell = block_cell (at + length tail.added) }

abbrev pub list_laid : ℕ → List Cell → Laid
list_laid at [] = alone (con_cell NIL)
list_laid at (c ∷ cells) = onto_list at c (list_laid at cells)

abbrev pub vector_laid : ℕ → List Cell → Laid
vector_laid at cells = block_laid at (vector_head (length cells) ∷ cells)

-- `NONE`, or `SOME` of a content
abbrev pub option_laid : ℕ → Cell → Form → Laid
option_laid at content form.Unset = alone (con_cell NONE)
option_laid at content _ = block_laid at (some_head ∷ content ∷ [])

abbrev pub characters : Option (List ℕ) → List Cell
characters None = []
characters (Some []) = []
characters (Some (c ∷ cs)) = char_cell c ∷ characters (Some cs)

-- an integer, a character, a constructor without arguments or a text
abbrev pub plain_laid : ℕ → Value-F Value → Laid
plain_laid at (Value-F.Int i) = alone (int_cell i)
plain_laid at (Value-F.Char c) = alone (char_cell c)
plain_laid at (Value-F.Con c vs) = alone (con_cell c)
plain_laid at (Value-F.Text bytes) = block_laid at (text_cells bytes)
plain_laid at _ = alone free_cell

-- ---- what is held

-- the address of a block
abbrev pub address_in : Form → ℕ
address_in (form.Block at) = at
address_in _ = 0

abbrev pub address_of : Cell → ℕ
address_of c = address_in (form_of c)

-- the content of a logical variable
abbrev pub content_of : List Cell → Cell → Cell
content_of cells c = cell_at cells (suc (address_of c))

-- the items of a list, of at most so many
abbrev pub items_at : (Cell → List Cell) → List Cell → ℕ → Form → List Cell
items_at rest cells at form.ConsBlock = cell_at cells (suc at) ∷ rest (cell_at cells (suc (suc at)))
items_at rest cells at _ = []

abbrev pub items_in : (Cell → List Cell) → List Cell → Form → List Cell
items_in rest cells (form.Block at) = items_at rest cells at (form_of (cell_at cells at))
items_in rest cells _ = []

abbrev pub list_items : ℕ → List Cell → Cell → List Cell
list_items zero cells c = []
list_items (suc n) cells c = items_in (list_items n cells) cells (form_of c)

-- the items of a vector
abbrev pub vector_size : Form → ℕ
vector_size (form.Vector n) = n
vector_size _ = 0

abbrev pub vector_items : List Cell → Cell → List Cell
vector_items cells c = take (vector_size (form_of (cell_at cells (address_of c)))) (drop (suc (address_of c)) cells)

-- ---- results

-- the only argument, or the first
abbrev pub first_of : List Cell → Cell
first_of [] = free_cell
first_of (c ∷ cs) = c

-- and the second, as an index
abbrev pub index_of : List Cell → ℕ
index_of (c ∷ i ∷ cs) = or_zero i.number
index_of _ = 0

-- the result of a row, over the cells that there are and those of its arguments
abbrev pub result_laid : Row → List Cell → List Cell → Value → Laid
result_laid StringList cells inputs v = list_laid (length cells) (characters (chars_of v))
result_laid LvarNew cells inputs v = block_laid (length cells) (lvar_head ∷ unset_cell ∷ [])
result_laid LvarGet cells inputs v = option_laid (length cells) (content_of cells (first_of inputs)) (form_of (content_of cells (first_of inputs)))
result_laid ListVector cells inputs v = vector_laid (length cells) (list_items (length cells) cells (first_of inputs))
result_laid VectorList cells inputs v = list_laid (length cells) (vector_items cells (first_of inputs))
result_laid VectorNth cells inputs v = alone (slice_index_or (vector_items cells (first_of inputs)) (index_of inputs) free_cell)
result_laid row cells inputs v = plain_laid (length cells) (out-Value v)

-- all that is added, and the cells of the results; no row has more results than one
pub record Results : Type 0 where
  pub added : List Cell
  pub cells : List Cell

abbrev pub one_result : Laid → Results
one_result laid = record { added = laid.added; cells = laid.cell ∷ [] }

abbrev pub results_laid : Row → List Cell → List Cell → List Value → Results
results_laid row cells inputs [] = record { added = []; cells = [] }
results_laid row cells inputs (v ∷ vs) = one_result (result_laid row cells inputs v)

-- they are made of these cells, behind those that there are
abbrev pub AreLaid : Row → List Cell → List Cell → List Value → List Cell → List Cell → Type 0
AreLaid row cells inputs values added outputs = results_laid row cells inputs values ≡ record { added = added; cells = outputs }
