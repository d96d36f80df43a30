-- The cells that a built-in makes, as a run is charged for them: those of a text, a list or a vector.
use Rattle.std.specs.Prelude.{ℕ, ◌+◌, ◌*◌, ◌/◌, List, length, sum_by, Option, Some, None}
use Rattle.rml_value.specs.declared.value.Value.{Value, out-Value}
use Rattle.rml_value.specs.declared.value.Value.TheOpen.{Value-F}
use Rattle.rml_value.specs.Lists.{items_of}
use Rattle.rml_builtin.specs.declared.row.Row.{Row}
use Rattle.rml_builtin.specs.declared.row.Row.TheVariants.{IntString, StringAppend, StringList, ListString, ListVector, VectorList}

-- three for each item
abbrev pub list_cells : Option (List Value) → ℕ
list_cells None = 0
list_cells (Some vs) = 3 * length vs

-- a text is a head and one cell for each eight bytes, rounded up; a list three cells an item; a vector a head and a cell an item
abbrev pub cells_at : Value-F Value → Value → ℕ
cells_at (Value-F.Text t) v = 1 + (length t + 7) / 8
cells_at (Value-F.Vector vs) v = 1 + length vs
cells_at _ v = list_cells (items_of v)

abbrev pub cells_of : Value → ℕ
cells_of v = cells_at (out-Value v) v

-- the cells of the results of the rows that make a text, a list or a vector
abbrev pub cells_made : Row → List Value → ℕ
cells_made IntString vs = sum_by cells_of vs
cells_made StringAppend vs = sum_by cells_of vs
cells_made StringList vs = sum_by cells_of vs
cells_made ListString vs = sum_by cells_of vs
cells_made ListVector vs = sum_by cells_of vs
cells_made VectorList vs = sum_by cells_of vs
cells_made _ vs = 0
