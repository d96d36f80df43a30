-- The cells that a built-in takes, all at once, by its results: those of the blocks that it makes.
use Rattle.std.specs.Prelude.{ℕ, ◌+◌, List, [], ◌∷◌, length, sum_by}
use Rattle.rml_value.specs.declared.value.Value.{Value, out-Value}
use Rattle.rml_value.specs.declared.value.Value.TheOpen.{Value-F}
use Rattle.rml_builtin.specs.declared.row.Row.{Row}
use Rattle.rml_builtin.specs.declared.row.Row.TheVariants.{LvarNew, LvarGet}
use Rattle.rml_builtin.specs.Made.{cells_made}

-- a constructor is a head and a cell for each argument, and no block where it has none
abbrev pub applied_cells : List Value → ℕ
applied_cells [] = 0
applied_cells (v ∷ vs) = 1 + length (v ∷ vs)

abbrev pub option_cells_at : Value-F Value → ℕ
option_cells_at (Value-F.Con c vs) = applied_cells vs
option_cells_at _ = 0

abbrev pub option_cells : Value → ℕ
option_cells v = option_cells_at (out-Value v)

-- a logical variable is a head and its content; texts, lists and vectors are what a run is charged for
abbrev pub cells_taken : Row → List Value → ℕ
cells_taken LvarNew vs = 2
cells_taken LvarGet vs = sum_by option_cells vs
cells_taken row vs = cells_made row vs
