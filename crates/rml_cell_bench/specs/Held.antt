-- Cells on which a call can be made again and again.
use Rattle.std.specs.Prelude.{ℕ, zero, suc, ◌≡◌, ◌⊎◌, List, [], ◌∷◌, length, pos}
use Rattle.rml_value.specs.declared.value.Value.{Value}
use Rattle.rml_value.specs.declared.value.Value.TheVariants as value
use Rattle.rml_builtin.specs.declared.row.Row.{Row}
use Rattle.rml_builtin.specs.declared.row.Row.TheVariants.{LvarSet}
use Rattle.rml_builtin.specs.Applied.{Store}
use Rattle.rml_heap.specs.declared.cell.Cell.{Cell}
use Rattle.rml_heap.specs.Reading.{AllStand}
use Rattle.rml_prims.specs.Binds.{Binds}
use Rattle.rml_prims.specs.Calculated.{IsCalculation, IsComparison}
use Rattle.rml_prims.specs.Exact.{CanRun}

-- the cells have some logical variables, or none
pub record HasStore (cells : List Cell) : Type 0 where
  pub names : List ℕ
  pub store : Store
  pub binds : Binds cells names store

-- the cells have no logical variables, and these of them stand for these values
pub record Holds (cells inputs : List Cell) (values : List Value) : Type 0 where
  pub binds : Binds cells [] []
  pub stand : AllStand cells [] (length cells) inputs values

-- a row that sets no logical variable leaves the cells that there are
abbrev pub SetsNothing : Row → Type 0
SetsNothing LvarSet = ⊥
SetsNothing row = Unit {0}

-- a row leaves these cells as they are, and can be run on them, whatever the place of its only result holds
pub record CanRepeat (row : Row) (cells inputs : List Cell) : Type 0 where
  pub leaves : SetsNothing row
  pub runs : (outputs : List Cell) → length outputs ≡ 1 → CanRun row cells inputs outputs

-- a row that calculates with two integers, or compares them
abbrev pub TakesTwoInts : Row → Type 0
TakesTwoInts row = IsCalculation row ⊎ IsComparison row

-- the integers below a number, the greatest first
abbrev pub below : ℕ → List Value
below zero = []
below (suc n) = value.Int (pos n) ∷ below n
