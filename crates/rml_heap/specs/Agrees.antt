-- What may happen to cells and names so that what stands below a place still stands there.
use Rattle.std.specs.Prelude.{ℕ, ◌≡◌, ◌<◌, ◌⊎◌, List, Some}
use Rattle.rml_heap.specs.declared.cell.Cell.{Cell}
use Rattle.rml_heap.specs.HeapState.{unset_cell}
use Rattle.rml_heap.specs.Reading.{look, place_of}

-- the cells below the place look the same, but for those that were unset, and the logical variables there keep their numbers
pub record Agrees (top : ℕ) (before : List Cell) (names_before : List ℕ) (after : List Cell) (names_after : List ℕ) : Type 0 where
  pub cells : (at : ℕ) → at < top → (look before at ≡ unset_cell) ⊎ (look after at ≡ look before at)
  pub names : (at k : ℕ) → at < top → place_of at names_before ≡ Some k → place_of at names_after ≡ Some k
