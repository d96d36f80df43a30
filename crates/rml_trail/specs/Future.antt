-- What comes after a moment of a run, where no cell of then was taken back and nothing that was set then is undone.
use Rattle.std.specs.Prelude.{ℕ, ◌≡◌, ◌<◌, List, ◌++◌, length, take}
use Rattle.rml_heap.specs.declared.cell.Cell.{Cell}
use Rattle.rml_heap.specs.Reading.{look}
use Rattle.rml_trail.specs.TrailState.{unset_all}

-- the cells of values, and the trail's entries
pub record Store : Type 0 where
  pub cells : List Cell
  pub entries : List ℕ

-- the trail has what it had and more, the cells of then look as they did, and undoing what was set since leaves them as they were
pub record Future (before after : Store) : Type 0 where
  pub more : List ℕ
  pub entries : after.entries ≡ before.entries ++ more
  pub looks : (at : ℕ) → at < length before.cells → look after.cells at ≡ look before.cells at
  pub undone : take (length before.cells) (unset_all more after.cells) ≡ before.cells
