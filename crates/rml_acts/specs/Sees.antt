-- What is read of a cell for a `switch`, against what the `switch` sees of it.
use Rattle.std.specs.Prelude.{ℕ, suc, ◌≡◌, List, length, map, Some}
use Rattle.rml_heap.specs.declared.cell.Cell.{Cell}
use Rattle.rml_heap.specs.Text.{words_for, packed, word_cell}
use Rattle.rml_heap.specs.Reading.{cell_at, looks}
use Rattle.rml_prims.specs.Shapes.{text_head}
use Rattle.rml_code.specs.Seen as seen
use Rattle.rml_code.specs.Seen.{Seen, text_at}
use Rattle.rml_acts.specs.declared.sight.Sight.{Sight}
use Rattle.rml_acts.specs.declared.sight.Sight.TheVariants as sight

-- a text whose head has this address
pub record IsTextAt (cells : List Cell) (at : ℕ) (bytes : List ℕ) : Type 0 where
  pub head : cell_at cells at ≡ text_head (length bytes)
  pub words : looks cells (suc at) (words_for (length bytes)) ≡ map word_cell (packed (words_for (length bytes)) bytes)
  pub read : text_at cells at (length bytes) ≡ Some bytes

abbrev pub Sees : List Cell → Sight → Seen → Type 0
Sees cells (sight.Int i) s = s ≡ seen.Int i
Sees cells (sight.Char c) s = s ≡ seen.Char c
Sees cells (sight.Con c) s = s ≡ seen.Con c
Sees cells (sight.Text at) s = (bytes : List ℕ) × (s ≡ seen.Text bytes) × IsTextAt cells at bytes
