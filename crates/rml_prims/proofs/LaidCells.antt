-- The cells of results that are one cell, or a text.
use Rattle.std.proofs.Common.{◌≡◌, ℕ, List, [], ◌∷◌, length, ap, ◌∙◌}
use Rattle.std.specs.Prelude.{ℤ}
use Rattle.rml_value.specs.declared.value.Value.{Value, out-Value}
use Rattle.rml_value.specs.declared.value.Value.TheVariants as value
use Rattle.rml_value.specs.declared.value.Value.TheVariants.{outs-Char, outs-Con, outs-Int, outs-Text}
use Rattle.rml_builtin.specs.declared.row.Row.{Row}
use Rattle.rml_heap.specs.declared.cell.Cell.{Cell}
use Rattle.rml_heap.specs.Text.{text_cells}
use Rattle.rml_prims.specs.Shapes.{block_cell, char_cell, con_cell, int_cell}
use Rattle.rml_prims.specs.Laid.{AreLaid, one_result, plain_laid, result_laid}

-- a row whose result is laid by its value alone
abbrev pub LaysPlain : Row → Type 0
LaysPlain row = (cells inputs : List Cell) (v : Value) → result_laid row cells inputs v ≡ plain_laid (length cells) (out-Value v)

pub int-laid : (row : Row) → LaysPlain row → (cells inputs : List Cell) (i : ℤ) → AreLaid row cells inputs (value.Int i ∷ []) [] (int_cell i ∷ [])
int-laid row plain cells inputs i = ap one_result (plain cells inputs (value.Int i) ∙ ap (plain_laid (length cells)) (outs-Int i))

pub char-laid : (row : Row) → LaysPlain row → (cells inputs : List Cell) (c : ℕ) → AreLaid row cells inputs (value.Char c ∷ []) [] (char_cell c ∷ [])
char-laid row plain cells inputs c = ap one_result (plain cells inputs (value.Char c) ∙ ap (plain_laid (length cells)) (outs-Char c))

pub con-laid : (row : Row) → LaysPlain row → (cells inputs : List Cell) (c : ℕ) → AreLaid row cells inputs (value.Con c [] ∷ []) [] (con_cell c ∷ [])
con-laid row plain cells inputs c = ap one_result (plain cells inputs (value.Con c []) ∙ ap (plain_laid (length cells)) (outs-Con c []))

pub text-laid : (row : Row) → LaysPlain row → (cells inputs : List Cell) (bytes : List ℕ) → AreLaid row cells inputs (value.Text bytes ∷ []) (text_cells bytes) (block_cell (length cells) ∷ [])
text-laid row plain cells inputs bytes = ap one_result (plain cells inputs (value.Text bytes) ∙ ap (plain_laid (length cells)) (outs-Text bytes))
