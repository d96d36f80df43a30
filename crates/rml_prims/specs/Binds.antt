-- Which logical variables the cells of a heap have, and what they hold: the cells against a store.
use Rattle.std.specs.Prelude.{ℕ, suc, ◌≡◌, ◌≢◌, ◌<◌, List, Option, Some, None, length, slice_get}
use Rattle.rml_value.specs.declared.value.Value.{Value}
use Rattle.rml_builtin.specs.Applied.{Store}
use Rattle.rml_heap.specs.declared.cell.Cell.{Cell}
use Rattle.rml_heap.specs.HeapState.{unset_cell, lvar_head}
use Rattle.rml_heap.specs.Form as form
use Rattle.rml_heap.specs.Reading.{cell_at, form_before, look, Stands}

-- the content of the logical variable at this address is this entry of a store
abbrev pub HoldsEntry : List Cell → List ℕ → ℕ → Option Value → Type 0
HoldsEntry cells names at None = cell_at cells (suc at) ≡ unset_cell
HoldsEntry cells names at (Some v) = Stands cells names (length cells) (cell_at cells (suc at)) v

-- a logical variable has this address
pub record IsLvar (cells : List Cell) (at : ℕ) : Type 0 where
  pub head : look cells at ≡ lvar_head
  pub inside : suc at < length cells

-- the names are the addresses of different logical variables, one for each entry of the store, in their order, and each holds its
-- entry. The last cell is no head of one, so that what is added is not taken for a content
pub record Binds (cells : List Cell) (names : List ℕ) (store : Store) : Type 0 where
  pub long : length names ≡ length store
  pub lvars : (k at : ℕ) → slice_get names k ≡ Some at → IsLvar cells at
  pub apart : (j k at : ℕ) → slice_get names j ≡ Some at → slice_get names k ≡ Some at → j ≡ k
  pub holds : (k at : ℕ) (entry : Option Value) → slice_get names k ≡ Some at → slice_get store k ≡ Some entry → HoldsEntry cells names at entry
  pub last : form_before cells (length cells) ≢ form.Lvar
