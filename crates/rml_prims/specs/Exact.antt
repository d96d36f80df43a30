-- What a built-in does to cells, by what it gives on the values and the store that the cells stand for.
use Rattle.std.specs.Prelude.{IsTrue, ℕ, suc, ◌≡◌, ◌++◌, List, [], ◌∷◌, length, slice_set}
use Rattle.rml_value.specs.declared.value.Value.{Value}
use Rattle.rml_builtin.specs.declared.row.Row.{Row}
use Rattle.rml_builtin.specs.declared.row.Row.TheVariants.{LvarSet}
use Rattle.rml_builtin.specs.declared.applied.Applied.{Applied}
use Rattle.rml_builtin.specs.declared.applied.Applied.TheVariants.{Yes, No, Wrong}
use Rattle.rml_builtin.specs.declared.applied.Answer.{Answer}
use Rattle.rml_builtin.specs.Applied.{Store}
use Rattle.rml_builtin.specs.BuiltIns.{apply}
use Rattle.rml_builtin.specs.Table.{is_silent, outputs_of}
use Rattle.rml_heap.specs.declared.cell.Cell.{Cell}
use Rattle.rml_heap.specs.HeapState.{HeapState, HasRoom}
use Rattle.rml_heap.specs.Form.{address}
use Rattle.rml_heap.specs.Reading.{AllStand}
use Rattle.rml_trail.specs.TrailState.{TrailState}
use Rattle.rml_prims.specs.declared.run.PrimEnd.{PrimEnd}
use Rattle.rml_prims.specs.declared.run.PrimEnd.TheVariants as prim
use Rattle.rml_prims.specs.Binds.{Binds}
use Rattle.rml_prims.specs.Taken.{cells_taken}
use Rattle.rml_prims.specs.Laid.{AreLaid}
use Rattle.rml_prims.specs.Found.{CanApply, DoNotFit}

-- a row can be run on these cells, which have a place for each of its results
pub record CanRun (row : Row) (cells inputs outputs : List Cell) : Type 0 where
  pub silent : IsTrue (is_silent row)
  pub applies : CanApply row cells inputs
  pub results : length outputs ≡ length (outputs_of row)

-- the cells and the trail, and the places of the results
pub record State : Type 0 where
  pub heap : HeapState
  pub trail : TrailState
  pub outputs : List Cell

-- all cells stay, but for the content that `lvar_set` sets
abbrev pub cells_kept : Row → List Cell → List Cell → List Cell
cells_kept LvarSet (lvar ∷ c ∷ []) cells = slice_set cells (suc (address lvar.number)) c
cells_kept row inputs cells = cells

-- and the trail, but for that entry
abbrev pub entries_kept : Row → List Cell → List ℕ → List ℕ
entries_kept LvarSet (lvar ∷ c ∷ []) entries = entries ++ suc (address lvar.number) ∷ []
entries_kept row inputs entries = entries

-- an answer: cells were taken, as many as the results need, and those and the results' cells are the ones that are laid; the cells stand
-- for the store after it, where the logical variables that were made have names too, and the results' cells for the results
pub record IsAnswered (row : Row) (inputs : List Cell) (names : List ℕ) (answer : Answer) (before after : State) : Type 0 where
  pub cells : List Cell
  pub made : List ℕ
  pub laid : AreLaid row before.heap.values inputs answer.values cells after.outputs
  pub taken : length cells ≡ cells_taken row answer.values
  pub room : HasRoom before.heap (cells_taken row answer.values)
  pub heap : after.heap ≡ record before.heap { values = cells_kept row inputs before.heap.values ++ cells }
  pub trail : after.trail ≡ record before.trail { entries = entries_kept row inputs before.trail.entries }
  pub store : Binds after.heap.values (names ++ made) answer.store
  pub results : AllStand after.heap.values (names ++ made) (length after.heap.values) after.outputs answer.values

-- each end has its cause: No where there is no answer, Full where the cells that the answer needs do not fit
abbrev pub IsExact : Row → List Cell → List ℕ → State → Applied → State → PrimEnd → Type 0
IsExact row inputs names before (Yes answer text) after prim.Done = IsAnswered row inputs names answer before after
IsExact row inputs names before (Yes answer text) after (prim.Full used need) = DoNotFit before.heap (cells_taken row answer.values) (record { used = used; need = need }) × (after ≡ before)
IsExact row inputs names before (Yes answer text) after prim.No = ⊥
IsExact row inputs names before No after prim.No = after ≡ before
IsExact row inputs names before No after _ = ⊥
IsExact row inputs names before Wrong after end = ⊥

-- whatever values and store the cells stand for
abbrev pub Runs : Row → List Cell → State → State → PrimEnd → Type 0
Runs row inputs before after end = (names : List ℕ) (store : Store) (values : List Value) → Binds before.heap.values names store → AllStand before.heap.values names (length before.heap.values) inputs values → IsExact row inputs names before (apply row values store) after end
