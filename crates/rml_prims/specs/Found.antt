-- What the calls behind one row give, of cells: when a row has a meaning of them, and what is found or made of it.
use Rattle.std.specs.Prelude.{ℕ, ◌≡◌, ◌≢◌, ◌+◌, ◌<◌, ◌++◌, ◌⊎◌, List, [], ◌∷◌, Option, Some, None, Result, Ok, Err, length}
use Rattle.rml_value.specs.declared.value.Value.{Value}
use Rattle.rml_value.specs.declared.value.TheConstants.{NONE}
use Rattle.rml_builtin.specs.declared.row.Row.{Row}
use Rattle.rml_builtin.specs.declared.row.Row.TheVariants.{IntString, StringAppend, StringList, ListString, LvarNew, LvarGet, LvarSet, Print, ListVector, VectorList}
use Rattle.rml_builtin.specs.declared.applied.Applied.{Applied}
use Rattle.rml_builtin.specs.declared.applied.Applied.TheVariants.{Yes, No, Wrong}
use Rattle.rml_builtin.specs.declared.applied.Answer.{Answer}
use Rattle.rml_builtin.specs.Applied.{Store}
use Rattle.rml_builtin.specs.BuiltIns.{apply}
use Rattle.rml_heap.specs.declared.cell.Cell.{Cell}
use Rattle.rml_heap.specs.declared.heap.Full.{Full}
use Rattle.rml_heap.specs.HeapState.{HeapState, HasRoom, cells_used, unset_cell}
use Rattle.rml_heap.specs.Form as form
use Rattle.rml_heap.specs.Form.{IsWord, form_of}
use Rattle.rml_heap.specs.Reading.{form_before, AllStand}
use Rattle.rml_heap.specs.Text.{words_for, text_cells}
use Rattle.rml_prims.specs.Shapes.{block_cell, con_cell, some_head}
use Rattle.rml_prims.specs.Binds.{Binds}
use Rattle.rml_prims.specs.Taken.{cells_taken}
use Rattle.rml_prims.specs.Laid.{AreLaid}

-- the cells stand for a store and for arguments of which a row has a meaning
pub record CanApply (row : Row) (cells inputs : List Cell) : Type 0 where
  pub names : List ℕ
  pub store : Store
  pub values : List Value
  pub binds : Binds cells names store
  pub stand : AllStand cells names (length cells) inputs values
  pub right : apply row values store ≢ Wrong

-- ---- rows that take no cells

abbrev pub IsFinding : Row → Type 0
IsFinding IntString = ⊥
IsFinding StringAppend = ⊥
IsFinding StringList = ⊥
IsFinding ListString = ⊥
IsFinding LvarNew = ⊥
IsFinding LvarGet = ⊥
IsFinding LvarSet = ⊥
IsFinding Print = ⊥
IsFinding ListVector = ⊥
IsFinding VectorList = ⊥
IsFinding row = Unit {0}

-- a cell that stands for the only result, and is the one that is laid, or None for no answer; the store stays
abbrev pub IsFound : Row → List Cell → List Cell → List ℕ → Store → Applied → Option Cell → Type 0
IsFound row cells inputs names store (Yes answer text) (Some c) = (answer.store ≡ store) × AllStand cells names (length cells) (c ∷ []) answer.values × AreLaid row cells inputs answer.values [] (c ∷ [])
IsFound row cells inputs names store (Yes answer text) None = ⊥
IsFound row cells inputs names store No (Some c) = ⊥
IsFound row cells inputs names store No None = Unit {0}
IsFound row cells inputs names store Wrong found = ⊥

-- whatever values and store the cells stand for
abbrev pub Finds : Row → List Cell → List Cell → Option Cell → Type 0
Finds row cells inputs found = (names : List ℕ) (store : Store) (values : List Value) → AllStand cells names (length cells) inputs values → IsFound row cells inputs names store (apply row values store) found

-- ---- rows that make a block

abbrev pub IsMaking : Row → Type 0
IsMaking IntString = Unit {0}
IsMaking StringAppend = Unit {0}
IsMaking StringList = Unit {0}
IsMaking ListString = Unit {0}
IsMaking LvarGet = Unit {0}
IsMaking ListVector = Unit {0}
IsMaking VectorList = Unit {0}
IsMaking row = ⊥

-- so many more cells do not fit, which is what is answered: how many are in use, and how many more were needed
pub record DoNotFit (heap : HeapState) (needed : ℕ) (full : Full) : Type 0 where
  pub over : heap.limit < cells_used heap + needed
  pub used : full.used ≡ cells_used heap
  pub need : full.need ≡ needed

-- cells were added, so many, and one stands for the only result; they are those that are laid; the store stays
pub record IsAdded (row : Row) (inputs : List Cell) (names : List ℕ) (store : Store) (answer : Answer) (before after : HeapState) (c : Cell) : Type 0 where
  pub cells : List Cell
  pub laid : AreLaid row before.values inputs answer.values cells (c ∷ [])
  pub taken : length cells ≡ cells_taken row answer.values
  pub room : HasRoom before (cells_taken row answer.values)
  pub heap : after ≡ record before { values = before.values ++ cells }
  pub last : form_before after.values (length after.values) ≢ form.Lvar
  pub stays : answer.store ≡ store
  pub result : AllStand after.values names (length after.values) (c ∷ []) answer.values

abbrev pub IsMade : Row → List Cell → List ℕ → Store → HeapState → Applied → HeapState → Result Cell Full → Type 0
IsMade row inputs names store before (Yes answer text) after (Ok c) = IsAdded row inputs names store answer before after c
IsMade row inputs names store before (Yes answer text) after (Err full) = DoNotFit before (cells_taken row answer.values) full × (after ≡ before)
IsMade row inputs names store before No after made = ⊥
IsMade row inputs names store before Wrong after made = ⊥

abbrev pub Makes : Row → HeapState → List Cell → HeapState → Result Cell Full → Type 0
Makes row before inputs after made = (names : List ℕ) (store : Store) (values : List Value) → Binds before.values names store → AllStand before.values names (length before.values) inputs values → IsMade row inputs names store before (apply row values store) after made

-- a text was placed at the end of the values, if its cells fit
abbrev pub IsPlaced : List ℕ → HeapState → HeapState → Result Cell Full → Type 0
IsPlaced bytes before after (Ok c) = HasRoom before (1 + words_for (length bytes)) × (after ≡ record before { values = before.values ++ text_cells bytes }) × (c ≡ block_cell (length before.values))
IsPlaced bytes before after (Err full) = DoNotFit before (1 + words_for (length bytes)) full × (after ≡ before)

-- values' cells may have been added, and nothing else was changed
pub record Grows (before after : HeapState) : Type 0 where
  pub cells : List Cell
  pub is : after ≡ record before { values = before.values ++ cells }

-- ---- what is read of a logical variable

-- `NONE`, or a new `SOME` of what is held
abbrev pub IsOption : HeapState → Cell → HeapState → Result Cell Full → Type 0
IsOption before content after (Ok c) = ((content ≡ unset_cell) × (c ≡ con_cell NONE) × (after ≡ before)) ⊎ (IsWord (form_of content) × HasRoom before 2 × (c ≡ block_cell (length before.values)) × (after ≡ record before { values = before.values ++ some_head ∷ content ∷ [] }))
IsOption before content after (Err full) = IsWord (form_of content) × DoNotFit before 2 full × (after ≡ before)
