-- What a built-in does, by what `prim` does.
use Rattle.std.specs.Prelude.{ℕ, ◌≡◌, ◌≢◌, ◌+◌, ◌<◌, ◌==◌, IsTrue, List, length, Option, Some, IfSome, slice_get}
use Rattle.std.proofs.Common.{refl, ap, sym, ◌∙◌, subst, arith}
use Rattle.rml_value.specs.declared.value.Value.{Value}
use Rattle.rml_builtin.specs.declared.row.TheConstants.{ROWS}
use Rattle.rml_builtin.specs.declared.row.Row.{Row}
use Rattle.rml_builtin.specs.declared.applied.Applied.{Applied}
use Rattle.rml_builtin.specs.declared.applied.Applied.TheVariants as applied
use Rattle.rml_builtin.specs.Applied.{Store}
use Rattle.rml_builtin.specs.BuiltIns.{apply}
use Rattle.rml_builtin.specs.Table.{inputs_of, outputs_of, is_silent}
use Rattle.rml_heap.specs.declared.cell.Cell.{Cell}
use Rattle.rml_heap.specs.HeapState.{HeapState, cells_used}
use Rattle.rml_trail.specs.TrailState.{TrailState}
use Rattle.rml_prims.specs.declared.run.PrimEnd.{PrimEnd}
use Rattle.rml_prims.specs.declared.run.PrimEnd.TheVariants as prim
use Rattle.rml_prims.specs.Taken.{cells_taken}
use Rattle.rml_prims.specs.Standing.{values_in, store_in, lvars_in}
use Rattle.rml_prims.specs.Laid.{Results, results_laid}
use Rattle.rml_prims.specs.Exact as exact
use Rattle.rml_prims.specs.Exact.{CanRun, IsExact, Runs}
use Rattle.rml_prims.proofs.Callers.{values-stand, store-binds}
use Rattle.rml_code.specs.declared.instructions.Else.{Else}
use Rattle.rml_code.specs.declared.instructions.Instr.TheVariants as instr
use Rattle.rml_code.specs.declared.state.State.{State}
use Rattle.rml_code.specs.Frames.{registers_of, loaded}
use Rattle.rml_code.specs.Stretch.{Stretch, Behind, Stop, Full, goes, with_known}
use Rattle.rml_code.specs.Effects.{effect, if_room, otherwise, with_results, answered, ends_with, runs_row}
use Rattle.rml_acts.specs.Fine.{IsFineRow}
use Rattle.rml_acts.specs.Did.{IsRight}
use Rattle.rml_acts.proofs.Effects.{known-right, known-is, room-fits, room-full, test-right}

pub moved : (a b : Stretch) → a ≡ b → IsRight a → IsRight b
moved a b e right = λ wrong. right (ap (λ (x : Stretch). x.next) e ∙ wrong)

-- what a built-in is run on
pub record RunsRow (k : ℕ) (rs ys : List ℕ) (e : Else) (s : State) : Type 0 where
  pub row : Row
  pub there : slice_get ROWS k ≡ Some row
  pub values : List Value
  pub store : Store
  pub stand : values_in s.heap.values (registers_of rs s) ≡ Some values
  pub stored : store_in s.heap.values ≡ Some store
  pub is : effect (instr.Builtin k rs ys e) s ≡ ends_with ys row (registers_of rs s) e (apply row values store) s
  pub right : IsRight (ends_with ys row (registers_of rs s) e (apply row values store) s)

pub runs-on : (k : ℕ) (rs ys : List ℕ) (e : Else) (s : State) → IsRight (effect (instr.Builtin k rs ys e) s) → RunsRow k rs ys e s
runs-on k rs ys e s right =
    let inputs : List Cell = registers_of rs s in
    let cells : List Cell = s.heap.values in
    let row = known-right (slice_get ROWS k) (runs_row ys inputs e s) s right in
    let at_row : effect (instr.Builtin k rs ys e) s ≡ runs_row ys inputs e s row.0 = known-is (slice_get ROWS k) (runs_row ys inputs e s) s row.0 row.1 in
    let right_row : IsRight (runs_row ys inputs e s row.0) = moved (effect (instr.Builtin k rs ys e) s) (runs_row ys inputs e s row.0) at_row right in
    let go : List Value → Stretch = λ vs. with_known (store_in cells) (λ (store : Store). ends_with ys row.0 inputs e (apply row.0 vs store) s) s in
    let vs = known-right (values_in cells inputs) go s right_row in
    let at_values : runs_row ys inputs e s row.0 ≡ go vs.0 = known-is (values_in cells inputs) go s vs.0 vs.1 in
    let right_values : IsRight (go vs.0) = moved (runs_row ys inputs e s row.0) (go vs.0) at_values right_row in
    let last : Store → Stretch = λ store. ends_with ys row.0 inputs e (apply row.0 vs.0 store) s in
    let store = known-right (store_in cells) last s right_values in
    let at_store : go vs.0 ≡ last store.0 = known-is (store_in cells) last s store.0 store.1 in
    record {
      row = row.0;
      there = row.1;
      values = vs.0;
      store = store.0;
      stand = vs.1;
      stored = store.1;
      is = at_row ∙ at_values ∙ at_store;
      right = moved (go vs.0) (last store.0) at_store right_values;
    }

-- it may be run
pub can-run : (k : ℕ) (rs ys : List ℕ) (e : Else) (s : State) (outputs : List Cell) (r : RunsRow k rs ys e s) → IsTrue (is_silent r.row) → length outputs ≡ length (outputs_of r.row) → CanRun r.row s.heap.values (registers_of rs s) outputs
can-run k rs ys e s outputs r silent results =
    let inputs : List Cell = registers_of rs s in
    let no_wrong : apply r.row r.values r.store ≢ applied.Wrong = λ is_wrong. r.right (ap (λ (a : Applied). (ends_with ys r.row inputs e a s).next) is_wrong) in
    record {
      silent = silent;
      applies = record {
        names = lvars_in s.heap.values;
        store = r.store;
        values = r.values;
        binds = store-binds s.heap.values r.store r.stored;
        stand = values-stand s.heap.values inputs r.values r.stand;
        right = no_wrong;
      };
      results = results;
    }

-- ---- what comes of it

pub record IsDone (ys : List ℕ) (s : State) (a : Stretch) (after : exact.State) : Type 0 where
  pub next : a.next ≡ Behind
  pub state : a.state ≡ record s { registers = loaded ys after.outputs s.registers; heap = after.heap; trail = after.trail }

abbrev pub Ends : List ℕ → Else → State → List Cell → Stretch → exact.State → PrimEnd → Type 0
Ends ys e s outputs a after prim.Done = IsDone ys s a after
Ends ys e s outputs a after prim.No = (a ≡ otherwise e s) × (after ≡ record { heap = s.heap; trail = s.trail; outputs = outputs })
Ends ys e s outputs a after (prim.Full used need) = (a ≡ goes (Stop (Full used need)) s) × (after ≡ record { heap = s.heap; trail = s.trail; outputs = outputs })

both-stores : (s : State) (registers : List Cell) (h i : HeapState) (t u : TrailState) → h ≡ i → t ≡ u → record s { registers = registers; heap = h; trail = t } ≡ record s { registers = registers; heap = i; trail = u }
both-stores s registers h i t u a b = cc

ended : (row : Row) (ys : List ℕ) (inputs : List Cell) (e : Else) (s : State) (names : List ℕ) (outputs : List Cell) (after : exact.State) (a : Applied) (end : PrimEnd) → IsRight (ends_with ys row inputs e a s) → IsExact row inputs names (record { heap = s.heap; trail = s.trail; outputs = outputs }) a after end
    → Ends ys e s outputs (ends_with ys row inputs e a s) after end
ended row ys inputs e s names outputs after (applied.Yes answer text) prim.Done right h =
    let laid : Results = results_laid row s.heap.values inputs answer.values in
    let gives : Stretch = answered ys row inputs answer text laid s in
    let n : ℕ = cells_taken row answer.values in
    let goes_on : ends_with ys row inputs e (applied.Yes answer text) s ≡ gives = test-right (length ys == length laid.cells) (if_room n s gives) s right ∙ room-fits n s gives h.room in
    let placed : with_results ys row inputs laid s ≡ with_results ys row inputs (record { added = h.cells; cells = after.outputs }) s = ap (λ (l : Results). with_results ys row inputs l s) h.laid in
    record {
      next = ap (λ (x : Stretch). x.next) goes_on;
      state = ap (λ (x : Stretch). x.state) goes_on ∙ placed ∙ both-stores s (loaded ys after.outputs s.registers) _ _ _ _ (sym h.heap) (sym h.trail);
    }
ended row ys inputs e s names outputs after (applied.Yes answer text) prim.No right h = absurd h
ended row ys inputs e s names outputs after (applied.Yes answer text) (prim.Full used need) right h =
    let laid : Results = results_laid row s.heap.values inputs answer.values in
    let gives : Stretch = answered ys row inputs answer text laid s in
    let n : ℕ = cells_taken row answer.values in
    let over : s.heap.limit < cells_used s.heap + n = h.0.over in
    let full : if_room n s gives ≡ goes (Stop (Full (cells_used s.heap) n)) s = room-full n s gives (λ room. omega (arith, room, over)) in
    let same_used : cells_used s.heap ≡ used = sym h.0.used in
    let same_need : n ≡ need = sym h.0.need in
    (test-right (length ys == length laid.cells) (if_room n s gives) s right ∙ full ∙ ap (λ u. goes (Stop (Full u n)) s) same_used ∙ ap (λ m. goes (Stop (Full used m)) s) same_need, h.1)
ended row ys inputs e s names outputs after applied.No prim.Done right h = absurd h
ended row ys inputs e s names outputs after applied.No prim.No right h = (refl, h)
ended row ys inputs e s names outputs after applied.No (prim.Full used need) right h = absurd h
ended row ys inputs e s names outputs after applied.Wrong end right h = absurd h

-- by what `prim` did
pub run-ends : (k : ℕ) (rs ys : List ℕ) (e : Else) (s : State) (outputs : List Cell) (after : exact.State) (end : PrimEnd) (r : RunsRow k rs ys e s) → Runs r.row (registers_of rs s) (record { heap = s.heap; trail = s.trail; outputs = outputs }) after end
    → Ends ys e s outputs (ends_with ys r.row (registers_of rs s) e (apply r.row r.values r.store) s) after end
run-ends k rs ys e s outputs after end r runs =
    let inputs : List Cell = registers_of rs s in
    let names : List ℕ = lvars_in s.heap.values in
    let exactly = runs names r.store r.values (store-binds s.heap.values r.store r.stored) (values-stand s.heap.values inputs r.values r.stand) in
    ended r.row ys inputs e s names outputs after (apply r.row r.values r.store) end r.right exactly

-- by what is said of it, and where its arguments were gathered
pub did : (k : ℕ) (rs ys : List ℕ) (e : Else) (s : State) (places outputs : List Cell) (after : exact.State) (end : PrimEnd) (r : RunsRow k rs ys e s) → places ≡ registers_of rs s
    → IfSome (slice_get ROWS k) (λ (row : Row). Runs row places (record { heap = s.heap; trail = s.trail; outputs = outputs }) after end) → Ends ys e s outputs (effect (instr.Builtin k rs ys e) s) after end
did k rs ys e s places outputs after end r gathered runs =
    let before : exact.State = record { heap = s.heap; trail = s.trail; outputs = outputs } in
    let P : Option Row → Type 0 = λ o. IfSome o (λ (row : Row). Runs row places before after end) in
    let Q : List Cell → Type 0 = λ inputs. Runs r.row inputs before after end in
    let ends = run-ends k rs ys e s outputs after end r (subst Q gathered (subst P r.there runs)) in
    let E : Stretch → Type 0 = λ a. Ends ys e s outputs a after end in
    subst E (sym r.is) ends

-- the row that the table has there is the one that is fine
pub fine-row : (k taken given : ℕ) (row : Row) → slice_get ROWS k ≡ Some row → IsFineRow taken given (slice_get ROWS k) → IsTrue (is_silent row) × (length (inputs_of row) ≡ taken) × (length (outputs_of row) ≡ given)
fine-row k taken given row there fine = subst (IsFineRow taken given) there fine
