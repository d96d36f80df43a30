-- How a row ends, by what was found or made of its arguments.
use Rattle.std.proofs.Common.{◌≡◌, ◌≢◌, ℕ, ◌≤◌, List, [], ◌∷◌, ◌++◌, Some, None, Ok, Err, length, set, refl, sym, ap, subst, ◌∙◌, arith}
use Rattle.std.proofs.lemmas.List.{append-nil}
use Rattle.rml_value.specs.declared.value.Value.{Value}
use Rattle.rml_builtin.specs.declared.row.Row.{Row}
use Rattle.rml_builtin.specs.declared.row.Row.TheVariants.{IntString, StringAppend, StringList, ListString, LvarNew, LvarGet, LvarSet, Print, ListVector, VectorList}
use Rattle.rml_builtin.specs.declared.applied.Applied.{Applied}
use Rattle.rml_builtin.specs.declared.applied.Applied.TheVariants.{Yes, No, Wrong}
use Rattle.rml_builtin.specs.declared.applied.Answer.{Answer}
use Rattle.rml_builtin.specs.Applied.{Store}
use Rattle.rml_builtin.specs.BuiltIns.{apply}
use Rattle.rml_builtin.specs.Table.{outputs_of}
use Rattle.rml_heap.specs.declared.cell.Cell.{Cell}
use Rattle.rml_heap.specs.declared.heap.Full.{Full}
use Rattle.rml_heap.specs.HeapState.{HeapState, HasRoom, cells_used}
use Rattle.rml_heap.specs.Form as form
use Rattle.rml_heap.specs.Reading.{form_before, AllStand}
use Rattle.rml_trail.specs.TrailState.{TrailState}
use Rattle.rml_prims.specs.declared.run.PrimEnd.TheVariants as prim
use Rattle.rml_prims.specs.Binds.{Binds}
use Rattle.rml_prims.specs.Taken.{cells_taken}
use Rattle.rml_prims.specs.Laid.{AreLaid}
use Rattle.rml_prims.specs.Found.{IsAdded, IsFinding, IsFound, IsMade, IsMaking, Finds, Makes}
use Rattle.rml_prims.specs.Exact.{State, IsAnswered, IsExact, Runs, cells_kept, entries_kept}
use Rattle.rml_prims.proofs.Bindings.{binds-added}

-- ---- what is said of rows

pub cells-stay : (row : Row) → row ≢ LvarSet → (inputs cells : List Cell) → cells_kept row inputs cells ≡ cells
cells-stay LvarSet other inputs cells = absurd (other refl)
cells-stay _ other inputs cells = refl

pub entries-stay : (row : Row) → row ≢ LvarSet → (inputs : List Cell) (entries : List ℕ) → entries_kept row inputs entries ≡ entries
entries-stay LvarSet other inputs entries = absurd (other refl)
entries-stay _ other inputs entries = refl

finding-other : (row : Row) → IsFinding row → row ≢ LvarSet
finding-other row is e = let P : Row → Type 0 = IsFinding in subst P e is

finding-takes : (row : Row) → IsFinding row → (vs : List Value) → cells_taken row vs ≡ 0
finding-takes IntString is vs = absurd is
finding-takes StringAppend is vs = absurd is
finding-takes StringList is vs = absurd is
finding-takes ListString is vs = absurd is
finding-takes LvarNew is vs = absurd is
finding-takes LvarGet is vs = absurd is
finding-takes LvarSet is vs = absurd is
finding-takes Print is vs = absurd is
finding-takes ListVector is vs = absurd is
finding-takes VectorList is vs = absurd is
finding-takes _ is vs = refl

pub finding-one : (row : Row) → IsFinding row → length (outputs_of row) ≡ 1
finding-one LvarSet is = absurd is
finding-one Print is = absurd is
finding-one _ is = refl

making-other : (row : Row) → IsMaking row → row ≢ LvarSet
making-other row is e = let P : Row → Type 0 = IsMaking in subst P e is

pub making-one : (row : Row) → IsMaking row → length (outputs_of row) ≡ 1
making-one LvarSet is = absurd is
making-one Print is = absurd is
making-one _ is = refl

pub one-place : (outputs : List Cell) (c : Cell) → length outputs ≡ 1 → set outputs 0 c ≡ c ∷ []
one-place [] c h = absurd (omega (arith, h))
one-place (d ∷ []) c h = refl
one-place (d ∷ e ∷ outputs) c h = absurd (omega (arith, h))

-- ---- an answer of one result, for which cells may have been added

abbrev pub state : HeapState → TrailState → List Cell → State
state heap trail outputs = record { heap = heap; trail = trail; outputs = outputs }

pub answered-more : (row : Row) (inputs : List Cell) (names : List ℕ) (answer : Answer) (before after : HeapState) (trail : TrailState) (outputs : List Cell) (c : Cell) (more : List Cell)
    → row ≢ LvarSet → length outputs ≡ 1 → AreLaid row before.values inputs answer.values more (c ∷ []) → length more ≡ cells_taken row answer.values → HasRoom before (cells_taken row answer.values)
    → after ≡ record before { values = before.values ++ more } → Binds after.values names answer.store → AllStand after.values names (length after.values) (c ∷ []) answer.values
    → IsAnswered row inputs names answer (state before trail outputs) (state after trail (set outputs 0 c))
answered-more row inputs names answer before after trail outputs c more other places laid taken room added store results =
    let N : List ℕ → Type 0 = λ ns. Binds after.values ns answer.store in
    let R : List ℕ → Type 0 = λ ns. AllStand after.values ns (length after.values) (set outputs 0 c) answer.values in
    let C : List Cell → Type 0 = λ cs. AllStand after.values names (length after.values) cs answer.values in
    let L : List Cell → Type 0 = AreLaid row before.values inputs answer.values more in
    let none : names ++ [] ≡ names = append-nil names in
    record {
      cells = more;
      made = [];
      laid = subst L (sym (one-place outputs c places)) laid;
      taken = taken;
      room = room;
      heap = added ∙ ap (λ (vs : List Cell). record before { values = vs ++ more }) (sym (cells-stay row other inputs before.values));
      trail = ap (λ (es : List ℕ). record trail { entries = es }) (sym (entries-stay row other inputs trail.entries));
      store = subst N (sym none) store;
      results = subst R (sym none) (subst C (sym (one-place outputs c places)) results);
    }

-- ---- rows that take no cells

found-end : (row : Row) (inputs : List Cell) (names : List ℕ) (store : Store) (heap : HeapState) (trail : TrailState) (outputs : List Cell) (c : Cell)
    → IsFinding row → cells_used heap ≤ heap.limit → length outputs ≡ 1 → Binds heap.values names store
    → (a : Applied) → IsFound row heap.values inputs names store a (Some c) → IsExact row inputs names (state heap trail outputs) a (state heap trail (set outputs 0 c)) prim.Done
found-end row inputs names store heap trail outputs c is within places binds (Yes answer text) h =
    let none : 0 ≡ cells_taken row answer.values = sym (finding-takes row is answer.values) in
    let room : HasRoom heap (cells_taken row answer.values) = omega (arith, within, none) in
    let same : heap ≡ record heap { values = heap.values ++ [] } = ap (λ (vs : List Cell). record heap { values = vs }) (sym (append-nil heap.values)) in
    let B : Store → Type 0 = λ s. Binds heap.values names s in
    answered-more row inputs names answer heap heap trail outputs c [] (finding-other row is) places h.2 none room same (subst B (sym h.0) binds) h.1
found-end row inputs names store heap trail outputs c is within places binds No h = h
found-end row inputs names store heap trail outputs c is within places binds Wrong h = h

pub found-runs : (row : Row) (inputs : List Cell) (heap : HeapState) (trail : TrailState) (outputs : List Cell) (c : Cell)
    → IsFinding row → cells_used heap ≤ heap.limit → length outputs ≡ 1 → Finds row heap.values inputs (Some c)
    → Runs row inputs (state heap trail outputs) (state heap trail (set outputs 0 c)) prim.Done
found-runs row inputs heap trail outputs c is within places finds names store values binds stand =
    found-end row inputs names store heap trail outputs c is within places binds (apply row values store) (finds names store values stand)

none-end : (row : Row) (inputs : List Cell) (names : List ℕ) (store : Store) (before : State) (a : Applied) → IsFound row before.heap.values inputs names store a None → IsExact row inputs names before a before prim.No
none-end row inputs names store before (Yes answer text) h = h
none-end row inputs names store before No h = refl
none-end row inputs names store before Wrong h = h

pub none-runs : (row : Row) (inputs : List Cell) (before : State) → Finds row before.heap.values inputs None → Runs row inputs before before prim.No
none-runs row inputs before finds names store values binds stand = none-end row inputs names store before (apply row values store) (finds names store values stand)

-- ---- rows that make a block

binds-after : (row : Row) (inputs : List Cell) (names : List ℕ) (store : Store) (answer : Answer) (before after : HeapState) (c : Cell) → Binds before.values names store → IsAdded row inputs names store answer before after c → Binds after.values names answer.store
binds-after row inputs names store answer before after c binds h =
    let values : after.values ≡ before.values ++ h.cells = ap (λ (s : HeapState). s.values) h.heap in
    let L : List Cell → Type 0 = λ ws. form_before ws (length ws) ≢ form.Lvar in
    let B : List Cell → Type 0 = λ ws. Binds ws names store in
    let S : Store → Type 0 = λ s. Binds after.values names s in
    subst S (sym h.stays) (subst B (sym values) (binds-added before.values h.cells names store (subst L values h.last) binds))

made-end : (row : Row) (inputs : List Cell) (names : List ℕ) (store : Store) (before after : HeapState) (trail : TrailState) (outputs : List Cell) (c : Cell)
    → IsMaking row → length outputs ≡ 1 → Binds before.values names store
    → (a : Applied) → IsMade row inputs names store before a after (Ok c) → IsExact row inputs names (state before trail outputs) a (state after trail (set outputs 0 c)) prim.Done
made-end row inputs names store before after trail outputs c is places binds (Yes answer text) h =
    answered-more row inputs names answer before after trail outputs c h.cells (making-other row is) places h.laid h.taken h.room h.heap (binds-after row inputs names store answer before after c binds h) h.result
made-end row inputs names store before after trail outputs c is places binds No h = h
made-end row inputs names store before after trail outputs c is places binds Wrong h = h

pub made-runs : (row : Row) (inputs : List Cell) (before after : HeapState) (trail : TrailState) (outputs : List Cell) (c : Cell)
    → IsMaking row → length outputs ≡ 1 → Makes row before inputs after (Ok c)
    → Runs row inputs (state before trail outputs) (state after trail (set outputs 0 c)) prim.Done
made-runs row inputs before after trail outputs c is places makes names store values binds stand =
    made-end row inputs names store before after trail outputs c is places binds (apply row values store) (makes names store values binds stand)

full-end : (row : Row) (inputs : List Cell) (names : List ℕ) (store : Store) (before after : HeapState) (trail : TrailState) (outputs : List Cell) (full : Full)
    → (a : Applied) → IsMade row inputs names store before a after (Err full) → IsExact row inputs names (state before trail outputs) a (state after trail outputs) (prim.Full full.used full.need)
full-end row inputs names store before after trail outputs full (Yes answer text) h = (h.0, ap (λ (s : HeapState). state s trail outputs) h.1)
full-end row inputs names store before after trail outputs full No h = h
full-end row inputs names store before after trail outputs full Wrong h = h

pub full-runs : (row : Row) (inputs : List Cell) (before after : HeapState) (trail : TrailState) (outputs : List Cell) (full : Full)
    → Makes row before inputs after (Err full) → Runs row inputs (state before trail outputs) (state after trail outputs) (prim.Full full.used full.need)
full-runs row inputs before after trail outputs full makes names store values binds stand =
    full-end row inputs names store before after trail outputs full (apply row values store) (makes names store values binds stand)
