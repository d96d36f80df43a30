-- Rows whose result is a text that was placed at the end of the cells.
use Rattle.std.proofs.Common.{◌≡◌, ◌≢◌, ℕ, ◌+◌, List, [], ◌∷◌, ◌++◌, Result, Ok, Err, length, refl, sym, ap, subst, ◌∙◌, arith, zero-add}
use Rattle.std.specs.Prelude.{ℤ, sum_by, OnOk, OnErr, IfOk, IfErr}
use Rattle.std.proofs.lemmas.List.{append-nil}
use Rattle.rml_value.specs.declared.value.Value.{Value}
use Rattle.rml_value.specs.declared.value.Value.TheVariants as value
use Rattle.rml_value.specs.declared.value.Value.TheVariants.{outs-Text}
use Rattle.rml_builtin.specs.declared.row.Row.{Row}
use Rattle.rml_builtin.specs.declared.row.Row.TheVariants.{IntString}
use Rattle.rml_builtin.specs.declared.applied.Applied.{Applied}
use Rattle.rml_builtin.specs.Applied.{Store, gives_one}
use Rattle.rml_builtin.specs.Arguments.{int_of}
use Rattle.rml_builtin.specs.Decimal.{decimal_of}
use Rattle.rml_builtin.specs.Made.{cells_at, cells_of}
use Rattle.rml_builtin.specs.BuiltIns.{apply}
use Rattle.rml_heap.specs.declared.cell.Cell.{Cell}
use Rattle.rml_heap.specs.declared.heap.Full.{Full}
use Rattle.rml_heap.specs.HeapState.{HeapState, HasRoom}
use Rattle.rml_heap.specs.Form as form
use Rattle.rml_heap.specs.Text.{words_for, text_cells}
use Rattle.rml_heap.specs.Reading.{form_before, Stands, AllStand}
use Rattle.rml_heap.proofs.Callers.{EachByte}
use Rattle.rml_prims.specs.Shapes.{OneInt, block_cell, int_cell}
use Rattle.rml_prims.specs.Taken.{cells_taken}
use Rattle.rml_prims.specs.Found.{CanApply, DoNotFit, Grows, IsMade, Makes}
use Rattle.rml_prims.proofs.PlainCells.{int-value}
use Rattle.rml_prims.proofs.LaidCells.{LaysPlain, text-laid}
use Rattle.rml_prims.proofs.Arguments.{one-given, one-told, one-values}
use Rattle.rml_prims.proofs.Calculations.{one-int}
use Rattle.rml_prims.proofs.PlacedCells.{length-text, text-last, text-stands}

text-takes : (bytes : List ℕ) → sum_by cells_of (value.Text bytes ∷ []) ≡ 1 + words_for (length bytes)
text-takes bytes = ap (λ f. 0 + cells_at f (value.Text bytes)) (outs-Text bytes) ∙ zero-add (1 + words_for (length bytes))

-- a row that is charged for its results
abbrev pub IsCharged : Row → Type 0
IsCharged row = (vs : List Value) → cells_taken row vs ≡ sum_by cells_of vs

pub made-text : (row : Row) (inputs : List Cell) (names : List ℕ) (store : Store) (before after : HeapState) (c : Cell) (bytes : List ℕ) → LaysPlain row → IsCharged row → EachByte bytes → form_before before.values (length before.values) ≢ form.Lvar
    → HasRoom before (1 + words_for (length bytes)) → after ≡ record before { values = before.values ++ text_cells bytes } → c ≡ block_cell (length before.values)
    → IsMade row inputs names store before (gives_one (value.Text bytes) store) after (Ok c)
made-text row inputs names store before after c bytes plain charged each clear room added is =
    let takes : cells_taken row (value.Text bytes ∷ []) ≡ 1 + words_for (length bytes) = charged (value.Text bytes ∷ []) ∙ text-takes bytes in
    let values : after.values ≡ before.values ++ text_cells bytes = ap (λ (s : HeapState). s.values) added in
    let L : List Cell → Type 0 = λ ws. form_before ws (length ws) ≢ form.Lvar in
    let S : List Cell → Type 0 = λ ws. Stands ws names (length ws) (block_cell (length before.values)) (value.Text bytes) in
    let C : Cell → Type 0 = λ d. Stands after.values names (length after.values) d (value.Text bytes) in
    record {
      cells = text_cells bytes;
      laid = text-laid row plain before.values inputs bytes ∙ ap (λ (d : Cell). record { added = text_cells bytes; cells = d ∷ [] }) (sym is);
      taken = length-text bytes ∙ sym takes;
      room = omega (arith, room, takes);
      heap = added;
      last = subst L (sym values) (text-last before.values bytes);
      stays = refl;
      result = (subst C (sym is) (subst S (sym values) (text-stands before.values names bytes clear each)), tt);
    }

pub full-text : (row : Row) (inputs : List Cell) (names : List ℕ) (store : Store) (before after : HeapState) (full : Full) (bytes : List ℕ) → IsCharged row → DoNotFit before (1 + words_for (length bytes)) full → after ≡ before
    → IsMade row inputs names store before (gives_one (value.Text bytes) store) after (Err full)
full-text row inputs names store before after full bytes charged not_fit same =
    let takes : cells_taken row (value.Text bytes ∷ []) ≡ 1 + words_for (length bytes) = charged (value.Text bytes ∷ []) ∙ text-takes bytes in
    let D : ℕ → Type 0 = λ n. DoNotFit before n full in
    (subst D (sym takes) not_fit, same)

-- ---- the decimal of an integer

decimal-gives : (cells : List Cell) (names : List ℕ) (top : ℕ) (store : Store) (values : List Value) (n : ℤ) → AllStand cells names top (int_cell n ∷ []) values → apply IntString values store ≡ gives_one (value.Text (decimal_of n)) store
decimal-gives cells names top store values n stand =
    let told = one-values cells names top (int_cell n) values stand in
    ap (λ ws. apply IntString ws store) told.1 ∙ one-given int_of (λ m. gives_one (value.Text (decimal_of m)) store) told.0 n (int-value cells names top n told.0 told.2)

pub decimal-makes : (before after : HeapState) (n : ℤ) (bytes : List ℕ) (c : Cell) → bytes ≡ decimal_of n → EachByte bytes → HasRoom before (1 + words_for (length bytes))
    → after ≡ record before { values = before.values ++ text_cells bytes } → c ≡ block_cell (length before.values) → Makes IntString before (int_cell n ∷ []) after (Ok c)
decimal-makes before after n bytes c text each room added is names store values binds stand =
    let M : Applied → Type 0 = λ a. IsMade IntString (int_cell n ∷ []) names store before a after (Ok c) in
    let T : List ℕ → Type 0 = λ bs. IsMade IntString (int_cell n ∷ []) names store before (gives_one (value.Text bs) store) after (Ok c) in
    subst M (sym (decimal-gives before.values names (length before.values) store values n stand)) (subst T text (made-text IntString (int_cell n ∷ []) names store before after c bytes (λ cs is v. refl) (λ vs. refl) each binds.last room added is))

pub decimal-full : (before after : HeapState) (n : ℤ) (bytes : List ℕ) (full : Full) → bytes ≡ decimal_of n → DoNotFit before (1 + words_for (length bytes)) full → after ≡ before → Makes IntString before (int_cell n ∷ []) after (Err full)
decimal-full before after n bytes full text not_fit same names store values binds stand =
    let M : Applied → Type 0 = λ a. IsMade IntString (int_cell n ∷ []) names store before a after (Err full) in
    let T : List ℕ → Type 0 = λ bs. IsMade IntString (int_cell n ∷ []) names store before (gives_one (value.Text bs) store) after (Err full) in
    subst M (sym (decimal-gives before.values names (length before.values) store values n stand)) (subst T text (full-text IntString (int_cell n ∷ []) names store before after full bytes (λ vs. refl) not_fit same))

pub decimal-int : (cells inputs : List Cell) → CanApply IntString cells inputs → OneInt inputs
decimal-int cells inputs can = one-int cells can.names inputs can.values can.stand (one-told int_of can.values (λ n. gives_one (value.Text (decimal_of n)) can.store) can.right)

-- ---- as the calls say it

pub decimal-ends : (before after : HeapState) (n : ℤ) (bytes : List ℕ) (result : Result Cell Full) → bytes ≡ decimal_of n → EachByte bytes
    → OnOk result (HasRoom before (1 + words_for (length bytes))) → OnOk result (after ≡ record before { values = before.values ++ text_cells bytes }) → IfOk result (λ c. c ≡ block_cell (length before.values))
    → IfErr result (DoNotFit before (1 + words_for (length bytes))) → OnErr result (after ≡ before) → Makes IntString before (int_cell n ∷ []) after result
decimal-ends before after n bytes (Ok c) text each room added is not_fit same = decimal-makes before after n bytes c text each room added is
decimal-ends before after n bytes (Err full) text each room added is not_fit same = decimal-full before after n bytes full text not_fit same

pub text-grows : (before after : HeapState) (bytes : List ℕ) (result : Result Cell Full) → OnOk result (after ≡ record before { values = before.values ++ text_cells bytes }) → OnErr result (after ≡ before) → Grows before after
text-grows before after bytes (Ok c) added same = record { cells = text_cells bytes; is = added }
text-grows before after bytes (Err full) added same = record { cells = []; is = same ∙ ap (λ (vs : List Cell). record before { values = vs }) (sym (append-nil before.values)) }
