-- The rows whose result is a text that is packed from what stands in cells.
use Rattle.std.proofs.Common.{◌≡◌, ◌≢◌, ℕ, zero, suc, ◌<◌, List, [], ◌∷◌, ◌++◌, Option, Some, None, Ok, Err, map, length, get_or, refl, sym, ap, subst, ◌∙◌, arith}
use Rattle.std.specs.Prelude.{Result}
use Rattle.std.specs.Option.{option_and_then}
use Rattle.std.proofs.lemmas.List.{append-nil}
use Rattle.rml_value.specs.declared.value.Value.{Value}
use Rattle.rml_value.specs.declared.value.Value.TheVariants as value
use Rattle.rml_value.specs.Lists.{items_of, list_of}
use Rattle.rml_value.proofs.Callers.{items_of-list_of, list_of-items}
use Rattle.rml_builtin.specs.declared.row.Row.{Row}
use Rattle.rml_builtin.specs.declared.row.Row.TheVariants.{ListString, StringAppend}
use Rattle.rml_builtin.specs.declared.applied.Applied.{Applied}
use Rattle.rml_builtin.specs.Applied.{Store, gives_one}
use Rattle.rml_builtin.specs.Arguments.{char_of, chars_in, chars_of, text_of as bytes_in, with_char}
use Rattle.rml_builtin.specs.BuiltIns.{apply}
use Rattle.rml_heap.specs.declared.cell.Cell.{Cell}
use Rattle.rml_heap.specs.declared.heap.Full.{Full}
use Rattle.rml_heap.specs.HeapState.{HeapState}
use Rattle.rml_heap.specs.Form as form
use Rattle.rml_heap.specs.Text.{text_cells}
use Rattle.rml_heap.specs.Reading.{form_before, Stands, AllStand}
use Rattle.rml_heap.proofs.Callers.{EachByte, then-some}
use Rattle.rml_prims.specs.Shapes.{AreChars, IsList, IsText, OneSpelling, TwoTexts, char_cell}
use Rattle.rml_prims.specs.Found.{CanApply, Grows, IsMade, IsPlaced, Makes}
use Rattle.rml_prims.proofs.PlainCells.{char-cell, char-low, char-value}
use Rattle.rml_prims.proofs.Arguments.{One, Two, one-cells, one-given, one-told, one-values, two-cells, two-given, two-told, two-values}
use Rattle.rml_prims.proofs.LaidCells.{LaysPlain}
use Rattle.rml_prims.proofs.ListCells.{ListRead, is-list, list-read}
use Rattle.rml_prims.proofs.MadeTexts.{IsCharged, full-text, made-text}
use Rattle.rml_prims.proofs.PackedTexts.{chars-list}
use Rattle.rml_prims.proofs.TextCells.{any-text, append-each, is-text, text-bytes}

-- ---- a text that was placed, if it fits

placed-makes : (row : Row) (inputs : List Cell) (names : List ℕ) (store : Store) (before after : HeapState) (bytes : List ℕ) (result : Result Cell Full) → LaysPlain row → IsCharged row → EachByte bytes → form_before before.values (length before.values) ≢ form.Lvar
    → IsPlaced bytes before after result → IsMade row inputs names store before (gives_one (value.Text bytes) store) after result
placed-makes row inputs names store before after bytes (Ok c) plain charged each clear h = made-text row inputs names store before after c bytes plain charged each clear h.0 h.1 h.2
placed-makes row inputs names store before after bytes (Err full) plain charged each clear h = full-text row inputs names store before after full bytes charged h.0 h.1

pub placed-grows : (before after : HeapState) (bytes : List ℕ) (result : Result Cell Full) → IsPlaced bytes before after result → Grows before after
placed-grows before after bytes (Ok c) h = record { cells = text_cells bytes; is = h.1 }
placed-grows before after bytes (Err full) h = record { cells = []; is = h.1 ∙ ap (λ (vs : List Cell). record before { values = vs }) (sym (append-nil before.values)) }

-- ---- one text and then another

pub two-texts : (cells inputs : List Cell) → CanApply StringAppend cells inputs → TwoTexts cells inputs
two-texts cells inputs can =
    let given : Two bytes_in bytes_in can.values = two-told bytes_in bytes_in can.values (λ p. gives_one (value.Text (p.0 ++ p.1)) can.store) can.right in
    let P : List Value → Type 0 = λ ws. AllStand cells can.names (length cells) inputs ws in
    let told = two-cells cells can.names (length cells) inputs given.v given.w (subst P given.is can.stand) in
    let first = is-text cells can.names told.0 given.v given.x given.first told.3 in
    let second = is-text cells can.names told.1 given.w given.y given.second told.4 in
    record { at = first.0; size = first.1; bytes = first.2; c = told.0; more_at = second.0; more_size = second.1; more_bytes = second.2; d = told.1; is = told.2; text = first.3; more = second.3 }

pub joined-makes : (before after : HeapState) (c d : Cell) (at size m n : ℕ) (left right : List ℕ) (result : Result Cell Full) → IsText before.values c at size left → IsText before.values d m n right
    → IsPlaced (left ++ right) before after result → Makes StringAppend before (c ∷ d ∷ []) after result
joined-makes before after c d at size m n left right result first second placed names store values binds stand =
    let cells : List Cell = before.values in
    let told = two-values cells names (length cells) c d values stand in
    let first_is : told.0 ≡ value.Text left = any-text cells names c at size left told.0 first told.3 in
    let second_is : told.1 ≡ value.Text right = any-text cells names d m n right told.1 second told.4 in
    let same : apply StringAppend values store ≡ gives_one (value.Text (left ++ right)) store =
    ap (λ ws. apply StringAppend ws store) told.2
    ∙ two-given bytes_in bytes_in (λ p. gives_one (value.Text (p.0 ++ p.1)) store) told.0 told.1 left right (text-bytes told.0 left first_is) (text-bytes told.1 right second_is)
    in
    let M : Applied → Type 0 = λ a. IsMade StringAppend (c ∷ d ∷ []) names store before a after result in
    subst M (sym same) (placed-makes StringAppend (c ∷ d ∷ []) names store before after (left ++ right) result (λ cs is v. refl) (λ vs. refl) (append-each left right first.each second.each) binds.last placed)

-- ---- the text of a list of characters

-- what the items of a list of characters are
record CharItems (items : List Cell) (bytes : List ℕ) : Type 0 where
  are : items ≡ map char_cell bytes
  each : EachByte bytes

with-char : (o : Option ℕ) (p : Option (List ℕ)) (bytes : List ℕ) → with_char o p ≡ Some bytes → (b : ℕ) × (bs : List ℕ) × (o ≡ Some b) × (p ≡ Some bs) × (bytes ≡ b ∷ bs)
with-char None p bytes h = absurd (cc)
with-char (Some b) None bytes h = absurd (cc)
with-char (Some b) (Some bs) bytes h = (b, bs, refl, refl, cc)

char-items : (cells : List Cell) (names : List ℕ) (top : ℕ) (items : List Cell) (vs : List Value) (bytes : List ℕ) → AllStand cells names top items vs → chars_in vs ≡ Some bytes → CharItems items bytes
char-items cells names top [] [] bytes stand is = let none : bytes ≡ [] = cc in record { are = ap (map char_cell) (sym none); each = λ i. let e : get_or bytes i 0 ≡ 0 = ap (λ bs. get_or bs i 0) none in omega (arith, e) }
char-items cells names top [] (v ∷ vs) bytes stand is = absurd stand
char-items cells names top (c ∷ items) [] bytes stand is = absurd stand
char-items cells names top (c ∷ items) (v ∷ vs) bytes stand is =
    let told = with-char (char_of v) (chars_in vs) bytes is in
    let rest : CharItems items told.1 = char-items cells names top items vs told.1 stand.1 told.3 in
    let first : c ≡ char_cell told.0 = char-cell cells names top c v told.0 told.2 stand.0 in
    let S : Cell → Type 0 = λ d. Stands cells names top d v in
    let low : told.0 < 256 = char-low cells names top told.0 v (subst S first stand.0) in
    record {
      are = ap (λ (d : Cell). d ∷ items) first ∙ ap (λ ds. char_cell told.0 ∷ ds) rest.are ∙ ap (map char_cell) (sym told.4);
      each = λ i. first-or-rest bytes told.0 told.1 told.4 low rest.each i;
    }
  where
    first-or-rest : (bytes : List ℕ) (b : ℕ) (bs : List ℕ) → bytes ≡ b ∷ bs → b < 256 → EachByte bs → EachByte bytes
    first-or-rest bytes b bs is low each i = let E : List ℕ → Type 0 = EachByte in subst E (sym is) (on each) i
      where
        on : EachByte bs → EachByte (b ∷ bs)
        on each zero = low
        on each (suc i) = each i

pub one-spelling : (cells inputs : List Cell) → CanApply ListString cells inputs → OneSpelling cells inputs
one-spelling cells inputs can =
    let one : One chars_of can.values = one-told chars_of can.values (λ cs. gives_one (value.Text cs) can.store) can.right in
    let P : List Value → Type 0 = λ ws. AllStand cells can.names (length cells) inputs ws in
    let told = one-cells cells can.names (length cells) inputs one.v (subst P one.is can.stand) in
    let items = then-some chars_in (items_of one.v) one.x one.first in
    let v_is : one.v ≡ list_of items.0 = list_of-items one.v items.0 items.1 in
    let V : Value → Type 0 = λ v. Stands cells can.names (length cells) told.0 v in
    let list = is-list cells can.names (length cells) told.0 items.0 (subst V v_is told.2) in
    let read : ListRead cells can.names (length cells) list.0 one.v = list-read cells can.names (length cells) told.0 list.0 one.v list.1 told.2 in
    let same : Some items.0 ≡ Some read.values = sym items.1 ∙ ap items_of read.is ∙ items_of-list_of read.values in
    let values : items.0 ≡ read.values = cc in
    let chars : CharItems list.0 one.x = char-items cells can.names (length cells) list.0 read.values one.x read.stand (ap chars_in (sym values) ∙ items.2) in
    let L : List Cell → Type 0 = λ is. IsList cells (length cells) told.0 is in
    record { c = told.0; is = told.1; bytes = one.x; chars = record { top = length cells; within = omega arith; list = subst L chars.are list.1; each = chars.each } }

chars-read : (cells : List Cell) (names : List ℕ) (top : ℕ) (bytes : List ℕ) (vs : List Value) → AllStand cells names top (map char_cell bytes) vs → chars_in vs ≡ Some bytes
chars-read cells names top [] [] h = refl
chars-read cells names top [] (v ∷ vs) h = absurd h
chars-read cells names top (b ∷ bs) [] h = absurd h
chars-read cells names top (b ∷ bs) (v ∷ vs) h = ap (λ o. with_char o (chars_in vs)) (char-value cells names top b v h.0) ∙ ap (with_char (Some b)) (chars-read cells names top bs vs h.1)

pub chars-makes : (before after : HeapState) (c : Cell) (bytes : List ℕ) (result : Result Cell Full) → AreChars before.values c bytes → IsPlaced bytes before after result → Makes ListString before (c ∷ []) after result
chars-makes before after c bytes result chars placed names store values binds stand =
    let cells : List Cell = before.values in
    let told = one-values cells names (length cells) c values stand in
    let read : ListRead cells names (length cells) (map char_cell bytes) told.0 = list-read cells names (length cells) c (map char_cell bytes) told.0 (chars-list cells c bytes chars) told.2 in
    let spelled : chars_of told.0 ≡ Some bytes = ap (option_and_then chars_in) (ap items_of read.is ∙ items_of-list_of read.values) ∙ chars-read cells names (length cells) bytes read.values read.stand in
    let same : apply ListString values store ≡ gives_one (value.Text bytes) store =
    ap (λ ws. apply ListString ws store) told.1 ∙ one-given chars_of (λ cs. gives_one (value.Text cs) store) told.0 bytes spelled
    in
    let M : Applied → Type 0 = λ a. IsMade ListString (c ∷ []) names store before a after result in
    subst M (sym same) (placed-makes ListString (c ∷ []) names store before after bytes result (λ cs is v. refl) (λ vs. refl) chars.each binds.last placed)
