-- What a call leaves, so that it can be made again.
use Rattle.std.proofs.Common.{◌≡◌, ◌≢◌, ℕ, ◌+◌, inl, inr, List, [], ◌∷◌, ◌++◌, Option, Some, None, length, take, refl, sym, ap, subst, ◌∙◌, arith, ◌≤◌, length-append}
use Rattle.std.specs.Prelude.{ℤ, IsTrue, IsSomeAnd, IfSome}
use Rattle.std.proofs.Math.Seq.{take-append_seam, take-length}
use Rattle.rml_value.specs.declared.value.Value.{Value}
use Rattle.rml_value.specs.declared.value.Value.TheVariants as value
use Rattle.rml_value.specs.declared.value.Value.TheVariants.{outs-Text}
use Rattle.rml_value.specs.Lists.{items_of, list_of}
use Rattle.rml_value.proofs.Callers.{items_of-list_of}
use Rattle.rml_builtin.specs.declared.row.Row.{Row}
use Rattle.rml_builtin.specs.declared.row.Row.TheVariants.{IntAdd, IntSub, IntMul, IntDiv, IntMod, IntMax, IntMin, IntLt, IntLe, IntGt, IntGe, IntEq, IntNe, LvarSet, StringAppend, ListVector}
use Rattle.rml_builtin.specs.declared.applied.Applied.{Applied}
use Rattle.rml_builtin.specs.declared.applied.Applied.TheVariants.{Yes, No, Wrong}
use Rattle.rml_builtin.specs.Applied.{Store, gives_one, truth}
use Rattle.rml_builtin.specs.Arguments.{int_of, text_of, text_at}
use Rattle.rml_builtin.specs.BuiltIns.{apply}
use Rattle.rml_builtin.specs.Table.{is_silent, outputs_of}
use Rattle.rml_heap.specs.declared.cell.Cell.{Cell}
use Rattle.rml_heap.specs.HeapState.{HeapState}
use Rattle.rml_heap.specs.Compared.{AreValues}
use Rattle.rml_heap.specs.Reading.{Stands}
use Rattle.rml_prims.specs.declared.run.PrimEnd.{PrimEnd}
use Rattle.rml_prims.specs.declared.run.PrimEnd.TheVariants as prim
use Rattle.rml_prims.specs.Binds.{Binds}
use Rattle.rml_prims.specs.Calculated.{calculated, compared}
use Rattle.rml_prims.specs.Exact.{CanRun, Runs, State, IsExact, cells_kept, entries_kept}
use Rattle.rml_prims.specs.Shapes.{int_cell}
use Rattle.rml_prims.proofs.Arguments.{one-given, two-given}
use Rattle.rml_prims.proofs.Calculations.{calculates, compares, int_or_no}
use Rattle.rml_prims.proofs.PlainCells.{int-is, int-stands}
use Rattle.rml_cell_bench.specs.Held.{CanRepeat, HasStore, Holds, SetsNothing, TakesTwoInts}

-- ---- what is left

-- a row leaves cells with a store
pub store-after : (row : Row) (inputs : List Cell) (names : List ℕ) (before after : State) (a : Applied) (end : PrimEnd) → HasStore before.heap.values → IsExact row inputs names before a after end → HasStore after.heap.values
store-after row inputs names before after (Yes answer text) prim.Done h e = record { names = names ++ e.made; store = answer.store; binds = e.store }
store-after row inputs names before after (Yes answer text) (prim.Full used need) h e = let P : State → Type 0 = λ s. HasStore s.heap.values in subst P (sym e.1) h
store-after row inputs names before after (Yes answer text) prim.No h e = absurd e
store-after row inputs names before after No prim.No h e = let P : State → Type 0 = λ s. HasStore s.heap.values in subst P (sym e) h
store-after row inputs names before after No prim.Done h e = absurd e
store-after row inputs names before after No (prim.Full used need) h e = absurd e
store-after row inputs names before after Wrong end h e = absurd e

same-cells : (row : Row) (inputs cells : List Cell) → SetsNothing row → cells_kept row inputs cells ≡ cells
same-cells LvarSet inputs cells h = absurd h
same-cells _ inputs cells h = refl

same-entries : (row : Row) (inputs : List Cell) (entries : List ℕ) → SetsNothing row → entries_kept row inputs entries ≡ entries
same-entries LvarSet inputs entries h = absurd h
same-entries _ inputs entries h = refl

-- what is left once the cells that were added are taken back
pub record IsBack (before after : State) : Type 0 where
  pub within : length before.heap.values ≤ length after.heap.values
  pub heap : record after.heap { values = take (length before.heap.values) after.heap.values } ≡ before.heap
  pub trail : after.trail ≡ before.trail

back-whole : (cells more kept : List Cell) → kept ≡ cells → take (length cells) (kept ++ more) ≡ cells
back-whole cells more kept same = ap (λ (ks : List Cell). take (length cells) (ks ++ more)) same ∙ take-append_seam cells more

same-back : (before after : State) → after ≡ before → IsBack before after
same-back before after e =
    let P : State → Type 0 = λ s. IsBack before s in
    subst P (sym e) (record { within = omega arith; heap = ap (λ (vs : List Cell). record before.heap { values = vs }) (take-length before.heap.values); trail = refl })

pub is-back : (row : Row) (inputs : List Cell) (names : List ℕ) (before after : State) (a : Applied) (end : PrimEnd) → SetsNothing row → IsExact row inputs names before a after end → IsBack before after
is-back row inputs names before after (Yes answer text) prim.Done h e =
    let kept : cells_kept row inputs before.heap.values ≡ before.heap.values = same-cells row inputs before.heap.values h in
    let values : after.heap.values ≡ before.heap.values ++ e.cells = ap (λ (s : HeapState). s.values) e.heap ∙ ap (λ (ks : List Cell). ks ++ e.cells) kept in
    let long : length after.heap.values ≡ length before.heap.values + length e.cells = ap length values ∙ length-append before.heap.values e.cells in
    record {
      within = omega (arith, long);
      heap = ap (λ (s : HeapState). record s { values = take (length before.heap.values) s.values }) e.heap ∙ ap (λ (vs : List Cell). record before.heap { values = vs }) (back-whole before.heap.values e.cells (cells_kept row inputs before.heap.values) kept);
      trail = e.trail ∙ ap (λ (es : List ℕ). record before.trail { entries = es }) (same-entries row inputs before.trail.entries h);
    }
is-back row inputs names before after (Yes answer text) (prim.Full used need) h e = same-back before after e.1
is-back row inputs names before after (Yes answer text) prim.No h e = absurd e
is-back row inputs names before after No prim.No h e = same-back before after e
is-back row inputs names before after No prim.Done h e = absurd e
is-back row inputs names before after No (prim.Full used need) h e = absurd e
is-back row inputs names before after Wrong end h e = absurd e

-- ---- two integers

no-wrong : (store : Store) (o : Option ℤ) → int_or_no store o ≢ Wrong
no-wrong store None e = cc
no-wrong store (Some i) e = cc

ints-right : (row : Row) (m n : ℤ) (store : Store) → TakesTwoInts row → apply row (value.Int m ∷ value.Int n ∷ []) store ≢ Wrong
ints-right row m n store (inl is) e =
    let same : apply row (value.Int m ∷ value.Int n ∷ []) store ≡ int_or_no store (calculated row m n) =
    calculates row (value.Int m ∷ value.Int n ∷ []) store is ∙ two-given int_of int_of (λ p. int_or_no store (calculated row p.0 p.1)) (value.Int m) (value.Int n) m n (int-is m) (int-is n)
    in
    no-wrong store (calculated row m n) (sym same ∙ e)
ints-right row m n store (inr is) e =
    let same : apply row (value.Int m ∷ value.Int n ∷ []) store ≡ truth (compared row m n) store =
    compares row (value.Int m ∷ value.Int n ∷ []) store is ∙ two-given int_of int_of (λ p. truth (compared row p.0 p.1) store) (value.Int m) (value.Int n) m n (int-is m) (int-is n)
    in
    let wrong : truth (compared row m n) store ≡ Wrong = sym same ∙ e in
    cc

ints-silent : (row : Row) → TakesTwoInts row → IsTrue (is_silent row) × (length (outputs_of row) ≡ 1)
ints-silent IntAdd is = (refl, refl)
ints-silent IntSub is = (refl, refl)
ints-silent IntMul is = (refl, refl)
ints-silent IntDiv is = (refl, refl)
ints-silent IntMod is = (refl, refl)
ints-silent IntMax is = (refl, refl)
ints-silent IntMin is = (refl, refl)
ints-silent IntLt is = (refl, refl)
ints-silent IntLe is = (refl, refl)
ints-silent IntGt is = (refl, refl)
ints-silent IntGe is = (refl, refl)
ints-silent IntEq is = (refl, refl)
ints-silent IntNe is = (refl, refl)
ints-silent _ (inl is) = absurd is
ints-silent _ (inr is) = absurd is

ints-can : (row : Row) (cells outputs : List Cell) (m n : ℤ) → TakesTwoInts row → HasStore cells → length outputs ≡ 1 → CanRun row cells (int_cell m ∷ int_cell n ∷ []) outputs
ints-can row cells outputs m n is h one =
    let told = ints-silent row is in
    record {
      silent = told.0;
      applies = record {
        names = h.names;
        store = h.store;
        values = value.Int m ∷ value.Int n ∷ [];
        binds = h.binds;
        stand = (int-stands cells h.names (length cells) m, (int-stands cells h.names (length cells) n, tt));
        right = ints-right row m n h.store is;
      };
      results = one ∙ sym told.1;
    }

pub any-ints-can : (o : Option Row) (cells outputs : List Cell) (c d : Cell) (m n : ℤ) → c ≡ int_cell m → d ≡ int_cell n → IsSomeAnd o TakesTwoInts → HasStore cells → length outputs ≡ 1 → IsSomeAnd o (λ row. CanRun row cells (c ∷ d ∷ []) outputs)
any-ints-can None cells outputs c d m n first second is h one = is
any-ints-can (Some row) cells outputs c d m n first second is h one =
    let P : Cell → Type 0 = λ x. CanRun row cells (x ∷ d ∷ []) outputs in
    let Q : Cell → Type 0 = λ x. CanRun row cells (int_cell m ∷ x ∷ []) outputs in
    subst P (sym first) (subst Q (sym second) (ints-can row cells outputs m n is h one))

-- what such a row leaves
pub any-store : (o : Option Row) (before after : State) (inputs : List Cell) (end : PrimEnd) → IsSomeAnd o (λ row. CanRun row before.heap.values inputs before.outputs) → IfSome o (λ row. Runs row inputs before after end) → HasStore after.heap.values
any-store None before after inputs end can runs = absurd can
any-store (Some row) before after inputs end can runs =
    let a = can.applies in
    store-after row inputs a.names before after (apply row a.values a.store) end (record { names = a.names; store = a.store; binds = a.binds }) (runs a.names a.store a.values a.binds a.stand)

-- ---- a row that is repeated

pub any-can : (o : Option Row) (cells inputs outputs : List Cell) → IsSomeAnd o (λ row. CanRepeat row cells inputs) → length outputs ≡ 1 → IsSomeAnd o (λ row. CanRun row cells inputs outputs)
any-can None cells inputs outputs h one = h
any-can (Some row) cells inputs outputs h one = h.runs outputs one

pub any-back : (o : Option Row) (before after : State) (inputs : List Cell) (end : PrimEnd) → IsSomeAnd o (λ row. CanRepeat row before.heap.values inputs) → length before.outputs ≡ 1 → IfSome o (λ row. Runs row inputs before after end) → IsBack before after
any-back None before after inputs end h one runs = absurd h
any-back (Some row) before after inputs end h one runs =
    let a = (h.runs before.outputs one).applies in
    is-back row inputs a.names before after (apply row a.values a.store) end h.leaves (runs a.names a.store a.values a.binds a.stand)

-- ---- texts and lists

text-given : (bytes : List ℕ) → text_of (value.Text bytes) ≡ Some bytes
text-given bytes = ap text_at (outs-Text bytes)

pub texts-repeat : (cells inputs : List Cell) (x y : List ℕ) → Holds cells inputs (value.Text x ∷ value.Text y ∷ []) → CanRepeat StringAppend cells inputs
texts-repeat cells inputs x y h =
    let same : apply StringAppend (value.Text x ∷ value.Text y ∷ []) [] ≡ gives_one (value.Text (x ++ y)) [] =
    two-given text_of text_of (λ p. gives_one (value.Text (p.0 ++ p.1)) []) (value.Text x) (value.Text y) x y (text-given x) (text-given y)
    in
    let right : apply StringAppend (value.Text x ∷ value.Text y ∷ []) [] ≢ Wrong = λ e. let wrong : gives_one (value.Text (x ++ y)) [] ≡ Wrong = sym same ∙ e in cc in
    record { leaves = tt; runs = λ outputs one. record { silent = refl; applies = record { names = []; store = []; values = value.Text x ∷ value.Text y ∷ []; binds = h.binds; stand = h.stand; right = right }; results = one } }

pub list-repeat : (cells : List Cell) (c : Cell) (vs : List Value) → Binds cells [] [] → Stands cells [] (length cells) c (list_of vs) → CanRepeat ListVector cells (c ∷ [])
list-repeat cells c vs binds h =
    let same : apply ListVector (list_of vs ∷ []) [] ≡ gives_one (value.Vector vs) [] = one-given items_of (λ items. gives_one (value.Vector items) []) (list_of vs) vs (items_of-list_of vs) in
    let right : apply ListVector (list_of vs ∷ []) [] ≢ Wrong = λ e. let wrong : gives_one (value.Vector vs) [] ≡ Wrong = sym same ∙ e in cc in
    record { leaves = tt; runs = λ outputs one. record { silent = refl; applies = record { names = []; store = []; values = list_of vs ∷ []; binds = binds; stand = (h, tt); right = right }; results = one } }

pub are-values : (cells : List Cell) (a b : Cell) (v w : Value) → Holds cells (a ∷ b ∷ []) (v ∷ w ∷ []) → AreValues cells a b
are-values cells a b v w h = record { names = []; top = length cells; below = length cells; left = v; right = w; left_stands = h.stand.0; right_stands = h.stand.1.0; within = omega arith }
