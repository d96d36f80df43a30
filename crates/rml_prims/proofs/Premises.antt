-- Cells on which a row can be run.
use Rattle.std.proofs.Common.{◌≡◌, ◌≢◌, ℕ, List, [], ◌∷◌, Option, Some, None, refl, sym, ap, ◌∙◌, ℤ}
use Rattle.std.specs.Prelude.{◌+ℤ◌}
use Rattle.rml_value.specs.declared.value.Value.TheVariants as value
use Rattle.rml_value.specs.declared.value.Value.TheVariants.{outs-Cell}
use Rattle.rml_builtin.specs.declared.row.Row.TheVariants.{IntAdd, LvarNew, LvarSet}
use Rattle.rml_builtin.specs.declared.applied.Applied.TheVariants.{Wrong}
use Rattle.rml_builtin.specs.Applied.{Store}
use Rattle.rml_builtin.specs.Arguments.{cell_at as entry_at, cell_of as entry_of, int_of}
use Rattle.rml_builtin.specs.Decimal.{integer_of}
use Rattle.rml_builtin.specs.Lvars.{set_entry, set_lvar}
use Rattle.rml_builtin.specs.BuiltIns.{apply}
use Rattle.rml_heap.specs.declared.cell.Cell.{Cell}
use Rattle.rml_heap.specs.HeapState.{lvar_head, unset_cell}
use Rattle.rml_prims.specs.Binds.{Binds}
use Rattle.rml_prims.specs.Shapes.{block_cell, int_cell}
use Rattle.rml_prims.specs.Exact.{CanRun}
use Rattle.rml_prims.proofs.PlainCells.{int-is, int-stands}
use Rattle.rml_prims.proofs.Arguments.{two-given}
use Rattle.rml_prims.proofs.Calculations.{calculates, int_or_no}
use Rattle.rml_prims.proofs.Bindings.{binds-new}
use Rattle.rml_prims.proofs.VariableRows.{variable-stands}
use Rattle.rml_prims.specs.Calculated.{calculated}

pub binds-nothing : Binds [] [] []
binds-nothing =
    record {
      long = refl;
      lvars = λ k at h. absurd (cc);
      apart = λ j k at h i. absurd (cc);
      holds = λ k at entry h i. absurd (cc);
      last = λ e. cc;
    }

no-wrong : (store : Store) (o : Option ℤ) → int_or_no store o ≢ Wrong
no-wrong store None e = cc
no-wrong store (Some i) e = cc

pub sum-can : (m n : ℤ) (c : Cell) → CanRun IntAdd [] (int_cell m ∷ int_cell n ∷ []) (c ∷ [])
sum-can m n c =
    let same : apply IntAdd (value.Int m ∷ value.Int n ∷ []) [] ≡ int_or_no [] (integer_of (m +ℤ n)) =
    calculates IntAdd (value.Int m ∷ value.Int n ∷ []) [] tt ∙ two-given int_of int_of (λ p. int_or_no [] (calculated IntAdd p.0 p.1)) (value.Int m) (value.Int n) m n (int-is m) (int-is n)
    in
    record {
      silent = refl;
      applies = record { names = []; store = []; values = value.Int m ∷ value.Int n ∷ []; binds = binds-nothing; stand = (int-stands [] [] 0 m, (int-stands [] [] 0 n, tt)); right = λ e. no-wrong [] (integer_of (m +ℤ n)) (sym same ∙ e) };
      results = refl;
    }

pub made-can : (c : Cell) → CanRun LvarNew [] [] (c ∷ [])
made-can c = record { silent = refl; applies = record { names = []; store = []; values = []; binds = binds-nothing; stand = tt; right = λ e. cc }; results = refl }

pub set-can : (n : ℤ) → CanRun LvarSet (lvar_head ∷ unset_cell ∷ []) (block_cell 0 ∷ int_cell n ∷ []) []
set-can n =
    let cells : List Cell = lvar_head ∷ unset_cell ∷ [] in
    let names : List ℕ = 0 ∷ [] in
    let store : Store = None ∷ [] in
    let binds : Binds cells names store = binds-new [] [] [] binds-nothing in
    let entry : entry_of (value.Cell 0) ≡ Some 0 = ap entry_at (outs-Cell 0) in
    let same : apply LvarSet (value.Cell 0 ∷ value.Int n ∷ []) store ≡ set_entry None 0 (value.Int n) store =
    two-given entry_of Some (λ p. set_lvar p.0 p.1 store) (value.Cell 0) (value.Int n) 0 (value.Int n) entry refl
    in
    record {
      silent = refl;
      applies = record { names = names; store = store; values = value.Cell 0 ∷ value.Int n ∷ []; binds = binds; stand = (variable-stands cells names 0 0 (binds.lvars 0 0 refl) refl, (int-stands cells names 2 n, tt)); right = λ e. set-right n (sym same ∙ e) };
      results = refl;
    }
  where
    set-right : (n : ℤ) → set_entry None 0 (value.Int n) (None ∷ []) ≢ Wrong
    set-right n e = cc
