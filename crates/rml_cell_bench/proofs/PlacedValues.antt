-- Texts and lists that are placed among cells without logical variables.
use Rattle.std.proofs.Common.{◌≡◌, ℕ, suc, List, [], ◌∷◌, ◌++◌, length, sym, ap, subst, ◌∙◌, append_assoc}
use Rattle.std.specs.Prelude.{pos}
use Rattle.std.proofs.lemmas.List.{append-nil}
use Rattle.rml_value.specs.declared.value.Value.{Value}
use Rattle.rml_value.specs.declared.value.Value.TheVariants as value
use Rattle.rml_value.specs.declared.value.TheConstants.{NIL}
use Rattle.rml_value.specs.Lists.{list_of}
use Rattle.rml_heap.specs.declared.cell.Cell.{Cell}
use Rattle.rml_heap.specs.HeapState.{HeapState}
use Rattle.rml_heap.specs.Text.{text_cells}
use Rattle.rml_heap.specs.Reading.{Stands}
use Rattle.rml_heap.proofs.Callers.{EachByte, stands-more}
use Rattle.rml_prims.specs.Binds.{Binds}
use Rattle.rml_prims.specs.Found.{Grows}
use Rattle.rml_prims.specs.Shapes.{block_cell, con_cell, cons_head, int_cell}
use Rattle.rml_prims.proofs.Callers.{binds-added}
use Rattle.rml_prims.proofs.PlainCells.{con-stands, int-stands}
use Rattle.rml_prims.proofs.PlacedCells.{cons-last, cons-stands, text-last, text-stands}
use Rattle.rml_prims.proofs.Premises.{binds-nothing}
use Rattle.rml_cell_bench.specs.Held.{Holds, below}

-- ---- two texts

text-binds : (cells : List Cell) (bytes : List ℕ) → Binds cells [] [] → Binds (cells ++ text_cells bytes) [] []
text-binds cells bytes h = binds-added cells (text_cells bytes) [] [] (text-last cells bytes) h

pub texts-hold : (before between after : HeapState) (left right : List ℕ) (a b : Cell) → before.values ≡ [] → EachByte left → EachByte right
    → between ≡ record before { values = before.values ++ text_cells left } → after ≡ record between { values = between.values ++ text_cells right }
    → a ≡ block_cell (length before.values) → b ≡ block_cell (length between.values) → Holds after.values (a ∷ b ∷ []) (value.Text left ∷ value.Text right ∷ [])
texts-hold before between after left right a b empty low high first second a_is b_is =
    let B : List Cell → Type 0 = λ ws. Binds ws [] [] in
    let start : Binds before.values [] [] = subst B (sym empty) binds-nothing in
    let between_is : between.values ≡ before.values ++ text_cells left = ap (λ (s : HeapState). s.values) first in
    let after_is : after.values ≡ between.values ++ text_cells right = ap (λ (s : HeapState). s.values) second in
    let middle : Binds between.values [] [] = subst B (sym between_is) (text-binds before.values left start) in
    let L : List Cell → Type 0 = λ ws. Stands ws [] (length ws) (block_cell (length before.values)) (value.Text left) in
    let one : Stands between.values [] (length between.values) (block_cell (length before.values)) (value.Text left) = subst L (sym between_is) (text-stands before.values [] left start.last low) in
    let both : Stands after.values [] (length after.values) (block_cell (length before.values)) (value.Text left) = subst L (sym after_is) (stands-more between.values (text_cells right) [] (block_cell (length before.values)) (value.Text left) one) in
    let R : List Cell → Type 0 = λ ws. Stands ws [] (length ws) (block_cell (length between.values)) (value.Text right) in
    let other : Stands after.values [] (length after.values) (block_cell (length between.values)) (value.Text right) = subst R (sym after_is) (text-stands between.values [] right middle.last high) in
    let A : Cell → Type 0 = λ c. Stands after.values [] (length after.values) c (value.Text left) in
    let C : Cell → Type 0 = λ c. Stands after.values [] (length after.values) c (value.Text right) in
    record { binds = subst B (sym after_is) (text-binds between.values right middle); stand = (subst A (sym a_is) both, (subst C (sym b_is) other, tt)) }

-- ---- a list

pub record Listed (old now : HeapState) (n : ℕ) (list : Cell) : Type 0 where
  pub grows : Grows old now
  pub binds : Binds now.values [] []
  pub stands : Stands now.values [] (length now.values) list (list_of (below n))

pub listed-start : (old : HeapState) (list : Cell) → Binds old.values [] [] → list ≡ con_cell NIL → Listed old old 0 list
listed-start old list binds is =
    let C : Cell → Type 0 = λ c. Stands old.values [] (length old.values) c (value.Con NIL []) in
    record {
      grows = record { cells = []; is = ap (λ (vs : List Cell). record old { values = vs }) (sym (append-nil old.values)) };
      binds = binds;
      stands = subst C (sym is) (con-stands old.values [] (length old.values) NIL);
    }

pub listed-step : (old now after : HeapState) (i : ℕ) (list item next : Cell) → Listed old now i list → item ≡ int_cell (pos i)
    → after ≡ record now { values = now.values ++ cons_head ∷ item ∷ list ∷ [] } → next ≡ block_cell (length now.values) → Listed old after (suc i) next
listed-step old now after i list item next h item_is added next_is =
    let cells : List Cell = cons_head ∷ item ∷ list ∷ [] in
    let values : after.values ≡ now.values ++ cells = ap (λ (s : HeapState). s.values) added in
    let I : Cell → Type 0 = λ c. Stands now.values [] (length now.values) c (value.Int (pos i)) in
    let item_stands : Stands now.values [] (length now.values) item (value.Int (pos i)) = subst I (sym item_is) (int-stands now.values [] (length now.values) (pos i)) in
    let B : List Cell → Type 0 = λ ws. Binds ws [] [] in
    let S : List Cell → Type 0 = λ ws. Stands ws [] (length ws) (block_cell (length now.values)) (list_of (below (suc i))) in
    let C : Cell → Type 0 = λ c. Stands after.values [] (length after.values) c (list_of (below (suc i))) in
    record {
      grows = record {
        cells = h.grows.cells ++ cells;
        is = added ∙ ap (λ (s : HeapState). record s { values = s.values ++ cells }) h.grows.is ∙ ap (λ (vs : List Cell). record old { values = vs }) (append_assoc old.values h.grows.cells cells);
      };
      binds = subst B (sym values) (binds-added now.values cells [] [] (cons-last now.values [] item list (value.Int (pos i)) (list_of (below i)) item_stands h.stands) h.binds);
      stands = subst C (sym next_is) (subst S (sym values) (cons-stands now.values [] item list (value.Int (pos i)) (list_of (below i)) h.binds.last item_stands h.stands));
    }

-- a list still stands once more cells were added
pub list-stays : (before after : HeapState) (c : Cell) (v : Value) → Grows before after → Stands before.values [] (length before.values) c v → Stands after.values [] (length after.values) c v
list-stays before after c v g h =
    let S : List Cell → Type 0 = λ ws. Stands ws [] (length ws) c v in
    subst S (sym (ap (λ (s : HeapState). s.values) g.is)) (stands-more before.values g.cells [] c v h)

-- a heap that was just begun
pub no-lvars : (cells : List Cell) → cells ≡ [] → Binds cells [] []
no-lvars cells is = let P : List Cell → Type 0 = λ ws. Binds ws [] [] in subst P (sym is) binds-nothing
