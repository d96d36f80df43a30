-- A block of cells is added behind the values.
use Rattle.std.proofs.Common.{◌≡◌, ◌≢◌, ℕ, zero, suc, ◌+◌, ◌<◌, ◌≤◌, false, List, [], ◌∷◌, ◌++◌, length, Option, Some, refl, sym, ap, ◌∙◌, subst, arith, length-append, append-nil}
use Rattle.std.specs.Prelude.{slice_get}
use Rattle.std.specs.List.{AllByRecursion}
use Rattle.rml_value.specs.declared.value.Value.{Value}
use Rattle.rml_builtin.specs.Applied.{Store}
use Rattle.rml_heap.specs.declared.cell.Cell.{Cell}
use Rattle.rml_heap.specs.HeapState.{unset_cell}
use Rattle.rml_heap.specs.Form as form
use Rattle.rml_heap.specs.Form.{Form, form_of}
use Rattle.rml_heap.specs.Reading.{cell_at, look, looks, form_before}
use Rattle.rml_heap.proofs.Callers.{before-end, looks-added, unset-form}
use Rattle.rml_trail.proofs.Callers.{future-added, future-same}
use Rattle.rml_prims.specs.Binds.{Binds}
use Rattle.rml_prims.proofs.Callers.{binds-added, lvars-added}
use Rattle.rml_code.specs.declared.state.State.{State}
use Rattle.rml_implements.specs.Given.{NoHeads, is_lvar}
use Rattle.rml_implements.specs.World.{names_at, moment, Later, IsThere, Sound}
use Rattle.rml_implements.proofs.Values.{stands-later}

abbrev pub built : Cell → List Cell → State → State
built head parts t = record t { heap = record t.heap { values = t.heap.values ++ head ∷ parts } }

abbrev pub NoHead : Cell → Type 0
NoHead c = form_of c ≢ form.Lvar

not-lvar : (f : Form) → f ≢ form.Lvar → is_lvar f ≡ false
not-lvar form.Lvar ne = absurd (ne refl)
not-lvar (form.Int n) ne = refl
not-lvar (form.Char n) ne = refl
not-lvar (form.Rel n) ne = refl
not-lvar (form.Block n) ne = refl
not-lvar (form.Con n) ne = refl
not-lvar (form.Text n) ne = refl
not-lvar (form.ConBlock c n) ne = refl
not-lvar (form.Tuple n) ne = refl
not-lvar form.ConsBlock ne = refl
not-lvar form.Unset ne = refl
not-lvar (form.Vector n) ne = refl
not-lvar form.Other ne = refl

no-heads : (cells : List Cell) → AllByRecursion NoHead cells → NoHeads cells
no-heads [] all = tt
no-heads (c ∷ cells) all = (not-lvar (form_of c) all.0, no-heads cells all.1)

entries-more : (n k : ℕ) (es : List ℕ) → n ≤ k → AllByRecursion (λ e. e < n) es → AllByRecursion (λ e. e < k) es
entries-more n k [] le all = tt
entries-more n k (e ∷ es) le all = (let h = all.0 in omega (arith, le, h), entries-more n k es le all.1)

module _ (rels : ℕ) where
  unset-there : IsThere rels unset_cell
  unset-there r e = let both : form.Unset ≡ form.Rel r = sym unset-form ∙ e in absurd (cc)

  all-there : (cells : List Cell) → AllByRecursion (IsThere rels) cells → (at : ℕ) → IsThere rels (cell_at cells at)
  all-there [] all at = unset-there
  all-there (c ∷ cells) all zero = all.0
  all-there (c ∷ cells) all (suc at) = all-there cells all.1 at

  there-append : (cells more : List Cell) → ((at : ℕ) → IsThere rels (cell_at cells at)) → ((at : ℕ) → IsThere rels (cell_at more at)) → (at : ℕ) → IsThere rels (cell_at (cells ++ more) at)
  there-append [] more old new at = new at
  there-append (c ∷ cells) more old new zero = old 0
  there-append (c ∷ cells) more old new (suc at) = there-append cells more (λ k. old (suc k)) new at

  module _ (registers : ℕ) (constants : ℕ → Option Value) (t : State) (store : Store) (head : Cell) (parts : List Cell) (no_head : NoHead head) (no_heads : AllByRecursion NoHead parts) where
    names-built : names_at (built head parts t) ≡ names_at t
    names-built = lvars-added t.heap.values (head ∷ parts) (not-lvar (form_of head) no_head, no-heads parts no_heads)

    pub built-later : Later t (built head parts t)
    built-later = record {
      future = future-added (moment t) (moment t) (head ∷ parts) (future-same (moment t));
      more = [];
      names = names-built ∙ sym (append-nil (names_at t));
      constants = refl;
      limit = refl;
      registers = refl;
    }

    pub built-sound : length t.heap.values + suc (length parts) + length t.heap.frames ≤ t.heap.limit → IsThere rels head → AllByRecursion (IsThere rels) parts → Sound rels registers constants t store → Sound rels registers constants (built head parts t) store
    built-sound room there all h =
        let whole : List Cell = t.heap.values ++ head ∷ parts in
        let long : length whole ≡ length t.heap.values + suc (length parts) = length-append t.heap.values (head ∷ parts) in
        record {
          binds = subst (λ ns. Binds whole ns store) (sym names-built) (binds-added t.heap.values (head ∷ parts) (names_at t) store (before-end t.heap.values head parts no_head no_heads) h.binds);
          entries = entries-more (length t.heap.values) (length whole) t.trail.entries (omega (arith, long)) h.entries;
          few = h.few;
          fits = omega (arith, long, room);
          narrow = h.narrow;
          success = h.success;
          failure = h.failure;
          registers_are = h.registers_are;
          constants_are = λ i u e. stands-later rels t (built head parts t) built-later _ u (h.constants_are i u e);
          there = there-append t.heap.values (head ∷ parts) h.there (all-there (head ∷ parts) (there, all));
        }

-- what is seen of the new cells
pub look-built : (cells added : List Cell) (i : ℕ) (c : Cell) → form_before cells (length cells) ≢ form.Lvar → AllByRecursion NoHead added → slice_get added i ≡ Some c → look (cells ++ added) (length cells + i) ≡ c
look-built cells added i c clear all e = nth (length added) (length cells) i added (looks-added cells added clear all) e
  where
    nth : (n at i : ℕ) (ds : List Cell) → looks (cells ++ added) at n ≡ ds → slice_get ds i ≡ Some c → look (cells ++ added) (at + i) ≡ c
    nth zero at i ds is d = absurd (let z : slice_get [] i ≡ Some c = ap (λ (xs : List Cell). slice_get xs i) is ∙ d in cc)
    nth (suc n) at zero ds is d =
        let here : at + 0 ≡ at = omega arith in
        let z : Some (look (cells ++ added) at) ≡ Some c = ap (λ (xs : List Cell). slice_get xs 0) is ∙ d in
        ap (look (cells ++ added)) here ∙ (cc)
    nth (suc n) at (suc i) ds is d =
        let next : at + suc i ≡ suc at + i = omega arith in
        let z : slice_get (looks (cells ++ added) (suc at) n) i ≡ Some c = ap (λ (xs : List Cell). slice_get xs (suc i)) is ∙ d in
        ap (look (cells ++ added)) next ∙ nth n (suc at) i (looks (cells ++ added) (suc at) n) refl z
