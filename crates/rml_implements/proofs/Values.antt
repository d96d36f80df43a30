-- What stands for a value stands for it later too, and the parts that places lead to are there.
use Rattle.std.proofs.Common.{◌≡◌, ◌≢◌, ℕ, suc, ◌+◌, ◌<◌, ◌≤◌, true, List, [], ◌∷◌, ◌++◌, length, Some, None, refl, sym, ap, ◌∙◌, subst, arith, inl, inr, append_assoc, append-nil}
use Rattle.std.specs.Prelude.{if◌then◌else◌, ◌&&◌, nat_le, slice_get}
use Rattle.std.proofs.lemmas.Bool.{le-leb}
use Rattle.std.proofs.lemmas.Option.{slice_get-get_or}
use Rattle.rml_value.specs.declared.value.Value.{Value}
use Rattle.rml_heap.specs.declared.cell.Cell.{Cell}
use Rattle.rml_heap.specs.HeapState.{unset_cell}
use Rattle.rml_heap.specs.Form as form
use Rattle.rml_heap.specs.Form.{Form, form_of}
use Rattle.rml_heap.specs.Reading.{cell_at, look, value_below}
use Rattle.rml_heap.specs.Agrees.{Agrees}
use Rattle.rml_heap.proofs.Callers.{agrees-names, below-agrees, below-higher, below-none, unset-form, look-is}
use Rattle.rml_trail.proofs.Callers.{future-longer, future-same, future-then}
use Rattle.rml_code.specs.declared.state.State.{State}
use Rattle.rml_code.specs.Frames.{register}
use Rattle.rml_code.specs.Effects.{parts_in, part_at, part_of}
use Rattle.rml_implements.specs.World.{names_at, moment, Later, StandsFor, Leads, Args}

pub later-same : (s : State) → Later s s
later-same s = record { future = future-same (moment s); more = []; names = sym (append-nil (names_at s)); constants = refl; limit = refl; registers = refl }

pub later-then : (s t u : State) → Later s t → Later t u → Later s u
later-then s t u h k = record {
  future = future-then (moment s) (moment t) (moment u) h.future k.future;
  more = h.more ++ k.more;
  names = k.names ∙ ap (λ ns. ns ++ k.more) h.names ∙ append_assoc (names_at s) h.more k.more;
  constants = k.constants ∙ h.constants;
  limit = k.limit ∙ h.limit;
  registers = k.registers ∙ h.registers;
}

pub later-longer : (s t : State) → Later s t → length s.heap.values ≤ length t.heap.values
later-longer s t h = future-longer (moment s) (moment t) h.future

module _ (rels : ℕ) where
  pub stands-later : (s t : State) → Later s t → (c : Cell) (v : Value) → StandsFor rels s c v → StandsFor rels t c v
  stands-later s t h c v e =
      let top : ℕ = length s.heap.values in
      let old : List ℕ = names_at s in
      let agrees : Agrees top s.heap.values old t.heap.values old = record { cells = λ at below. inr (h.future.looks at below); names = λ at k below found. found } in
      let there : value_below e.stands.0 t.heap.values old top c ≡ Some v = below-agrees e.stands.0 s.heap.values old t.heap.values old top agrees c v e.stands.1 in
      let named : value_below e.stands.0 t.heap.values (old ++ h.more) top c ≡ Some v =
      below-agrees e.stands.0 t.heap.values old t.heap.values (old ++ h.more) top (agrees-names top t.heap.values old h.more) c v there
      in
      let N : List ℕ → Type 0 = λ ns. value_below e.stands.0 t.heap.values ns (length t.heap.values) c ≡ Some v in
      record {
        stands = (e.stands.0, subst N (sym h.names) (below-higher e.stands.0 t.heap.values (old ++ h.more) top (length t.heap.values) c v (later-longer s t h) named));
        there = e.there;
      }

  pub leads-later : (s t : State) → Later s t → (v : Value) (path : List ℕ) (c : Cell) → Leads rels s v path c → Leads rels t v path c
  leads-later s t h v [] c e = stands-later s t h c v e
  leads-later s t h v (i ∷ path) c e =
      let inside : e.0 + i < length s.heap.values = e.2.inside in
      let head : e.0 < length s.heap.values = omega (arith, inside) in
      let longer : length s.heap.values ≤ length t.heap.values = later-longer s t h in
      let P : Cell → Type 0 = λ d. i ≤ parts_in (form_of d) in
      let Q : Cell → Type 0 = λ d. Leads rels t v path d in (
        e.0,
        e.1,
        record { first = e.2.first; last = subst P (sym (h.future.looks e.0 head)) e.2.last; inside = omega (arith, inside, longer) },
        subst Q (sym (h.future.looks (e.0 + i) inside)) (leads-later s t h v path (look s.heap.values (e.0 + i)) e.3),
      )

  pub args-later : (s t : State) → Later s t → ((j : ℕ) → register t j ≡ register s j) → (j : ℕ) (vs : List Value) → Args rels s j vs → Args rels t j vs
  args-later s t h same j [] e = tt
  args-later s t h same j (v ∷ vs) e =
      let P : Cell → Type 0 = λ c. StandsFor rels t c v in
      (subst P (sym (same j)) (stands-later s t h (register s j) v e.0), args-later s t h same (suc j) vs e.1)

  -- what leads to a value is not unset
  pub leads-seen : (t : State) (v : Value) (path : List ℕ) (c : Cell) → Leads rels t v path c → c ≢ unset_cell
  leads-seen t v [] c e is =
      let P : Cell → Type 0 = λ d. value_below e.stands.0 t.heap.values (names_at t) (length t.heap.values) d ≡ Some v in
      let there : value_below e.stands.0 t.heap.values (names_at t) (length t.heap.values) unset_cell ≡ Some v = subst P is e.stands.1 in
      let none : value_below e.stands.0 t.heap.values (names_at t) (length t.heap.values) unset_cell ≡ None = below-none e.stands.0 t.heap.values (names_at t) (length t.heap.values) in
      absurd (cc)
  leads-seen t v (i ∷ path) c e is = let both : form.Unset ≡ form.Block e.0 = sym unset-form ∙ ap form_of (sym is) ∙ e.1 in absurd (cc)

  look-there : (cells : List Cell) (at : ℕ) → look cells at ≢ unset_cell → look cells at ≡ cell_at cells at
  look-there cells at seen =
      elim (look-is cells at) [
        | inl hidden ↦ absurd (seen hidden)
        | inr shown ↦ shown
      ]

  -- a head of a block with parts is seen
  head-there : (cells : List Cell) (at i : ℕ) → 1 ≤ i → i ≤ parts_in (form_of (look cells at)) → look cells at ≡ cell_at cells at
  head-there cells at i first last =
      elim (look-is cells at) [
        | inl hidden ↦
            let P : Form → Type 0 = λ f. i ≤ parts_in f in
            let none : i ≤ 0 = subst P (ap form_of hidden ∙ unset-form) last in
            absurd (omega (arith, none, first))
        | inr shown ↦ shown
      ]

  part-tests : (cells : List Cell) (at i : ℕ) → 1 ≤ i → i ≤ parts_in (form_of (cell_at cells at)) → part_at cells i (form.Block at) ≡ slice_get cells (at + i)
  part-tests cells at i first last =
      let one : nat_le 1 i ≡ true = le-leb 1 i first in
      let two : nat_le i (parts_in (form_of (cell_at cells at))) ≡ true = le-leb i (parts_in (form_of (cell_at cells at))) last in
      let both : (nat_le 1 i && nat_le i (parts_in (form_of (cell_at cells at)))) ≡ true = ap (λ b. b && nat_le i (parts_in (form_of (cell_at cells at)))) one ∙ two in
      ap (λ b. if b then slice_get cells (at + i) else None) both

  -- the part is found
  pub part-there : (t : State) (v : Value) (i : ℕ) (path : List ℕ) (c : Cell) → (e : Leads rels t v (i ∷ path) c) → part_of t.heap.values i c ≡ Some (look t.heap.values (e.0 + i))
  part-there t v i path c e =
      let cells : List Cell = t.heap.values in
      let head : look cells e.0 ≡ cell_at cells e.0 = head-there cells e.0 i e.2.first e.2.last in
      let P : Cell → Type 0 = λ d. i ≤ parts_in (form_of d) in
      let part : look cells (e.0 + i) ≡ cell_at cells (e.0 + i) = look-there cells (e.0 + i) (leads-seen t v path (look cells (e.0 + i)) e.3) in
      ap (part_at cells i) e.1 ∙ part-tests cells e.0 i e.2.first (subst P head e.2.last) ∙ slice_get-get_or cells (e.0 + i) unset_cell e.2.inside ∙ ap Some (sym part)
