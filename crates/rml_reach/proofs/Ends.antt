-- The search for components before its first step, and after its last.
use Rattle.std.proofs.Common.{◌≡◌, ◌≢◌, ℕ, ◌<◌, List, [], length, refl, sym, ap, ◌∙◌, arith, inl, inr, subst, None, map}
use Rattle.std.specs.Prelude.{replicate, slice_index}
use Rattle.std.proofs.Math.ListN.{get_or-map}
use Rattle.std.proofs.lemmas.List.{get_or-replicate, get_or_past, length-replicate}
use Rattle.rml_reach.specs.Components.{AllDone, IsDone, IsSettled, IsWay, Way, mark_of, number_of, way}
use Rattle.rml_reach.specs.Paths.{AreConnected}
use Rattle.rml_reach.specs.declared.connected.Mark.{Mark}
use Rattle.rml_reach.specs.declared.connected.Mark.TheVariants as mark
use Rattle.rml_reach.proofs.Along.{joined}
use Rattle.rml_reach.proofs.Ways.{below-or-not}

all-new : (n i : ℕ) → mark_of (replicate n mark.New) i ≡ mark.New
all-new n i = elim (below-or-not i n) [
  | inl lt ↦ get_or-replicate n i mark.New mark.New lt
  | inr le ↦ get_or_past (replicate n mark.New) i mark.New (omega (arith, length-replicate n mark.New))
]

pub begins-way : (edges : List (List ℕ)) → IsWay edges (way (replicate (length edges) mark.New) [] [] []) None
begins-way edges = record {
  count = length-replicate (length edges) mark.New;
  within = λ m c. absurd (omega (arith, c.1));
  laid = record { opened = λ k lt. absurd (omega arith); placed = λ n k is. absurd (let e = all-new (length edges) n in cc (e, is)) };
  parted = record { starts = λ b lt. absurd (omega arith); rising = λ b c lt below. absurd (omega arith); first = refl; none = λ e. refl };
  leads = record { down = λ j k le lt. absurd (omega arith); up = λ j k le lt t. absurd (omega arith); away = λ b p lt from below. absurd (omega arith) };
  settled = record {
    closed = λ n m d e. absurd (let e' = all-new (length edges) n in let is = d.1 in cc (e', is));
    chosen = λ n c is. absurd (let e = all-new (length edges) n in cc (e, is));
    one = λ n m c d is is' both. absurd (let e = all-new (length edges) n in cc (e, is));
  };
  met = λ b k m lt from below e. absurd (omega arith);
}

module _ (edges : List (List ℕ)) (w : Way) (i : IsWay edges w None) where
  done-by : (m : Mark) (n : ℕ) → length w.parts ≡ 0 → mark_of w.marks n ≡ m → m ≢ mark.New → IsDone w.marks n
  done-by mark.New n empty is new = absurd (new refl)
  done-by (mark.Open k) n empty is new = absurd (let p = (i.laid.placed n k is).0 in let z = i.parted.none empty in omega arith)
  done-by (mark.Done c) n empty is new = (c, is)

  -- where the way is empty, what is not new is done with
  pub done-at : (n : ℕ) → length w.parts ≡ 0 → mark_of w.marks n ≢ mark.New → IsDone w.marks n
  done-at n empty new = done-by (mark_of w.marks n) n empty refl new

module _ (edges : List (List ℕ)) (marks : List Mark) (s : IsSettled edges marks) (done : AllDone marks (length edges)) where
  number-is : (n : ℕ) (lt : n < length edges) → slice_index (map number_of marks) n ≡ (done n lt).0
  number-is n lt = get_or-map number_of marks n mark.New ∙ ap number_of (done n lt).1

  pub chosen-for : (n : ℕ) → n < length edges → AreConnected edges n (slice_index (map number_of marks) n)
  chosen-for n lt = subst (AreConnected edges n) (sym (number-is n lt)) (s.chosen n (done n lt).0 (done n lt).1)

  pub same-number : (n m : ℕ) → n < length edges → m < length edges → slice_index (map number_of marks) n ≡ slice_index (map number_of marks) m → AreConnected edges n m
  same-number n m lt lt' e =
      let c = slice_index (map number_of marks) n in
      let a = chosen-for n lt in
      let b : AreConnected edges m c = subst (AreConnected edges m) (sym e) (chosen-for m lt') in
      record { there = joined n c m a.there b.back; back = joined m c n b.there a.back }

  pub connected-number : (n m : ℕ) → n < length edges → m < length edges → AreConnected edges n m → slice_index (map number_of marks) n ≡ slice_index (map number_of marks) m
  connected-number n m lt lt' both = number-is n lt ∙ s.one n m (done n lt).0 (done m lt').0 (done n lt).1 (done m lt').1 both ∙ sym (number-is m lt')
