-- A step of the search for components: nothing waits for the last part any more, so it is a component, and leaves the way.
use Rattle.std.proofs.Common.{◌≡◌, ℕ, suc, ◌<◌, ◌≤◌, List, length, take, refl, sym, ap, ◌∙◌, arith, inl, inr, subst, None}
use Rattle.std.specs.Prelude.{slice_index}
use Rattle.std.proofs.lemmas.List.{get_or-take, length-take-le}
use Rattle.rml_reach.specs.Components.{Closes, IsDone, IsMet, IsSettled, IsWay, Done, Open, Waits, Together, mark_of, start, wait, way}
use Rattle.rml_reach.specs.Paths.{AreConnected, HasEdge, Path, Here, Along}
use Rattle.rml_reach.specs.declared.connected.Mark.{Mark}
use Rattle.rml_reach.specs.declared.connected.Mark.TheVariants as mark
use Rattle.rml_reach.specs.declared.connected.Part.{Part}
use Rattle.rml_reach.proofs.Ways.{below-or-not, no-part, together-last}

-- what is done with reaches only what is done with
pub done-along : (edges : List (List ℕ)) (marks : List Mark) → IsSettled edges marks → (n m : ℕ) → Path edges n m → IsDone marks n → IsDone marks m
done-along edges marks s n m (Here _) d = d
done-along edges marks s n m (Along _ k _ e p) d = done-along edges marks s k m p (s.closed n k d e)

module _ (edges : List (List ℕ)) (marks : List Mark) (nodes waiting : List ℕ) (parts : List Part) (w : IsWay edges (way marks nodes waiting parts) None)
    (b : ℕ) (last : suc b ≡ length parts) (alone : length waiting ≤ wait parts b) (later : List Mark)
    (c : Closes marks later nodes (start parts b) (length nodes) (slice_index nodes (start parts b))) where
  abbrev from : ℕ
  from = start parts b

  abbrev root : ℕ
  root = slice_index nodes from

  from-in : from < length nodes
  from-in = (w.parted.starts b (omega arith)).0

  nodes-left : length (take from nodes) ≡ from
  nodes-left = length-take-le from nodes (let f = from-in in omega arith)

  parts-left : length (take b parts) ≡ b
  parts-left = length-take-le b parts (omega arith)

  node-is : (k : ℕ) → k < from → slice_index (take from nodes) k ≡ slice_index nodes k
  node-is k lt = get_or-take from nodes k 0 lt

  start-is : (d : ℕ) → d < b → start (take b parts) d ≡ start parts d
  start-is d lt = ap (λ (p : Part). p.nodes) (get_or-take b parts d no-part lt)

  wait-is : (d : ℕ) → d < b → wait (take b parts) d ≡ wait parts d
  wait-is d lt = ap (λ (p : Part). p.waiting) (get_or-take b parts d no-part lt)

  same-open : (n j k : ℕ) → mark_of marks n ≡ mark.Open j → mark_of marks n ≡ mark.Open k → j ≡ k
  same-open n j k e f = cc

  -- a mark stays but where its node is open from the last part on
  mark-stays : (n : ℕ) → ((k : ℕ) → mark_of marks n ≡ mark.Open k → k < from) → mark_of later n ≡ mark_of marks n
  mark-stays n h = c.others n (λ k le lt e. let r = h k (subst (λ (m : ℕ). mark_of marks m ≡ mark.Open k) e (w.laid.opened k lt)) in omega arith)

  mark-closed : (n k : ℕ) → mark_of marks n ≡ mark.Open k → from ≤ k → mark_of later n ≡ mark.Done root
  mark-closed n k is le = let p = w.laid.placed n k is in subst (λ (m : ℕ). mark_of later m ≡ mark.Done root) p.1 (c.closed k le p.0)

  open-still : (n k : ℕ) → mark_of marks n ≡ mark.Open k → k < from → mark_of later n ≡ mark.Open k
  open-still n k is lt = mark-stays n (λ j e. let s = same-open n j k e is in omega arith) ∙ is

  done-same : (n d : ℕ) → mark_of marks n ≡ mark.Done d → mark_of later n ≡ mark.Done d
  done-same n d is = mark-stays n (λ k e. absurd (cc (e, is))) ∙ is

  done-still : (n : ℕ) → IsDone marks n → IsDone later n
  done-still n d = (d.0, done-same n d.0 d.1)

  -- what is done with now was so, or was open in the last part
  pub data Was (n d : ℕ) : Type 0 where
    Before : mark_of marks n ≡ mark.Done d → Was n d
    Now : (k : ℕ) → mark_of marks n ≡ mark.Open k → from ≤ k → d ≡ root → Was n d

  done-inj : (m : Mark) (d e : ℕ) → m ≡ mark.Done d → m ≡ mark.Done e → d ≡ e
  done-inj m d e p q = cc

  was-by : (m : Mark) (n d : ℕ) → mark_of marks n ≡ m → mark_of later n ≡ mark.Done d → Was n d
  was-by mark.New n d is now = absurd (let s = mark-stays n (λ k e. absurd (cc (e, is))) in cc (s, is, now))
  was-by (mark.Open k) n d is now = elim (below-or-not k from) [
    | inl lt ↦ absurd (let s = open-still n k is lt in cc (s, now))
    | inr le ↦ Now k is le (done-inj (mark_of later n) d root now (mark-closed n k is le))
  ]
  was-by (mark.Done e) n d is now = Before (is ∙ ap mark.Done (done-inj (mark_of later n) e d (done-same n e is) now))

  was : (n d : ℕ) → mark_of later n ≡ mark.Done d → Was n d
  was n d now = was-by (mark_of marks n) n d refl now

  was-open-by : (m : Mark) (n k : ℕ) → mark_of marks n ≡ m → mark_of later n ≡ mark.Open k → (mark_of marks n ≡ mark.Open k) × (k < from)
  was-open-by mark.New n k is now = absurd (let s = mark-stays n (λ j e. absurd (cc (e, is))) in cc (s, is, now))
  was-open-by (mark.Open j) n k is now = elim (below-or-not j from) [
    | inl lt ↦ (let s = open-still n j is lt in let e : j ≡ k = cc (s, now) in (is ∙ ap mark.Open e, omega arith))
    | inr le ↦ absurd (let s = mark-closed n j is le in cc (s, now))
  ]
  was-open-by (mark.Done e) n k is now = absurd (let s = done-same n e is in cc (s, now))

  -- the edges of the last part lead to what is done with now
  settled-edge : (k m : ℕ) → from ≤ k → k < length nodes → HasEdge edges (slice_index nodes k) m → IsDone later m
  settled-edge k m le lt e = elim (w.met b k m (omega arith) le lt e) [
    | inl (Done d) ↦ done-still m d
    | inl (Open q is behind) ↦ (root, mark-closed m q is behind)
    | inl (Waits p behind below is) ↦ absurd (omega arith)
    | inr none ↦ absurd none
  ]

  connected : (n k : ℕ) → mark_of marks n ≡ mark.Open k → from ≤ k → AreConnected edges n root
  connected n k is le =
      let p = w.laid.placed n k is in
      subst (λ (m : ℕ). AreConnected edges m root) p.1 (record {
        there = w.leads.up from k le p.0 (together-last parts (length nodes) (length waiting) b k w.parted last);
        back = w.leads.down from k le p.0;
      })

  -- what was done with is not connected with what was open
  apart : (n m d k : ℕ) → mark_of marks n ≡ mark.Done d → mark_of marks m ≡ mark.Open k → Path edges n m → ⊥
  apart n m d k is open-m p = let r = done-along edges marks w.settled n m p (d, is) in let s = r.1 in cc (s, open-m)

  one-of : (n m d e : ℕ) → Was n d → Was m e → AreConnected edges n m → d ≡ e
  one-of n m d e (Before is) (Before is') both = w.settled.one n m d e is is' both
  one-of n m d e (Before is) (Now k is' le eq) both = absurd (apart n m d k is is' both.there)
  one-of n m d e (Now k is le eq) (Before is') both = absurd (apart m n e k is' is both.back)
  one-of n m d e (Now k is le eq) (Now j is' le' eq') both = eq ∙ sym eq'

  chosen-of : (n d : ℕ) → Was n d → AreConnected edges n d
  chosen-of n d (Before is) = w.settled.chosen n d is
  chosen-of n d (Now k is le eq) = subst (AreConnected edges n) (sym eq) (connected n k is le)

  closed-of : (n d m : ℕ) → Was n d → HasEdge edges n m → IsDone later m
  closed-of n d m (Before is) e = done-still m (w.settled.closed n m (d, is) e)
  closed-of n d m (Now k is le eq) e = let p = w.laid.placed n k is in settled-edge k m le p.0 (subst (λ (i : ℕ). HasEdge edges i m) (sym p.1) e)

  met-left : (d m : ℕ) → d < b → IsMet (way marks nodes waiting parts) d m → IsMet (way later (take from nodes) waiting (take b parts)) d m
  met-left d m lt (Done x) = Done (done-still m x)
  met-left d m lt (Open q is behind) = elim (below-or-not q from) [
    | inl before ↦ Open q (open-still m q is before) (let s = start-is d lt in omega arith)
    | inr le ↦ Done (root, mark-closed m q is le)
  ]
  met-left d m lt (Waits p behind below is) = Waits p (let v = wait-is d lt in omega arith) below is

  up-left : (j k : ℕ) → j ≤ k → k < from → Together (take b parts) j k → Path edges (slice_index nodes k) (slice_index nodes j)
  up-left j k le lt t = w.leads.up j k le (let f = from-in in omega arith) (λ d below h. elim (below-or-not d b) [
    | inl old ↦ (let s = start-is d old in let r = t d (let e = parts-left in omega arith) (omega arith) in omega arith)
    | inr is ↦ (let e : b ≡ d = omega arith in subst (λ (i : ℕ). k < start parts i) e lt)
  ])

  none-left : length (take b parts) ≡ 0 → length (take from nodes) ≡ 0
  none-left e =
      let z : 0 ≡ b = (let p = parts-left in omega arith) in
      let f : start parts b ≡ 0 = subst (λ (i : ℕ). start parts i ≡ 0) z w.parted.first in
      let n = nodes-left in omega arith

  first-left : start (take b parts) 0 ≡ 0
  first-left = elim (below-or-not 0 b) [
    | inl lt ↦ start-is 0 lt ∙ w.parted.first
    | inr le ↦ (let z : b ≡ 0 = omega arith in subst (λ (i : ℕ). start (take i parts) 0 ≡ 0) (sym z) refl)
  ]

  pub left-open : IsWay edges (way later (take from nodes) waiting (take b parts)) None
  left-open = record {
    count = c.count ∙ w.count;
    within = w.within;
    laid = record {
      opened = λ k lt. (let below : k < from = (let n = nodes-left in omega arith) in
          subst (λ (m : ℕ). mark_of later m ≡ mark.Open k) (sym (node-is k below)) (open-still (slice_index nodes k) k (w.laid.opened k (let f = from-in in omega arith)) below));
      placed = λ n k is. (let o = was-open-by (mark_of marks n) n k refl is in ((let l = nodes-left in let h = o.1 in omega arith), node-is k o.1 ∙ (w.laid.placed n k o.0).1));
    };
    parted = record {
      starts = λ d lt. (let old : d < b = (let e = parts-left in omega arith) in let r = w.parted.starts d (omega arith) in let up = w.parted.rising d b old (omega arith) in
          let s = start-is d old in let v = wait-is d old in let n = nodes-left in (omega arith, omega arith));
      rising = λ d e lt below. (let old : e < b = (let l = parts-left in omega arith) in let r = w.parted.rising d e lt (omega arith) in
          let s = start-is d (omega arith) in let v = wait-is d (omega arith) in let s' = start-is e old in let v' = wait-is e old in (omega arith, omega arith));
      first = first-left;
      none = none-left;
    };
    leads = record {
      down = λ j k le lt. (let below : k < from = (let n = nodes-left in omega arith) in
          subst (λ (m : ℕ). Path edges m (slice_index (take from nodes) k)) (sym (node-is j (omega arith))) (subst (Path edges (slice_index nodes j)) (sym (node-is k below)) (w.leads.down j k le (let f = from-in in omega arith))));
      up = λ j k le lt t. (let below : k < from = (let n = nodes-left in omega arith) in
          subst (λ (m : ℕ). Path edges m (slice_index (take from nodes) j)) (sym (node-is k below)) (subst (Path edges (slice_index nodes k)) (sym (node-is j (omega arith))) (up-left j k le below t)));
      away = λ d p lt behind below. (let old : d < b = (let e = parts-left in omega arith) in let s = start-is d old in let up = (w.parted.rising d b old (omega arith)).0 in
          subst (λ (i : ℕ). Path edges (slice_index (take from nodes) i) (slice_index waiting p)) (sym s)
          (subst (λ (m : ℕ). Path edges m (slice_index waiting p)) (sym (node-is (start parts d) up)) (w.leads.away d p (omega arith) (let v = wait-is d old in omega arith) below)));
    };
    settled = record {
      closed = λ n m x e. closed-of n x.0 m (was n x.0 x.1) e;
      chosen = λ n d is. chosen-of n d (was n d is);
      one = λ n m d e is is' both. one-of n m d e (was n d is) (was m e is') both;
    };
    met = λ d k m lt behind below e. (let old : d < b = (let l = parts-left in omega arith) in let under : k < from = (let n = nodes-left in omega arith) in
        elim (w.met d k m (omega arith) (let s = start-is d old in omega arith) (let f = from-in in omega arith) (subst (λ (i : ℕ). HasEdge edges i m) (node-is k under) e)) [
          | inl met ↦ inl (met-left d m old met)
          | inr none ↦ absurd none
        ]);
  }
