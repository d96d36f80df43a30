-- A step of the search for components: a new node is opened, as a part of its own behind the others.
use Rattle.std.proofs.Common.{◌≡◌, ◌≢◌, ℕ, ◌+◌, ◌-◌, ◌<◌, ◌≤◌, List, [], ◌∷◌, ◌++◌, length, get_or, sym, ap, ◌∙◌, arith, inl, inr, subst, Contains, length-append, None, Some}
use Rattle.std.specs.Prelude.{slice_index}
use Rattle.std.proofs.Math.ListN.{set, get_or-append}
use Rattle.std.proofs.Math.Seq.{get_or-append_seam, get_or-append_right}
use Rattle.std.proofs.lemmas.List.{get_or-append-add, get_or-set_other, get_or-set_same, length-set}
use Rattle.std.proofs.lemmas.List.Elements.{Contains-append_cases, Contains-get_or}
use Rattle.rml_reach.specs.Components.{AllReach, IsDone, IsMet, IsWay, Done, Open, Waits, Together, mark_of, start, wait, way}
use Rattle.rml_reach.specs.Paths.{HasEdge, IsGraph, Path, Here}
use Rattle.rml_reach.specs.declared.connected.Mark.{Mark}
use Rattle.rml_reach.specs.declared.connected.Mark.TheVariants as mark
use Rattle.rml_reach.specs.declared.connected.Part.{Part}
use Rattle.rml_reach.proofs.Along.{further}
use Rattle.rml_reach.proofs.Lists.{read, same-or-not}
use Rattle.rml_reach.proofs.Ways.{below-or-not, no-part, place-cases}

-- where nothing was taken, anything may have been
pub begun : (edges : List (List ℕ)) (marks : List Mark) (nodes waiting : List ℕ) (parts : List Part) (node : ℕ) → IsWay edges (way marks nodes waiting parts) None → IsWay edges (way marks nodes waiting parts) (Some node)
begun edges marks nodes waiting parts node w = record {
  count = w.count;
  within = w.within;
  laid = w.laid;
  parted = w.parted;
  leads = w.leads;
  settled = w.settled;
  met = λ b k m lt from below e. elim (w.met b k m lt from below e) [ inl met ↦ inl met | inr none ↦ absurd none ];
}

module _ (edges : List (List ℕ)) (marks : List Mark) (nodes waiting : List ℕ) (parts : List Part) (node : ℕ)
    (w : IsWay edges (way marks nodes waiting parts) (Some node)) (graph : IsGraph edges) (new : mark_of marks node ≡ mark.New) (inside : node < length edges) (reach : AllReach edges nodes node) where
  abbrev marks' : List Mark
  marks' = set marks node (mark.Open (length nodes))

  abbrev nodes' : List ℕ
  nodes' = nodes ++ node ∷ []

  abbrev ends : List ℕ
  ends = get_or edges node []

  abbrev waiting' : List ℕ
  waiting' = waiting ++ ends

  abbrev part : Part
  part = record { nodes = length nodes; waiting = length waiting }

  abbrev parts' : List Part
  parts' = parts ++ part ∷ []

  mark-new : mark_of marks' node ≡ mark.Open (length nodes)
  mark-new = get_or-set_same marks node (mark.Open (length nodes)) mark.New (let c = w.count in omega arith)

  mark-old : (m : ℕ) → m ≢ node → mark_of marks' m ≡ mark_of marks m
  mark-old m ne = get_or-set_other marks node m (mark.Open (length nodes)) mark.New ne

  open-differs : (m k : ℕ) → mark_of marks m ≡ mark.Open k → m ≢ node
  open-differs m k is e = let h : mark_of marks node ≡ mark.Open k = subst (λ (n : ℕ). mark_of marks n ≡ mark.Open k) e is in cc (h, new)

  done-differs : (m c : ℕ) → mark_of marks m ≡ mark.Done c → m ≢ node
  done-differs m c is e = let h : mark_of marks node ≡ mark.Done c = subst (λ (n : ℕ). mark_of marks n ≡ mark.Done c) e is in cc (h, new)

  done-still : (m : ℕ) → IsDone marks m → IsDone marks' m
  done-still m d = (d.0, mark-old m (done-differs m d.0 d.1) ∙ d.1)

  was-done : (m c : ℕ) → mark_of marks' m ≡ mark.Done c → mark_of marks m ≡ mark.Done c
  was-done m c is = elim (same-or-not m node) [
    | inl e ↦ absurd (let h : mark_of marks' node ≡ mark.Done c = subst (λ (n : ℕ). mark_of marks' n ≡ mark.Done c) e is in cc (h, mark-new))
    | inr ne ↦ sym (mark-old m ne) ∙ is
  ]

  node-old : (k : ℕ) → k < length nodes → slice_index nodes' k ≡ slice_index nodes k
  node-old k lt = get_or-append nodes (node ∷ []) 0 k lt

  node-new : slice_index nodes' (length nodes) ≡ node
  node-new = get_or-append_seam nodes node [] 0

  more-nodes : length nodes' ≡ length nodes + 1
  more-nodes = length-append nodes (node ∷ [])

  more-parts : length parts' ≡ length parts + 1
  more-parts = length-append parts (part ∷ [])

  more-wait : length waiting' ≡ length waiting + length ends
  more-wait = length-append waiting ends

  start-old : (b : ℕ) → b < length parts → start parts' b ≡ start parts b
  start-old b lt = ap (λ (p : Part). p.nodes) (get_or-append parts (part ∷ []) no-part b lt)

  wait-old : (b : ℕ) → b < length parts → wait parts' b ≡ wait parts b
  wait-old b lt = ap (λ (p : Part). p.waiting) (get_or-append parts (part ∷ []) no-part b lt)

  start-new : start parts' (length parts) ≡ length nodes
  start-new = ap (λ (p : Part). p.nodes) (get_or-append_seam parts part [] no-part)

  wait-new : wait parts' (length parts) ≡ length waiting
  wait-new = ap (λ (p : Part). p.waiting) (get_or-append_seam parts part [] no-part)

  opened-at : (k : ℕ) → k < length nodes' → mark_of marks' (slice_index nodes' k) ≡ mark.Open k
  opened-at k lt = elim (place-cases k (length nodes) (let e = more-nodes in omega arith)) [
    | inl old ↦ (let o = w.laid.opened k old in subst (λ (m : ℕ). mark_of marks' m ≡ mark.Open k) (sym (node-old k old)) (mark-old (slice_index nodes k) (open-differs (slice_index nodes k) k o) ∙ o))
    | inr e ↦ subst (λ (i : ℕ). mark_of marks' (slice_index nodes' i) ≡ mark.Open i) (sym e) (subst (λ (m : ℕ). mark_of marks' m ≡ mark.Open (length nodes)) (sym node-new) mark-new)
  ]

  place-of-open : (m k : ℕ) → mark_of marks' m ≡ mark.Open k → (k < length nodes') × (slice_index nodes' k ≡ m)
  place-of-open m k is = elim (same-or-not m node) [
    | inl e ↦ (let h : mark_of marks' node ≡ mark.Open k = subst (λ (n : ℕ). mark_of marks' n ≡ mark.Open k) e is in
        let at : length nodes ≡ k = cc (h, mark-new) in
        subst (λ (i : ℕ). (i < length nodes') × (slice_index nodes' i ≡ m)) at ((let l = more-nodes in omega arith), node-new ∙ sym e))
    | inr ne ↦ (let p = w.laid.placed m k (sym (mark-old m ne) ∙ is) in ((let l = more-nodes in let h = p.0 in omega arith), node-old k p.0 ∙ p.1))
  ]

  first-start : start parts' 0 ≡ 0
  first-start = elim (below-or-not 0 (length parts)) [
    | inl h ↦ start-old 0 h ∙ w.parted.first
    | inr h ↦ (let e : length parts ≡ 0 = omega arith in subst (λ (i : ℕ). start parts' i ≡ 0) e (start-new ∙ w.parted.none e))
  ]

  starts-in : (b : ℕ) → b < length parts' → (start parts' b < length nodes') × (wait parts' b ≤ length waiting')
  starts-in b lt = elim (place-cases b (length parts) (let e = more-parts in omega arith)) [
    | inl old ↦ (let r = w.parted.starts b old in let s = start-old b old in let v = wait-old b old in let l = more-nodes in let m = more-wait in (omega arith, omega arith))
    | inr e ↦ subst (λ (i : ℕ). (start parts' i < length nodes') × (wait parts' i ≤ length waiting')) (sym e) (let s = start-new in let v = wait-new in let l = more-nodes in let m = more-wait in (omega arith, omega arith))
  ]

  rising-to : (b c : ℕ) → b < c → c < length parts' → (start parts' b < start parts' c) × (wait parts' b ≤ wait parts' c)
  rising-to b c lt below = elim (place-cases c (length parts) (let e = more-parts in omega arith)) [
    | inl old ↦ (let r = w.parted.rising b c lt old in let s = start-old b (omega arith) in let v = wait-old b (omega arith) in let s' = start-old c old in let v' = wait-old c old in (omega arith, omega arith))
    | inr e ↦ (let old : b < length parts = omega arith in let r = w.parted.starts b old in let s = start-old b old in let v = wait-old b old in
        subst (λ (i : ℕ). (start parts' b < start parts' i) × (wait parts' b ≤ wait parts' i)) (sym e) (let s' = start-new in let v' = wait-new in (omega arith, omega arith)))
  ]

  down-to : (j k : ℕ) → j ≤ k → k < length nodes' → Path edges (slice_index nodes' j) (slice_index nodes' k)
  down-to j k le lt = elim (place-cases k (length nodes) (let e = more-nodes in omega arith)) [
    | inl old ↦ subst (λ (m : ℕ). Path edges m (slice_index nodes' k)) (sym (node-old j (omega arith))) (subst (Path edges (slice_index nodes j)) (sym (node-old k old)) (w.leads.down j k le old))
    | inr e ↦ subst (λ (i : ℕ). Path edges (slice_index nodes' j) (slice_index nodes' i)) (sym e) (elim (below-or-not j (length nodes)) [
      | inl before ↦ subst (λ (m : ℕ). Path edges m (slice_index nodes' (length nodes))) (sym (node-old j before)) (subst (Path edges (slice_index nodes j)) (sym node-new) (reach j before))
      | inr same ↦ (let at : length nodes ≡ j = omega arith in subst (λ (i : ℕ). Path edges (slice_index nodes' i) (slice_index nodes' (length nodes))) at (Here (slice_index nodes' (length nodes))))
    ])
  ]

  together-old : (j k : ℕ) → Together parts' j k → Together parts j k
  together-old j k t = λ b lt h. (let r = t b (let e = more-parts in omega arith) (let s = start-old b lt in omega arith) in let s = start-old b lt in omega arith)

  up-to : (j k : ℕ) → j ≤ k → k < length nodes' → Together parts' j k → Path edges (slice_index nodes' k) (slice_index nodes' j)
  up-to j k le lt t = elim (place-cases k (length nodes) (let e = more-nodes in omega arith)) [
    | inl old ↦ subst (λ (m : ℕ). Path edges m (slice_index nodes' j)) (sym (node-old k old)) (subst (Path edges (slice_index nodes k)) (sym (node-old j (omega arith))) (w.leads.up j k le old (together-old j k t)))
    | inr e ↦ (elim (below-or-not j (length nodes)) [
      | inl before ↦ absurd (let s = start-new in let r = t (length parts) (let m = more-parts in omega arith) (omega arith) in omega arith)
      | inr same ↦ (let at : k ≡ j = omega arith in subst (λ (i : ℕ). Path edges (slice_index nodes' k) (slice_index nodes' i)) at (Here (slice_index nodes' k)))
    ])
  ]

  -- what waits behind is what the node has edges to
  new-waits : (p : ℕ) → length waiting ≤ p → p < length waiting' → HasEdge edges node (slice_index waiting' p)
  new-waits p from below =
      subst (HasEdge edges node) (sym (get_or-append_right waiting ends p 0 from)) (Contains-get_or ends (p - length waiting) 0 (let e = more-wait in omega arith))

  away-to : (b p : ℕ) → b < length parts' → wait parts' b ≤ p → p < length waiting' → Path edges (slice_index nodes' (start parts' b)) (slice_index waiting' p)
  away-to b p lt from below = elim (place-cases b (length parts) (let e = more-parts in omega arith)) [
    | inl old ↦ (let s = (w.parted.starts b old).0 in
        let goes : Path edges (slice_index nodes (start parts b)) (slice_index waiting' p) = elim (below-or-not p (length waiting)) [
          | inl before ↦ subst (Path edges (slice_index nodes (start parts b))) (sym (get_or-append waiting ends 0 p before)) (w.leads.away b p old (let v = wait-old b old in omega arith) before)
          | inr behind ↦ further (slice_index nodes (start parts b)) node (slice_index waiting' p) (reach (start parts b) s) (new-waits p behind below)
        ] in
        subst (λ (i : ℕ). Path edges (slice_index nodes' i) (slice_index waiting' p)) (sym (start-old b old)) (subst (λ (m : ℕ). Path edges m (slice_index waiting' p)) (sym (node-old (start parts b) s)) goes))
    | inr e ↦ (let behind : length waiting ≤ p = (let v = subst (λ (i : ℕ). wait parts' i ≡ length waiting) (sym e) wait-new in omega arith) in
        let goes : Path edges node (slice_index waiting' p) = further node node (slice_index waiting' p) (Here node) (new-waits p behind below) in
        subst (λ (i : ℕ). Path edges (slice_index nodes' (start parts' i)) (slice_index waiting' p)) (sym e)
        (subst (λ (i : ℕ). Path edges (slice_index nodes' i) (slice_index waiting' p)) (sym start-new) (subst (λ (m : ℕ). Path edges m (slice_index waiting' p)) (sym node-new) goes)))
  ]

  met-still : (b m : ℕ) → b < length parts → IsMet (way marks nodes waiting parts) b m → IsMet (way marks' nodes' waiting' parts') b m
  met-still b m lt (Done d) = Done (done-still m d)
  met-still b m lt (Open q is from) = Open q (mark-old m (open-differs m q is) ∙ is) (let s = start-old b lt in omega arith)
  met-still b m lt (Waits p from below is) = Waits p (let v = wait-old b lt in omega arith) (let e = more-wait in omega arith) (get_or-append waiting ends 0 p below ∙ is)

  wait-most : (b : ℕ) → b < length parts' → wait parts' b ≤ length waiting
  wait-most b lt = elim (place-cases b (length parts) (let e = more-parts in omega arith)) [
    | inl old ↦ (let r = (w.parted.starts b old).1 in let v = wait-old b old in omega arith)
    | inr e ↦ (let v = subst (λ (i : ℕ). wait parts' i ≡ length waiting) (sym e) wait-new in omega arith)
  ]

  met-at : (b k m : ℕ) → b < length parts' → start parts' b ≤ k → k < length nodes' → HasEdge edges (slice_index nodes' k) m → IsMet (way marks' nodes' waiting' parts') b m
  met-at b k m lt from below e = elim (place-cases k (length nodes) (let l = more-nodes in omega arith)) [
    | inl old ↦ (let part-old : b < length parts = elim (place-cases b (length parts) (let l = more-parts in omega arith)) [
      | inl before ↦ before
      | inr is ↦ absurd (let s = subst (λ (i : ℕ). start parts' i ≡ length nodes) (sym is) start-new in omega arith)
    ] in
        elim (w.met b k m part-old (let s = start-old b part-old in omega arith) old (subst (λ (n : ℕ). HasEdge edges n m) (node-old k old) e)) [
          | inl met ↦ met-still b m part-old met
          | inr is ↦ Open (length nodes) (subst (λ (n : ℕ). mark_of marks' n ≡ mark.Open (length nodes)) is mark-new) (let s = start-old b part-old in let r = (w.parted.starts b part-old).0 in omega arith)
        ])
    | inr is ↦ (let c : Contains ends m = subst (λ (n : ℕ). HasEdge edges n m) (ap (λ (i : ℕ). slice_index nodes' i) is ∙ node-new) e in
        Waits (length waiting + c.0) (let v = wait-most b lt in omega arith) (let l = more-wait in let i = c.1 in omega arith) (get_or-append-add waiting ends c.0 0 ∙ read ends c.0 m 0 m c.1 c.2))
  ]

  pub opened : IsWay edges (way marks' nodes' waiting' parts') None
  opened = record {
    count = length-set marks node (mark.Open (length nodes)) ∙ w.count;
    within = λ m c. elim (Contains-append_cases waiting ends m c) [
      | inl old ↦ w.within m old
      | inr e ↦ graph.within node m e
    ];
    laid = record { opened = opened-at; placed = place-of-open };
    parted = record { starts = starts-in; rising = rising-to; first = first-start; none = λ e. absurd (let l = more-parts in omega arith) };
    leads = record { down = down-to; up = up-to; away = away-to };
    settled = record {
      closed = λ n m d e. done-still m (w.settled.closed n m (d.0, was-done n d.0 d.1) e);
      chosen = λ n c is. w.settled.chosen n c (was-done n c is);
      one = λ n m c d is is' both. w.settled.one n m c d (was-done n c is) (was-done m d is') both;
    };
    met = λ b k m lt from below e. inl (met-at b k m lt from below e);
  }
