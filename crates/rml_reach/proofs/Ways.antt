-- Steps of the search for components: a node is taken from those that wait, and is done with, is open, or is new.
use Rattle.std.proofs.Common.{◌≡◌, ℕ, suc, ◌+◌, ◌-◌, ◌<◌, ◌≤◌, List, [], ◌∷◌, ◌++◌, length, take, sym, ap, ◌∙◌, arith, inl, inr, ◌⊎◌, subst, length-append, None, Some}
use Rattle.std.specs.Prelude.{slice_index}
use Rattle.std.proofs.Math.ListN.{get_or-append}
use Rattle.std.proofs.Math.Seq.{get_or-append_seam}
use Rattle.std.proofs.lemmas.List.{get_or-take, length-take-le}
use Rattle.std.proofs.lemmas.List.Elements.{Contains-append_left}
use Rattle.rml_reach.specs.Components.{AllReach, IsDone, IsMet, IsParted, IsWay, Done, Open, Waits, Together, mark_of, start, wait, way}
use Rattle.rml_reach.specs.Paths.{Path}
use Rattle.rml_reach.specs.declared.connected.Mark.{Mark}
use Rattle.rml_reach.specs.declared.connected.Mark.TheVariants as mark
use Rattle.rml_reach.specs.declared.connected.Part.{Part}
use Rattle.rml_reach.proofs.Along.{joined}
use Rattle.rml_reach.proofs.Lists.{same-or-not}

abbrev pub no-part : Part
no-part = record { nodes = 0; waiting = 0 }

-- a place in a list to which one item was added is an old one or the new one
pub place-cases : (k n : ℕ) → k < n + 1 → (k < n) ⊎ (k ≡ n)
place-cases k n h = grind arith

pub below-or-not : (j k : ℕ) → (j < k) ⊎ (k ≤ j)
below-or-not j k = grind arith

-- the last part begins behind all others
pub last-part : (parts : List Part) (n v b c : ℕ) → IsParted parts n v → suc b ≡ length parts → c < length parts → (start parts c ≤ start parts b) × (wait parts c ≤ wait parts b)
last-part parts n v b c p last lt = elim (same-or-not c b) [
  | inl e ↦ subst (λ (k : ℕ). (start parts c ≤ start parts k) × (wait parts c ≤ wait parts k)) e (omega arith, omega arith)
  | inr ne ↦ (let r = p.rising c b (omega arith) (omega arith) in (omega arith, r.1))
]

-- what is not before the last part is together with its first
pub together-last : (parts : List Part) (n v b k : ℕ) → IsParted parts n v → suc b ≡ length parts → Together parts (start parts b) k
together-last parts n v b k p last = λ c lt h. absurd (let r = last-part parts n v b c p last lt in omega arith)

pub parted-taken : (parts : List Part) (n v b : ℕ) → IsParted parts n (v + 1) → suc b ≡ length parts → wait parts b ≤ v → IsParted parts n v
parted-taken parts n v b p last h = record {
  starts = λ c lt. ((p.starts c lt).0, (let r = last-part parts n (v + 1) b c p last lt in omega arith));
  rising = p.rising;
  first = p.first;
  none = p.none;
}

module _ (edges : List (List ℕ)) (marks : List Mark) (nodes waiting : List ℕ) (parts : List Part) (node : ℕ) where
  met-taken : (b m : ℕ) → IsMet (way marks nodes (waiting ++ node ∷ []) parts) b m → IsMet (way marks nodes waiting parts) b m ⊎ (node ≡ m)
  met-taken b m (Done d) = inl (Done d)
  met-taken b m (Open q is from) = inl (Open q is from)
  met-taken b m (Waits p from lt is) = elim (place-cases p (length waiting) (let e = length-append waiting (node ∷ []) in omega arith)) [
    | inl old ↦ inl (Waits p from old (sym (get_or-append waiting (node ∷ []) 0 p old) ∙ is))
    | inr new ↦ inr (sym (subst (λ (k : ℕ). slice_index (waiting ++ node ∷ []) k ≡ node) (sym new) (get_or-append_seam waiting node [] 0)) ∙ is)
  ]

  pub taken : (b : ℕ) → IsWay edges (way marks nodes (waiting ++ node ∷ []) parts) None → suc b ≡ length parts → wait parts b ≤ length waiting → IsWay edges (way marks nodes waiting parts) (Some node)
  taken b w last h = record {
    count = w.count;
    within = λ m c. w.within m (Contains-append_left waiting (node ∷ []) m c);
    laid = w.laid;
    parted = parted-taken parts (length nodes) (length waiting) b (subst (IsParted parts (length nodes)) (length-append waiting (node ∷ [])) w.parted) last h;
    leads = record {
      down = w.leads.down;
      up = w.leads.up;
      away = λ c p lt from below. subst (Path edges (slice_index nodes (start parts c))) (get_or-append waiting (node ∷ []) 0 p below) (w.leads.away c p lt from (let e = length-append waiting (node ∷ []) in omega arith));
    };
    settled = w.settled;
    met = λ c k m lt from below e. elim (w.met c k m lt from below e) [
      | inl met ↦ met-taken c m met
      | inr none ↦ absurd none
    ];
  }

  pub all-reach : (b : ℕ) → IsWay edges (way marks nodes (waiting ++ node ∷ []) parts) None → suc b ≡ length parts → wait parts b ≤ length waiting → AllReach edges nodes node
  all-reach b w last h j lt =
      let v = length (waiting ++ node ∷ []) in
      let s = (w.parted.starts b (omega arith)).0 in
      let end : ℕ = length nodes - 1 in
      let away : Path edges (slice_index nodes (start parts b)) node = subst (Path edges (slice_index nodes (start parts b))) (get_or-append_seam waiting node [] 0) (w.leads.away b (length waiting) (omega arith) h (let e = length-append waiting (node ∷ []) in omega arith)) in
      let back = w.leads.up (start parts b) end (omega arith) (omega arith) (together-last parts (length nodes) v b end w.parted last) in
      let on = w.leads.down j end (omega arith) (omega arith) in
      joined (slice_index nodes j) (slice_index nodes end) node on (joined (slice_index nodes end) (slice_index nodes (start parts b)) node back away)

  -- the node was done with: nothing is left of it
  pub passed : IsWay edges (way marks nodes waiting parts) (Some node) → IsDone marks node → IsWay edges (way marks nodes waiting parts) None
  passed w d = record {
    count = w.count;
    within = w.within;
    laid = w.laid;
    parted = w.parted;
    leads = w.leads;
    settled = w.settled;
    met = λ c k m lt from below e. elim (w.met c k m lt from below e) [
      | inl met ↦ inl met
      | inr is ↦ inl (Done (subst (IsDone marks) is d))
    ];
  }

  -- the node is open: the parts behind its own become one with its own
  module _ (q kept : ℕ) (w : IsWay edges (way marks nodes waiting parts) (Some node)) (open-node : mark_of marks node ≡ mark.Open q) (reach : AllReach edges nodes node)
      (few : kept ≤ length parts) (behind : (b : ℕ) → kept ≤ b → b < length parts → q < start parts b) (last : 0 < kept → start parts (kept - 1) ≤ q) where
    kept-is : length (take kept parts) ≡ kept
    kept-is = length-take-le kept parts few

    start-is : (b : ℕ) → b < kept → start (take kept parts) b ≡ start parts b
    start-is b lt = ap (λ (p : Part). p.nodes) (get_or-take kept parts b no-part lt)

    wait-is : (b : ℕ) → b < kept → wait (take kept parts) b ≡ wait parts b
    wait-is b lt = ap (λ (p : Part). p.waiting) (get_or-take kept parts b no-part lt)

    some-part : 0 < length parts
    some-part = elim (below-or-not 0 (length parts)) [
      | inl h ↦ h
      | inr h ↦ absurd (let e : length parts ≡ 0 = omega arith in let z = w.parted.none e in let p = (w.laid.placed node q open-node).0 in omega arith)
    ]

    some-kept : 0 < kept
    some-kept = elim (below-or-not 0 kept) [
      | inl h ↦ h
      | inr h ↦ absurd (let r = behind 0 h some-part in let f = w.parted.first in omega arith)
    ]

    low : (b : ℕ) → b < kept → start parts b ≤ q
    low b lt = elim (same-or-not b (kept - 1)) [
      | inl e ↦ subst (λ (k : ℕ). start parts k ≤ q) (sym e) (last some-kept)
      | inr ne ↦ (let r = (w.parted.rising b (kept - 1) (omega arith) (omega arith)).0 in let l = last some-kept in omega arith)
    ]

    open-at : slice_index nodes q ≡ node
    open-at = (w.laid.placed node q open-node).1

    -- what no kept part parts and no part behind the node
    together-old : (j k : ℕ) → k ≤ q → Together (take kept parts) j k → Together parts j k
    together-old j k le t = λ b lt h. elim (below-or-not b kept) [
      | inl old ↦ subst (λ (n : ℕ). k < n) (start-is b old) (t b (subst (λ (n : ℕ). b < n) (sym kept-is) old) (subst (λ (n : ℕ). j < n) (sym (start-is b old)) h))
      | inr new ↦ (let r = behind b new lt in omega arith)
    ]

    together-near : (j k : ℕ) → q ≤ k → Together (take kept parts) j k → Together (take kept parts) j q
    together-near j k le t = λ b lt h. absurd (let r = t b lt h in let old : b < kept = (let e = kept-is in omega arith) in let s = start-is b old in let l = low b old in omega arith)

    up-merged : (j k : ℕ) → j ≤ k → k < length nodes → Together (take kept parts) j k → Path edges (slice_index nodes k) (slice_index nodes j)
    up-merged j k le lt t = elim (below-or-not q k) [
      | inr near ↦ w.leads.up j k le lt (together-old j k near t)
      | inl far ↦ joined (slice_index nodes k) node (slice_index nodes j) (reach k lt)
          (subst (λ (n : ℕ). Path edges n (slice_index nodes j)) open-at (elim (below-or-not j q) [
            | inl before ↦ w.leads.up j q (omega arith) (omega arith) (together-old j q (omega arith) (together-near j k (omega arith) t))
            | inr after ↦ w.leads.down q j after (omega arith)
          ]))
    ]

    met-merged : (b m : ℕ) → b < kept → IsMet (way marks nodes waiting parts) b m → IsMet (way marks nodes waiting (take kept parts)) b m
    met-merged b m lt (Done d) = Done d
    met-merged b m lt (Open p is from) = Open p is (let s = start-is b lt in omega arith)
    met-merged b m lt (Waits p from below is) = Waits p (let s = wait-is b lt in omega arith) below is

    pub merged : IsWay edges (way marks nodes waiting (take kept parts)) None
    merged = record {
      count = w.count;
      within = w.within;
      laid = w.laid;
      parted = record {
        starts = λ b lt. (let old : b < kept = (let e = kept-is in omega arith) in let r = w.parted.starts b (omega arith) in let s = start-is b old in let v = wait-is b old in (omega arith, omega arith));
        rising = λ b c lt below. (let old : c < kept = (let e = kept-is in omega arith) in let r = w.parted.rising b c lt (omega arith) in
            let s = start-is b (omega arith) in let v = wait-is b (omega arith) in let s' = start-is c old in let v' = wait-is c old in (omega arith, omega arith));
        first = start-is 0 some-kept ∙ w.parted.first;
        none = λ e. absurd (let k = kept-is in let s = some-kept in omega arith);
      };
      leads = record {
        down = w.leads.down;
        up = up-merged;
        away = λ b p lt from below. (let old : b < kept = (let e = kept-is in omega arith) in
            subst (λ (k : ℕ). Path edges (slice_index nodes k) (slice_index waiting p)) (sym (start-is b old)) (w.leads.away b p (omega arith) (let v = wait-is b old in omega arith) below));
      };
      settled = w.settled;
      met = λ b k m lt from below e. (let old : b < kept = (let e' = kept-is in omega arith) in elim (w.met b k m (omega arith) (let s = start-is b old in omega arith) below e) [
        | inl met ↦ inl (met-merged b m old met)
        | inr is ↦ inl (Open q (subst (λ (n : ℕ). mark_of marks n ≡ mark.Open q) is open-node) (let s = start-is b old in let l = low b old in omega arith))
      ]);
    }
