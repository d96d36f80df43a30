-- What is left to do falls with each node that is opened, and stays where one is done with.
use Rattle.std.proofs.Common.{◌≡◌, ℕ, suc, ◌+◌, ◌<◌, ◌≤◌, Bool, true, false, List, [], ◌∷◌, length, get_or, refl, sym, ap, ◌∙◌, arith, map, subst, inl, inr, length-append}
use Rattle.std.proofs.Math.ListN.{set}
use Rattle.std.proofs.lemmas.List.{map-set, get_or-map, get_or_past, length-map}
use Rattle.std.specs.Prelude.{slice_index}
use Rattle.rml_reach.proofs.Ways.{below-or-not}
use Rattle.rml_reach.specs.Components.{Closes, IsLaid, Way, is_met, mark_of, opened_way, work}
use Rattle.rml_reach.specs.declared.connected.Part.{Part}
use Rattle.rml_reach.specs.Left.{left}
use Rattle.rml_reach.specs.declared.connected.Mark.{Mark}
use Rattle.rml_reach.specs.declared.connected.Mark.TheVariants as mark
use Rattle.rml_reach.proofs.Lists.{left-falls}

pub opened-falls : (marks : List Mark) (edges : List (List ℕ)) (node at : ℕ) → length marks ≡ length edges → node < length marks → mark_of marks node ≡ mark.New
    → left (map is_met (set marks node (mark.Open at))) edges + suc (length (get_or edges node [])) ≡ left (map is_met marks) edges
opened-falls marks edges node at n lt new =
    rw (map-set is_met marks node (mark.Open at)) (left-falls (map is_met marks) edges node (length-map marks is_met ∙ n) (let l = length-map marks is_met in omega arith) (get_or-map is_met marks node mark.New false lt ∙ ap is_met new))

left-cons : (b d : Bool) (xs ys : List Bool) (es : List ℕ) (edges : List (List ℕ)) → b ≡ d → left xs edges ≡ left ys edges → left (b ∷ xs) (es ∷ edges) ≡ left (d ∷ ys) (es ∷ edges)
left-cons true true xs ys es edges e r = r
left-cons false false xs ys es edges e r = ap (λ n. suc (length es) + n) r
left-cons true false xs ys es edges e r = absurd (cc e)
left-cons false true xs ys es edges e r = absurd (cc e)

-- where the same nodes are new, as much is left
pub left-same : (marks later : List Mark) (edges : List (List ℕ)) → length later ≡ length marks → ((k : ℕ) → k < length marks → is_met (mark_of later k) ≡ is_met (mark_of marks k)) → left (map is_met later) edges ≡ left (map is_met marks) edges
left-same [] [] edges n same = refl
left-same [] (l ∷ later) edges n same = absurd (omega arith)
left-same (m ∷ marks) [] edges n same = absurd (omega arith)
left-same (m ∷ marks) (l ∷ later) [] n same = refl
left-same (m ∷ marks) (l ∷ later) (es ∷ edges) n same =
    left-cons (is_met l) (is_met m) (map is_met later) (map is_met marks) es edges (same 0 (omega arith)) (left-same marks later edges (omega arith) (λ k lt. same (suc k) (omega arith)))

-- opening a node leaves no more to do
pub opened-work : (edges : List (List ℕ)) (w : Way) (node : ℕ) → length w.marks ≡ length edges → mark_of w.marks node ≡ mark.New → node < length edges → work edges (opened_way edges w node) ≤ work edges w
opened-work edges w node n new lt =
    let falls = opened-falls w.marks edges node (length w.nodes) n (omega arith) new in
    let part : Part = record { nodes = length w.nodes; waiting = length w.waiting } in
    omega (arith, length-append w.waiting (get_or edges node []), length-append w.parts (part ∷ []))

module _ (marks later : List Mark) (nodes : List ℕ) (from chosen : ℕ) (laid : IsLaid marks nodes) (c : Closes marks later nodes from (length nodes) chosen) where
  -- a node is new where it was
  met-same : (m : Mark) (n : ℕ) → mark_of marks n ≡ m → is_met (mark_of later n) ≡ is_met (mark_of marks n)
  met-same mark.New n is = ap is_met (c.others n (λ k le lt e. let o = subst (λ (i : ℕ). mark_of marks i ≡ mark.Open k) e (laid.opened k lt) in cc (o, is)))
  met-same (mark.Done d) n is = ap is_met (c.others n (λ k le lt e. let o = subst (λ (i : ℕ). mark_of marks i ≡ mark.Open k) e (laid.opened k lt) in cc (o, is)))
  met-same (mark.Open j) n is = elim (below-or-not j from) [
    | inl lt ↦ ap is_met (c.others n (λ k le below e. let o = subst (λ (i : ℕ). mark_of marks i ≡ mark.Open k) e (laid.opened k below) in let q : k ≡ j = cc (o, is) in omega arith))
    | inr le ↦ (let p = laid.placed n j is in let d = subst (λ (i : ℕ). mark_of later i ≡ mark.Done chosen) p.1 (c.closed j le p.0) in ap is_met d ∙ sym (ap is_met is))
  ]

  pub left-after : (edges : List (List ℕ)) → left (map is_met later) edges ≡ left (map is_met marks) edges
  left-after edges = left-same marks later edges c.count (λ k lt. met-same (mark_of marks k) k refl)

  -- the open nodes are nodes
  pub laid-within : (k : ℕ) → k < length nodes → slice_index nodes k < length marks
  laid-within k lt = elim (below-or-not (slice_index nodes k) (length marks)) [
    | inl h ↦ h
    | inr h ↦ absurd (let o = laid.opened k lt in let n = get_or_past marks (slice_index nodes k) mark.New h in cc (o, n))
  ]
