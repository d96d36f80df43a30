use Rattle.std.proofs.Common.{◌≡◌, ℕ, [], length, get_or, arith, sym, subst, ◌∙◌, ap, List, inl, inr, true, Contains}
use Rattle.std.specs.Prelude.{slice_index}
use Rattle.std.proofs.lemmas.List.{length-set}
use Rattle.rml_reach.specs.Paths.{IsOnCircle}
use Rattle.rml_reach.proofs.CircleLemmas.{HasOne, answered, circle-turns, nothing-behind, turns-back}
use Rattle.rml_reach.proofs.Lists.{read}
use Rattle.rml_reach.proofs.Ways.{below-or-not}
use Rattle.rml_reach.proofs.circles.on_circles.Goals as goal

pub has_one-requires : goal.has_one-requires
has_one-requires c m e =
    let its : c.as_slice.result.now ≡ get_or c.args.edges.now c.loop-node.node [] = c.as_slice.ensures ∙ sym (read c.args.edges.now c.loop-node.node c.index-edges-node.result [] c.index-edges-node.result c.loop-node-test.true (sym c.index-edges-node.is)) in
    let lt = c.requires.graph.within c.loop-node.node m (subst (λ (es : List ℕ). Contains es m) its e) in
    let n = ap (λ (ns : List ℕ). length ns) c.as_slice-in-loop-node.ensures.value in
    omega (arith, lt, n, c.in_ok-chosen.ensures.count)

module _ (c : goal.After-on-in-loop-node-2-1) where
  abbrev ends : List ℕ
  ends = get_or c.args.edges.now c.loop-node.node []

  abbrev chosen : List ℕ
  chosen = c.in_ok-chosen.chosen.items

  ends-are : c.as_slice.result.now ≡ ends
  ends-are = c.as_slice.ensures ∙ sym (read c.args.edges.now c.loop-node.node c.index-edges-node.result [] c.index-edges-node.result c.loop-node-test.true (sym c.index-edges-node.is))

  own-is : c.index.result.now ≡ slice_index chosen c.loop-node.node
  own-is = sym (read chosen c.loop-node.node c.index.result.now 0 c.index.result.now (let n = c.in_ok-chosen.ensures.count in let t = c.loop-node-test.true in omega arith) (sym c.index.ensures))

  has : (c.has_one.result ≡ true → HasOne ends chosen (slice_index chosen c.loop-node.node)) × (HasOne ends chosen (slice_index chosen c.loop-node.node) → c.has_one.result ≡ true)
  has = subst (λ (own : ℕ). (c.has_one.result ≡ true → HasOne ends chosen own) × (HasOne ends chosen own → c.has_one.result ≡ true)) own-is
      (subst (λ (ns : List ℕ). (c.has_one.result ≡ true → HasOne ends ns c.index.result.now) × (HasOne ends ns c.index.result.now → c.has_one.result ≡ true)) c.as_slice-in-loop-node.ensures.value
      (subst (λ (es : List ℕ). (c.has_one.result ≡ true → HasOne es c.as_slice-in-loop-node.result.now c.index.result.now) × (HasOne es c.as_slice-in-loop-node.result.now c.index.result.now → c.has_one.result ≡ true)) ends-are c.has_one.ensures))

pub loop-node-preserved : goal.loop-node-preserved
loop-node-preserved c = record {
  count = length-set c.loop-node.on.items c.loop-node.node c.has_one.result ∙ c.loop-node.invariant.count;
  exact = answered (IsOnCircle c.args.edges.now) c.loop-node.on.items c.loop-node.node c.has_one.result (let n = c.loop-node.invariant.count in let t = c.loop-node-test.true in omega arith) c.loop-node.invariant.exact
      (λ h. turns-back c.args.edges.now c.requires.graph (chosen c) c.in_ok-chosen.ensures.same c.loop-node.node c.loop-node-test.true ((has c).0 h))
      (λ o. (has c).1 (circle-turns c.args.edges.now c.requires.graph (chosen c) c.in_ok-chosen.ensures.same c.loop-node.node c.loop-node-test.true o));
}

pub returns-clause-exact : goal.returns-clause-exact
returns-clause-exact c n = elim (below-or-not n (length c.args.edges.now)) [
  | inl lt ↦ c.loop-node.invariant.exact n (omega arith)
  | inr le ↦ nothing-behind c.args.edges.now c.loop-node.on.items n c.loop-node.invariant.count le
]
