use Rattle.std.proofs.Common.{◌≡◌, ◌+◌, ◌++◌, ◌∷◌, [], ℕ, List, arith, subst, take, get_or, inl, inr}
use Rattle.std.proofs.lemmas.List.{take_all, take_more}
use Rattle.std.proofs.lemmas.List.Elements.{Contains-get_or}
use Rattle.rml_reach.specs.Paths.{HasEdge}
use Rattle.rml_reach.specs.Turned.{AddsFrom}
use Rattle.rml_reach.proofs.TurnedLemmas.{added, added-back}
use Rattle.rml_reach.proofs.turned.turn.Goals as goal

pub add_edge-requires : goal.add_edge-requires
add_edge-requires c = let r = c.requires (get_or c.args.ends.now c.loop-end.end-index 0) (Contains-get_or c.args.ends.now c.loop-end.end-index 0 (omega arith)) in let l = c.loop-end.auto.turned in omega (arith, r, l)

pub loop-end-preserved : goal.loop-end-preserved
loop-end-preserved c a b =
    let more : take (c.loop-end.end-index + 1) c.args.ends.now ≡ take c.loop-end.end-index c.args.ends.now ++ get_or c.args.ends.now c.loop-end.end-index 0 ∷ [] = take_more c.args.ends.now c.loop-end.end-index 0 (omega arith) in
    rw more (
      λ h. added-back c.args.turned.now (take c.loop-end.end-index c.args.ends.now) c.args.from (get_or c.args.ends.now c.loop-end.end-index 0) a b
          (elim ((c.in_ok-add_edge.ensures a b).0 h) [ inl old ↦ inl ((c.loop-end.invariant a b).0 old) | inr new ↦ inr new ]),
      λ h. (c.in_ok-add_edge.ensures a b).1
          (elim (added c.args.turned.now (take c.loop-end.end-index c.args.ends.now) c.args.from (get_or c.args.ends.now c.loop-end.end-index 0) a b h) [ inl old ↦ inl ((c.loop-end.invariant a b).1 old) | inr new ↦ inr new ]),
    )

pub returns : goal.returns
returns c a b = subst (λ (es : List ℕ). (HasEdge c.loop-end.turned a b → AddsFrom c.args.turned.now es c.args.from a b) × (AddsFrom c.args.turned.now es c.args.from a b → HasEdge c.loop-end.turned a b)) (take_all c.loop-end.end-index c.args.ends.now c.loop-end-test.false) (c.loop-end.invariant a b)
