use Rattle.std.proofs.Common.{◌≡◌, [], ℕ, List, arith, subst, sym, ◌∙◌, get_or, inl, inr, Contains}
use Rattle.rml_reach.specs.Paths.{HasEdge}
use Rattle.rml_reach.proofs.Lists.{read}
use Rattle.rml_reach.proofs.TurnedLemmas.{edge-within}
use Rattle.rml_reach.proofs.Ways.{place-cases}
use Rattle.rml_reach.proofs.turned.turn_each.Goals as goal

pub loop-from-init : goal.loop-from-init
loop-from-init c a b = (λ h. absurd (c.requires.none a b h), λ p. absurd (let z = p.0 in omega arith))

pub turn-requires : goal.turn-requires
turn-requires c m h =
    let its : c.as_slice.result.now ≡ get_or c.args.edges.now c.loop-from.from [] = c.as_slice.ensures ∙ sym (read c.args.edges.now c.loop-from.from c.index-edges-from.result [] c.index-edges-from.result c.loop-from-test.true (sym c.index-edges-from.is)) in
    let w = c.requires.graph.within c.loop-from.from m (subst (λ (es : List ℕ). Contains es m) its h) in
    let l = c.loop-from.auto.turned in
    let n = c.requires.count in
    omega (arith, w, l, n)

pub loop-from-preserved : goal.loop-from-preserved
loop-from-preserved c a b =
    let its : c.as_slice.result.now ≡ get_or c.args.edges.now c.loop-from.from [] = c.as_slice.ensures ∙ sym (read c.args.edges.now c.loop-from.from c.index-edges-from.result [] c.index-edges-from.result c.loop-from-test.true (sym c.index-edges-from.is)) in (
      λ h. elim ((c.in_ok-turn.ensures a b).0 h) [
        | inl old ↦ (let p = (c.loop-from.invariant a b).0 old in (let lt = p.0 in omega (arith, lt), p.1))
        | inr new ↦ (let is = new.1 in (omega (arith, is), subst (λ (n : ℕ). HasEdge c.args.edges.now n a) (sym is) (subst (λ (es : List ℕ). Contains es a) its new.0)))
      ],
      λ p. elim (place-cases b c.loop-from.from p.0) [
        | inl lt ↦ (c.in_ok-turn.ensures a b).1 (inl ((c.loop-from.invariant a b).1 (lt, p.1)))
        | inr is ↦ (c.in_ok-turn.ensures a b).1 (inr (subst (λ (es : List ℕ). Contains es a) (sym its) (subst (λ (n : ℕ). HasEdge c.args.edges.now n a) is p.1), is))
      ],
    )

pub returns : goal.returns
returns c a b = (
  λ h. ((c.loop-from.invariant a b).0 h).1,
  λ h. (c.loop-from.invariant a b).1 (let w = edge-within c.args.edges.now b a h in omega arith, h),
)
