use Rattle.std.proofs.Common.{ℕ, List, arith, subst, sym, ◌∙◌, ap, length}
use Rattle.rml_reach.specs.Paths.{Holds, IsGraph, IsReachedFrom}
use Rattle.rml_reach.proofs.TurnedLemmas.{turned-graph, turned-further, turned-back}
use Rattle.rml_reach.proofs.turned.reaching.Goals as goal

pub reached-requires-clause-graph : goal.reached-requires-clause-graph
reached-requires-clause-graph c =
    let n = c.in_ok-turned.ensures.count in
    let s = c.requires.graph.small in
    subst IsGraph (sym c.as_slice.ensures.value) (record {
      within = turned-graph c.args.edges.now c.in_ok-turned.turned.items c.requires.graph n c.in_ok-turned.ensures.turned;
      small = omega (arith, n, s);
    })

pub reached-requires-clause-nodes : goal.reached-requires-clause-nodes
reached-requires-clause-nodes c n h =
    let lt = c.requires.nodes n h in
    let count = ap (λ (edges : List (List ℕ)). length edges) c.as_slice.ensures.value ∙ c.in_ok-turned.ensures.count in
    omega (arith, lt, count)

pub returns-clause-exact : goal.returns-clause-exact
returns-clause-exact c n =
    let e = subst (λ (edges : List (List ℕ)). (Holds c.in_ok-reaches.reaches.items n → IsReachedFrom edges c.args.to.now n) × (IsReachedFrom edges c.args.to.now n → Holds c.in_ok-reaches.reaches.items n)) c.as_slice.ensures.value (c.in_ok-reaches.ensures.exact n) in (
      λ h. (let r = e.0 h in (r.0, r.1, turned-further c.args.edges.now c.in_ok-turned.turned.items c.in_ok-turned.ensures.turned r.0 n r.2)),
      λ r. e.1 (r.0, r.1, turned-back c.args.edges.now c.in_ok-turned.turned.items c.in_ok-turned.ensures.turned r.0 n r.2),
    )
