use Rattle.std.proofs.Common.{◌≡◌, ℕ, List, arith, subst, sym, ◌∙◌, length}
use Rattle.std.proofs.lemmas.List.{with_items_is}
use Rattle.rml_reach.specs.Paths.{HasEdge, IsGraph}
use Rattle.rml_reach.proofs.tests.graph.Goals as goal

pub fill-requires : goal.fill-requires
fill-requires c a b h = absurd (c.in_ok-graph.ensures.none a b (subst (λ (edges : List (List ℕ)). HasEdge edges a b) c.as_mut_slice.ensures.value h))

pub returns : goal.returns
returns c =
    let kept : length c.fill.new.graph ≡ c.in_ok-graph.graph.len = c.fill.auto.graph ∙ c.as_mut_slice.ensures.len in
    let count : length c.fill.new.graph ≡ c.args.count = kept ∙ c.in_ok-graph.graph.ok.0 ∙ c.in_ok-graph.ensures.count in
    subst IsGraph (sym (with_items_is c.in_ok-graph.graph c.fill.new.graph kept)) (record { within = c.in_ok-fill.ensures; small = omega (arith, count) })
