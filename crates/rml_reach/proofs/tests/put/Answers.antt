use Rattle.std.proofs.Common.{arith, inl, inr}
use Rattle.rml_reach.proofs.tests.put.Goals as goal

pub returns : goal.returns
returns c a b h =
    let l = c.add_edge.auto.edges in
    elim ((c.in_ok-add_edge.ensures a b).0 h) [
      | inl old ↦ (let r = c.requires a b old in omega (arith, r, l))
      | inr new ↦ (let is = new.1 in omega (arith, is, l))
    ]
