use Rattle.std.proofs.Common.{◌≡◌, [], length, arith, sym, ap, List, below_more}
use Rattle.std.specs.Prelude.{replicate}
use Rattle.rml_reach.specs.Walk.{way_of}
use Rattle.rml_reach.specs.declared.connected.Mark.TheVariants as mark
use Rattle.rml_reach.specs.declared.connected.Part.{Part}
use Rattle.rml_reach.proofs.Ends.{begins-way, done-at}
use Rattle.rml_reach.proofs.connected.search.Goals as goal

pub loop-node-init : goal.loop-node-init
loop-node-init c =
    let marks : replicate (length c.args.edges.now) mark.New ≡ c.in_ok-vec.field-0.items = sym (c.in_ok-vec.ensures.items_if_clones_equal (λ y e. e)) in
    let nodes : [] ≡ c.new.result.items = sym c.new.ensures.items in
    let waiting : [] ≡ c.new-2.result.items = sym c.new-2.ensures.items in
    let parts : [] ≡ c.new-3.result.items = sym c.new-3.ensures.items in
    record {
      way = rw (← marks, ← nodes, ← waiting, ← parts) (begins-way c.args.edges.now);
      empty = ap (λ (ps : List Part). length ps) (sym parts);
      met = λ n lt. absurd (omega arith);
    }

pub loop-node-preserved : goal.loop-node-preserved
loop-node-preserved c = record {
  way = c.in_ok-visit.ensures.way;
  empty = c.in_ok-visit.ensures.empty;
  met = below_more _ _ (λ n lt e. c.loop-node.invariant.met n lt (c.in_ok-visit.ensures.older n e)) c.in_ok-visit.ensures.met;
}

pub returns-clause-done : goal.returns-clause-done
returns-clause-done c n lt = done-at c.args.edges.now (way_of c.loop-node.walk) c.loop-node.invariant.way n c.loop-node.invariant.empty (c.loop-node.invariant.met n (omega arith))
