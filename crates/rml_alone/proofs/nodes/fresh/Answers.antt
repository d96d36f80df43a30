use Rattle.std.proofs.Common.{◌∷◌, [], List, ℕ, sym, ap, arith, None, length, length-append, subst}
use Rattle.rml_types.specs.Runs.{Fresh}
use Rattle.rml_types.proofs.Callers.{fresh-more, fresh-none, grows-by, grows-refl, grows-trans, no-form}
use Rattle.rml_alone.proofs.nodes.fresh.Goals as goal

pub loop-init : goal.loop-init
loop-init c = record {
  grows = grows-refl c.args.graph.now;
  count = ap (λ (l : List ℕ). length l) c.new-nodes.ensures.items;
  fresh = subst (Fresh c.args.graph.now c.args.graph.now) (sym c.new-nodes.ensures.items) (fresh-none c.args.graph.now);
}

pub returns-in_err-push-clause-grows : goal.returns-in_err-push-clause-grows
returns-in_err-push-clause-grows c = grows-trans c.args.graph.now c.loop.graph c.var.new.self c.loop.invariant.grows (grows-by c.loop.graph c.var.new.self None no-form c.in_ok-node.ensures.ok c.in_ok-node.ensures.types)

pub loop-preserved : goal.loop-preserved
loop-preserved c = record {
  grows = grows-trans c.args.graph.now c.loop.graph c.var.new.self c.loop.invariant.grows (grows-by c.loop.graph c.var.new.self None no-form c.in_ok-node.ensures.ok c.in_ok-node.ensures.types);
  count = (
      let e = ap (λ (l : List ℕ). length l) c.in_ok-push.ensures.items in
      let l = length-append c.loop.nodes.items (c.in_ok-node.node ∷ []) in
      let k = c.loop.invariant.count in
      omega (arith, l, k, e));
  fresh = subst (Fresh c.args.graph.now c.var.new.self) (sym c.in_ok-push.ensures.items)
      (fresh-more c.args.graph.now c.loop.graph c.var.new.self c.loop.nodes.items c.in_ok-node.node c.loop.invariant.grows c.loop.invariant.fresh c.in_ok-node.ensures.ok c.in_ok-node.ensures.types c.in_ok-node.ensures.node);
}
