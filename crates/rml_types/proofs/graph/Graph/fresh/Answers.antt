use Rattle.std.proofs.Common.{sym, arith, None, subst}
use Rattle.rml_types.specs.Runs.{Fresh}
use Rattle.rml_types.proofs.Growth.{fresh-more, fresh-none, grows-by, grows-refl, grows-trans, no-form}
use Rattle.rml_types.proofs.graph.Graph.fresh.Goals as goal

pub loop-init : goal.loop-init
loop-init c = record {
  grows = grows-refl c.args.self.now;
  count = c.new-nodes.ensures.len;
  fresh = subst (Fresh c.args.self.now c.args.self.now) (sym c.new-nodes.ensures.items) (fresh-none c.args.self.now);
}

pub returns-in_err-push-clause-grows : goal.returns-in_err-push-clause-grows
returns-in_err-push-clause-grows c = grows-trans c.args.self.now c.loop.self c.var.new.self c.loop.invariant.grows (grows-by c.loop.self c.var.new.self None no-form c.in_ok-node.ensures.ok c.in_ok-node.ensures.types)

pub loop-preserved : goal.loop-preserved
loop-preserved c = record {
  grows = grows-trans c.args.self.now c.loop.self c.var.new.self c.loop.invariant.grows (grows-by c.loop.self c.var.new.self None no-form c.in_ok-node.ensures.ok c.in_ok-node.ensures.types);
  count = (let l = c.in_ok-push.ensures.len in let k = c.loop.invariant.count in omega (arith, l, k));
  fresh = subst (Fresh c.args.self.now c.var.new.self) (sym c.in_ok-push.ensures.items)
      (fresh-more c.args.self.now c.loop.self c.var.new.self c.loop.nodes.items c.in_ok-node.node c.loop.invariant.grows c.loop.invariant.fresh c.in_ok-node.ensures.ok c.in_ok-node.ensures.types c.in_ok-node.ensures.node);
}
