use Rattle.std.proofs.Common.{arith}
use Rattle.rml_types.proofs.Callers.{keeps-trans}
use Rattle.rml_alone.proofs.Starting.{fixed-all, fixed-next, fixed-none}
use Rattle.rml_alone.proofs.nodes.fixed_all.Goals as goal

pub loop-tree-init : goal.loop-tree-init
loop-tree-init c = fixed-none c.args.graph.now c.args.trees.now c.new-nodes.result.items c.new-nodes.ensures.items

pub returns-in_err-node-clause-keeps : goal.returns-in_err-node-clause-keeps
returns-in_err-node-clause-keeps c = keeps-trans c.args.graph.now c.loop-tree.graph c.fixed.new.self c.loop-tree.invariant.keeps c.fixed.ensures.keeps

pub returns-in_err-push-clause-keeps : goal.returns-in_err-push-clause-keeps
returns-in_err-push-clause-keeps c = keeps-trans c.args.graph.now c.loop-tree.graph c.fixed.new.self c.loop-tree.invariant.keeps c.fixed.ensures.keeps

pub loop-tree-preserved : goal.loop-tree-preserved
loop-tree-preserved c =
    fixed-next c.args.graph.now c.loop-tree.graph c.fixed.new.self c.args.trees.now c.loop-tree.tree-index c.tree-item.result c.loop-tree.nodes.items c.push.new.self.items c.in_ok-node.node (omega arith) c.tree-item.is
    c.in_ok-push.ensures.items (keeps-trans c.args.graph.now c.loop-tree.graph c.fixed.new.self c.loop-tree.invariant.keeps c.fixed.ensures.keeps) c.fixed.ensures.keeps c.loop-tree.invariant c.in_ok-node.ensures.within
    c.in_ok-node.ensures.types

pub returns-clause-types : goal.returns-clause-types
returns-clause-types c = fixed-all c.args.graph.now c.loop-tree.graph c.args.trees.now c.loop-tree.tree-index c.loop-tree.nodes.items (omega arith) c.loop-tree.invariant
