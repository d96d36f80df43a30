use Rattle.std.proofs.Common.{List, ℕ, subst}
use Rattle.std.proofs.lemmas.Result.{err_from_is_err_and}
use Rattle.rml_types.specs.declared.tree.SchemeTree.{SchemeTree}
use Rattle.rml_resolved.specs.declared.trees.RExp.{RExp}
use Rattle.rml_typed.specs.Typed.{ExpsOf}
use Rattle.rml_generator.specs.declared.scope.Scope.{Scope}
use Rattle.rml_generator.specs.Adds.{Told}
use Rattle.rml_generator.specs.Scopes.{reads, uses, watched}
use Rattle.rml_generator.specs.Sides.{Tied, side_nodes}
use Rattle.rml_generator.proofs.Holding.{held-found, held-left}
use Rattle.rml_generator.proofs.Owning.{nodes-within, within-longer}
use Rattle.rml_generator.proofs.parts.results.Goals as goal

abbrev AreOf : Scope → List RExp → Told → List SchemeTree → Type 0
AreOf s xs told ts = ExpsOf (reads s) (uses s told) told.vars xs ts

pub hold-requires-clause-live : goal.hold-requires-clause-live
hold-requires-clause-live c = c.in_ok-nodes.ensures.ok.live

pub hold-requires-clause-within : goal.hold-requires-clause-within
hold-requires-clause-within c =
    let s = c.args.scope.now in
    nodes-within s.coding (watched s) c.args.graph.now c.expressions.new.graph (AreOf s c.args.outputs.now) c.in_ok-nodes.nodes.items c.deref.result.now c.deref.ensures.value c.in_ok-nodes.ensures.ok

pub hold-requires-clause-side : goal.hold-requires-clause-side
hold-requires-clause-side c = within-longer c.args.graph.now c.expressions.new.graph (side_nodes c.args.side.now) c.in_ok-nodes.ensures.ok.count c.requires.side

pub returns-in_err-nodes : goal.returns-in_err-nodes
returns-in_err-nodes c = λ k gives.
    let s = c.args.scope.now in
    let p = err_from_is_err_and c.from_residual.result c.from_residual.ensures.1 in
    held-left s.coding (watched s) c.args.graph.now c.expressions.new.graph c.expressions.new.graph (AreOf s c.args.outputs.now) k c.from_residual.result p c.in_err-nodes.ensures

pub returns : goal.returns
returns c = λ k gives.
    let s = c.args.scope.now in let h = c.expressions.new.graph in let i = c.hold.new.graph in
    held-found s.coding (watched s) c.args.graph.now h i (AreOf s c.args.outputs.now) c.in_ok-nodes.nodes.items c.args.side.now k c.requires.serves.within gives c.in_ok-nodes.ensures.ok c.hold.result
    (subst (λ (ys : List ℕ). Tied s.coding h i ys c.args.side.now c.hold.result) c.deref.ensures.value (c.hold.ensures s.coding))
