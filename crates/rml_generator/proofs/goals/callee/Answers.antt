use Rattle.std.proofs.Common.{subst, sym}
use Rattle.rml_resolved.specs.declared.trees.Callee.{Callee}
use Rattle.rml_typed.specs.Typed.{CalleeOf, HasInstance, built_in_type}
use Rattle.rml_generator.specs.Scopes.{FindsNode, reads, uses, watched}
use Rattle.rml_generator.proofs.Adding.{found-alone}
use Rattle.rml_generator.proofs.goals.callee.Goals as goal

pub returns-in-Rel : goal.returns-in-Rel
returns-in-Rel c =
    let s = c.args.scope.now in
    subst (λ (f : Callee). FindsNode s c.args.graph.now c.relation.new.graph (λ told t. CalleeOf (reads s) (uses s told) told.vars f t) c.relation.result) (sym c.in-Rel.is) c.relation.ensures

pub returns-in-Built : goal.returns-in-Built
returns-in-Built c =
    let s = c.args.scope.now in
    subst (λ (f : Callee). FindsNode s c.args.graph.now c.built_in.new.graph (λ told t. CalleeOf (reads s) (uses s told) told.vars f t) c.built_in.result) (sym c.in-Built.is)
    (found-alone s.coding (watched s) c.args.graph.now c.built_in.new.graph (λ t. HasInstance (built_in_type c.in-Built.k) t) c.built_in.result c.requires.live c.built_in.ensures)

pub returns-in-Var : goal.returns-in-Var
returns-in-Var c =
    let s = c.args.scope.now in
    subst (λ (f : Callee). FindsNode s c.args.graph.now c.variable.new.graph (λ told t. CalleeOf (reads s) (uses s told) told.vars f t) c.variable.result) (sym c.in-Var.is) c.variable.ensures

pub returns-in-Val : goal.returns-in-Val
returns-in-Val c =
    let s = c.args.scope.now in
    subst (λ (f : Callee). FindsNode s c.args.graph.now c.val.new.graph (λ told t. CalleeOf (reads s) (uses s told) told.vars f t) c.val.result) (sym c.in-Val.is)
    (found-alone s.coding (watched s) c.args.graph.now c.val.new.graph (λ t. HasInstance ((reads s).val c.in-Val.v) t) c.val.result c.requires.live c.val.ensures)
