use Rattle.std.proofs.Common.{Err, Option, refl, subst}
use Rattle.rml_resolved.specs.declared.tables.RelDef.{RelDef}
use Rattle.rml_equations.specs.declared.stop.Stop.TheVariants as stop
use Rattle.rml_generator.specs.Scopes.{FindsNode, used_at, watched}
use Rattle.rml_generator.proofs.Adding.{found-no-node}
use Rattle.rml_generator.proofs.scope.Scope.relation.Goals as goal

pub returns-in-Some : goal.returns-in-Some
returns-in-Some c =
    let s = c.args.self.now in
    subst (λ (o : Option RelDef). FindsNode s c.args.graph.now c.used.new.graph (λ told t. used_at s told c.args.number o t) c.used.result) c.in-Some.ensures c.used.ensures

pub returns-in-None : goal.returns-in-None
returns-in-None c =
    let s = c.args.self.now in
    subst (λ (o : Option RelDef). FindsNode s c.args.graph.now c.args.graph.now (λ told t. used_at s told c.args.number o t) (Err stop.Untyped)) c.in-None.ensures
    (found-no-node s.coding (watched s) c.args.graph.now c.args.graph.now (λ told t. ⊥) (Err stop.Untyped) refl (λ told t never. never))
