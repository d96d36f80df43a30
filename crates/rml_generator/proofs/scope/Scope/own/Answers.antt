use Rattle.std.proofs.Common.{◌∙◌, Err, ℕ, Ok, Option, ap, refl, subst, sym}
use Rattle.std.specs.Prelude.{option_map}
use Rattle.rml_types.specs.declared.scheme.Scheme.{Scheme}
use Rattle.rml_types.specs.Instances.{IsInstance}
use Rattle.rml_typed.specs.Typed.{HasInstance}
use Rattle.rml_equations.specs.declared.stop.Stop.TheVariants as stop
use Rattle.rml_generator.specs.declared.scope.Group.{Group}
use Rattle.rml_generator.specs.Entries.{entry}
use Rattle.rml_generator.specs.Scopes.{AtOwnType, FindsNode, group_nodes, grouped, watched}
use Rattle.rml_generator.proofs.Adding.{found-alone, found-no-node}
use Rattle.rml_generator.proofs.Owning.{own-found}
use Rattle.rml_generator.proofs.scope.Scope.own.Goals as goal

pub returns-in-Some : goal.returns-in-Some
returns-in-Some c =
    let s = c.args.self.now in let g = c.args.graph.now in let r = c.args.number in
    subst (λ (x : Group). FindsNode s g g (λ told t. grouped x told r t) (Ok c.in-Some.node.now)) (sym c.in-Inside.is)
    (own-found s g r (entry c.in-Inside.nodes.now r) c.in-Some.node.now c.requires (ap (λ (x : Group). group_nodes x r) c.in-Inside.is ∙ sym c.in-Some.ensures) (sym c.in-Some.ensures))

pub returns-in-None : goal.returns-in-None
returns-in-None c =
    let s = c.args.self.now in let g = c.args.graph.now in let r = c.args.number in
    subst (λ (x : Group). FindsNode s g g (λ told t. grouped x told r t) (Err stop.Untyped)) (sym c.in-Inside.is)
    (subst (λ (o : Option ℕ). FindsNode s g g (λ told t. AtOwnType o (told.group r) t) (Err stop.Untyped)) c.in-None.ensures
    (found-no-node s.coding (watched s) g g (λ told t. ⊥) (Err stop.Untyped) refl (λ told t never. never)))

pub returns-in-Some-entry : goal.returns-in-Some-entry
returns-in-Some-entry c =
    let s = c.args.self.now in let g = c.args.graph.now in let h = c.instance_as_is.new.graph in let r = c.args.number in
    subst (λ (x : Group). FindsNode s g h (λ told t. grouped x told r t) c.instance_as_is.result) (sym c.in-Outside.is)
    (subst (λ (o : Option Scheme). FindsNode s g h (λ told t. HasInstance (option_map (λ (d : Scheme). d.body) o) t) c.instance_as_is.result) c.in-Some-entry.ensures
    (found-alone s.coding (watched s) g h (λ t. IsInstance c.in-Some-entry.scheme.now.body t) c.instance_as_is.result c.requires.live c.instance_as_is.ensures))

pub returns-in-None-entry : goal.returns-in-None-entry
returns-in-None-entry c =
    let s = c.args.self.now in let g = c.args.graph.now in let r = c.args.number in
    subst (λ (x : Group). FindsNode s g g (λ told t. grouped x told r t) (Err stop.Untyped)) (sym c.in-Outside.is)
    (subst (λ (o : Option Scheme). FindsNode s g g (λ told t. HasInstance (option_map (λ (d : Scheme). d.body) o) t) (Err stop.Untyped)) c.in-None-entry.ensures
    (found-no-node s.coding (watched s) g g (λ told t. ⊥) (Err stop.Untyped) refl (λ told t never. never)))
