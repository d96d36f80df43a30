use Rattle.std.proofs.Common.{◌==◌, Bool, Err, None, Option, eq-eqb, refl, subst, sym}
use Rattle.rml_types.specs.declared.scheme.Scheme.{Scheme}
use Rattle.rml_types.specs.Instances.{IsInstance}
use Rattle.rml_equations.specs.declared.stop.Stop.TheVariants as stop
use Rattle.rml_generator.specs.Scopes.{FindsNode, read, used_by, watched}
use Rattle.rml_generator.proofs.Adding.{found-alone, found-no-node}
use Rattle.rml_generator.proofs.Owning.{not-same}
use Rattle.rml_generator.proofs.scope.Scope.used.Goals as goal

pub returns-in-Some : goal.returns-in-Some
returns-in-Some c =
    let s = c.args.self.now in let g = c.args.graph.now in let h = c.instance.new.graph in
    subst (λ (o : Option Scheme). FindsNode s g h (λ told t. used_by s told c.args.number o (c.args.rel.now.place.text == s.text) t) c.instance.result) (sym c.in-Some.is)
    (found-alone s.coding (watched s) g h (λ t. IsInstance (read s c.in-Some.scheme.body) t) c.instance.result c.requires.live c.instance.ensures)

pub returns-then-rel-self : goal.returns-then-rel-self
returns-then-rel-self c =
    let s = c.args.self.now in let g = c.args.graph.now in let h = c.own.new.graph in
    subst (λ (o : Option Scheme). FindsNode s g h (λ told t. used_by s told c.args.number o (c.args.rel.now.place.text == s.text) t) c.own.result) (sym c.in-None.is)
    (subst (λ (b : Bool). FindsNode s g h (λ told t. used_by s told c.args.number None b t) c.own.result) (sym (eq-eqb c.args.rel.now.place.text s.text c.if-rel-self.true)) c.own.ensures)

pub returns-else-rel-self : goal.returns-else-rel-self
returns-else-rel-self c =
    let s = c.args.self.now in let g = c.args.graph.now in
    subst (λ (o : Option Scheme). FindsNode s g g (λ told t. used_by s told c.args.number o (c.args.rel.now.place.text == s.text) t) (Err stop.Untyped)) (sym c.in-None.is)
    (subst (λ (b : Bool). FindsNode s g g (λ told t. used_by s told c.args.number None b t) (Err stop.Untyped)) (sym (not-same c.args.rel.now.place.text s.text c.if-rel-self.false))
    (found-no-node s.coding (watched s) g g (λ told t. ⊥) (Err stop.Untyped) refl (λ told t never. never)))
