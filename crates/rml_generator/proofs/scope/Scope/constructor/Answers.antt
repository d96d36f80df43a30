use Rattle.std.proofs.Common.{Err, Option, [], refl, subst}
use Rattle.std.specs.Prelude.{option_map}
use Rattle.rml_types.specs.declared.tree.SchemeTree.{SchemeTree}
use Rattle.rml_resolved.specs.declared.tables.ConDef.{ConDef}
use Rattle.rml_typed.specs.Typed.{HasInstance}
use Rattle.rml_equations.specs.Joins.{Links}
use Rattle.rml_equations.specs.declared.stop.Stop.TheVariants as stop
use Rattle.rml_generator.specs.declared.scope.Scope.{Scope}
use Rattle.rml_generator.specs.Scopes.{read}
use Rattle.rml_generator.proofs.Making.{links-none}
use Rattle.rml_generator.proofs.scope.Scope.constructor.Goals as goal

abbrev IsOf : Scope → Option ConDef → SchemeTree → Type 0
IsOf s o t = HasInstance (option_map (λ (d : ConDef). read s d.scheme.body) o) t

pub returns-in-Some : goal.returns-in-Some
returns-in-Some c =
    let s = c.args.self.now in
    subst (λ (o : Option ConDef). Links s.coding c.args.graph.now c.instance.new.graph [] (λ ts t. IsOf s o t) c.instance.result) c.in-Some.ensures c.instance.ensures

pub returns-in-None : goal.returns-in-None
returns-in-None c =
    let s = c.args.self.now in
    subst (λ (o : Option ConDef). Links s.coding c.args.graph.now c.args.graph.now [] (λ ts t. IsOf s o t) (Err stop.Untyped)) c.in-None.ensures
    (links-none s.coding c.args.graph.now c.args.graph.now [] (λ ts t. ⊥) (Err stop.Untyped) refl (λ ts t never. never))
