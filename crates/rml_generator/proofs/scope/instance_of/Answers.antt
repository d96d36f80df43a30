use Rattle.std.proofs.Common.{[], ◌∙◌, subst, sym}
use Rattle.std.specs.Prelude.{IsTrue}
use Rattle.std.proofs.lemmas.Result.{err_from_is_err_and}
use Rattle.rml_types.specs.Instances.{IsInstance}
use Rattle.rml_types.specs.Runs.{HasInstances}
use Rattle.rml_types.specs.Schemes.{vars_below}
use Rattle.rml_equations.proofs.Callers.{linked}
use Rattle.rml_generator.proofs.Below.{coded-below}
use Rattle.rml_generator.proofs.Making.{links-left-no-memory}
use Rattle.rml_generator.proofs.Scoping.{joins-instance}
use Rattle.rml_generator.proofs.scope.instance_of.Goals as goal

pub of-requires : goal.of-requires
of-requires c = subst (λ t. IsTrue (vars_below c.args.vars t)) (sym c.in_ok-body.ensures) (coded-below c.args.vars c.args.coding c.args.body c.requires.below)

pub returns-in_err-body : goal.returns-in_err-body
returns-in_err-body c =
    let p = err_from_is_err_and c.from_residual.result c.from_residual.ensures.1 in
    links-left-no-memory c.args.coding c.args.graph.now c.args.graph.now [] (λ ts t. IsInstance c.args.body t) c.from_residual.result p

pub returns-in_err-node : goal.returns-in_err-node
returns-in_err-node c =
    let p = err_from_is_err_and c.from_residual-in_err-node.result c.from_residual-in_err-node.ensures.1 in
    links-left-no-memory c.args.coding c.args.graph.now c.instance.new.self [] (λ ts t. IsInstance c.args.body t) c.from_residual-in_err-node.result p

pub returns : goal.returns
returns c =
    let g = c.args.graph.now in let h = c.instance.new.self in
    linked c.args.coding g h [] (λ ts t. IsInstance c.args.body t) c.in_ok-node.node
    (joins-instance c.args.coding g h c.in_ok-node.node c.args.body c.requires.live c.in_ok-node.ensures.grows
    (subst (HasInstances g h c.in_ok-node.node) (c.of.ensures.1 ∙ c.in_ok-body.ensures) c.in_ok-node.ensures.ok))
