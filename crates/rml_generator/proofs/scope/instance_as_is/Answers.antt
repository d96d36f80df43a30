use Rattle.std.proofs.Common.{[], subst, sym}
use Rattle.std.specs.Prelude.{IsTrue}
use Rattle.std.proofs.lemmas.Result.{err_from_is_err_and}
use Rattle.rml_types.specs.declared.tree.SchemeTree.{SchemeTree}
use Rattle.rml_types.specs.Instances.{IsInstance}
use Rattle.rml_types.specs.Schemes.{vars_below}
use Rattle.rml_equations.specs.Joins.{Links}
use Rattle.rml_generator.proofs.Making.{links-left-no-memory}
use Rattle.rml_generator.proofs.scope.instance_as_is.Goals as goal

pub instance_of-requires-clause-below : goal.instance_of-requires-clause-below
instance_of-requires-clause-below c = subst (λ t. IsTrue (vars_below c.args.scheme.now.vars t)) (sym c.in_ok-body.ensures) c.args.scheme.now.vars_named

pub returns-in_err-body : goal.returns-in_err-body
returns-in_err-body c =
    let p = err_from_is_err_and c.from_residual.result c.from_residual.ensures.1 in
    links-left-no-memory c.args.coding c.args.graph.now c.args.graph.now [] (λ ts t. IsInstance c.args.scheme.now.body t) c.from_residual.result p

pub returns : goal.returns
returns c =
    let g = c.args.graph.now in let h = c.instance_of.new.graph in
    subst (λ (u : SchemeTree). Links c.args.coding g h [] (λ ts t. IsInstance u t) c.instance_of.result) c.in_ok-body.ensures c.instance_of.ensures
