use Rattle.std.proofs.Common.{[]}
use Rattle.std.proofs.lemmas.Result.{err_from_is_err_and}
use Rattle.rml_equations.proofs.Callers.{linked}
use Rattle.rml_generator.proofs.Making.{joins-any, links-left-no-memory}
use Rattle.rml_generator.proofs.wholes.any_type.Goals as goal

pub returns-in_err-var : goal.returns-in_err-var
returns-in_err-var c = λ k.
    let p = err_from_is_err_and c.from_residual.result c.from_residual.ensures.1 in
    links-left-no-memory k c.args.graph.now c.var.new.self [] (λ ts t. Unit {0}) c.from_residual.result p

pub returns : goal.returns
returns c = λ k.
    linked k c.args.graph.now c.var.new.self [] (λ ts t. Unit {0}) c.in_ok-var.field-0
    (joins-any k c.args.graph.now c.var.new.self c.in_ok-var.field-0 c.requires c.in_ok-var.ensures.node c.in_ok-var.ensures.ok c.in_ok-var.ensures.types)
