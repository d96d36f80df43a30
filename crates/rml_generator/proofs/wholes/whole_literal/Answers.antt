use Rattle.std.proofs.Common.{◌≡◌, ◌<◌, [], length}
use Rattle.std.proofs.lemmas.Result.{err_from_is_err_and}
use Rattle.std.proofs.lemmas.List.Elements.{All-nil}
use Rattle.rml_typed.specs.Typed.{type_of_literal}
use Rattle.rml_equations.proofs.Callers.{linked}
use Rattle.rml_generator.proofs.Making.{joins-literal, links-left-no-memory}
use Rattle.rml_generator.proofs.wholes.whole_literal.Goals as goal

pub returns-in_err-literal : goal.returns-in_err-literal
returns-in_err-literal c = λ k.
    let p = err_from_is_err_and c.from_residual.result c.from_residual.ensures.1 in
    links-left-no-memory k c.args.graph.now c.literal.new.graph [] (λ ts t. t ≡ type_of_literal c.args.lit) c.from_residual.result p

pub returns : goal.returns
returns c = λ k.
    linked k c.args.graph.now c.literal.new.graph [] (λ ts t. t ≡ type_of_literal c.args.lit) c.in_ok-literal.field-0
    (joins-literal k c.args.graph.now c.literal.new.graph c.in_ok-literal.field-0 c.args.lit (All-nil (λ n. n < length c.args.graph.now.forms)) c.in_ok-literal.ensures)
