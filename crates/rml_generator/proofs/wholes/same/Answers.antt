use Rattle.std.proofs.Common.{Err, ap}
use Rattle.std.proofs.lemmas.Result.{err_from_is_err_and}
use Rattle.rml_generator.proofs.Making.{equals-left, equals-made}
use Rattle.rml_generator.proofs.wholes.same.Goals as goal

pub returns-in_err-unify : goal.returns-in_err-unify
returns-in_err-unify c =
    let p = err_from_is_err_and c.from_residual.result c.from_residual.ensures.1 in
    equals-left c.args.graph.now c.unify.new.self c.args.a c.args.b c.from_residual.result c.in_err-unify.field-0.0 p (λ e. c.in_err-unify.ensures.no_types (ap Err e) c.requires.live)

pub returns : goal.returns
returns c = equals-made c.args.graph.now c.unify.new.self c.args.a c.args.b _ c.in_ok-unify.ensures.failed c.in_ok-unify.ensures.forms c.in_ok-unify.ensures.types
