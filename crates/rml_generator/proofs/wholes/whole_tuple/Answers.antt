use Rattle.std.proofs.Common.{◌≡◌}
use Rattle.std.proofs.lemmas.Result.{err_from_is_err_and}
use Rattle.rml_types.specs.declared.tree.SchemeTree.TheVariants as tree
use Rattle.rml_equations.proofs.Callers.{linked}
use Rattle.rml_generator.proofs.Making.{joins-tuple, links-left-no-memory}
use Rattle.rml_generator.proofs.wholes.whole_tuple.Goals as goal

pub returns-in_err-tuple : goal.returns-in_err-tuple
returns-in_err-tuple c = λ k.
    let p = err_from_is_err_and c.from_residual.result c.from_residual.ensures.1 in
    links-left-no-memory k c.args.graph.now c.tuple.new.graph c.args.nodes.now (λ ts t. t ≡ tree.Tuple ts) c.from_residual.result p

pub returns : goal.returns
returns c = λ k.
    linked k c.args.graph.now c.tuple.new.graph c.args.nodes.now (λ ts t. t ≡ tree.Tuple ts) c.in_ok-tuple.field-0
    (joins-tuple k c.args.graph.now c.tuple.new.graph c.args.nodes.now c.in_ok-tuple.field-0 c.requires.within c.in_ok-tuple.ensures)
