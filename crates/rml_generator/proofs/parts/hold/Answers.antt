use Rattle.std.proofs.Common.{arith, length, sym}
use Rattle.std.proofs.lemmas.Result.{err_from_is_err_and}
use Rattle.rml_generator.proofs.Holding.{each-below, each-tied, tied-no-memory, whole-below, whole-tied}
use Rattle.rml_generator.proofs.parts.hold.Goals as goal

pub equal_each-requires-clause-others_within : goal.equal_each-requires-clause-others_within
equal_each-requires-clause-others_within c = each-below (length c.args.graph.now.forms) c.args.side.now c.in-Each.types c.deref.result.now c.in-Each.is c.deref.ensures.value c.requires.side

pub same-requires-clause-b_within : goal.same-requires-clause-b_within
same-requires-clause-b_within c =
    let b = whole-below (length c.args.graph.now.forms) c.args.side.now c.in-Whole.whole c.in-Whole.is c.requires.side in
    let l = c.in_ok-node-in-Whole.ensures.count in
    omega arith

pub returns-in-Each : goal.returns-in-Each
returns-in-Each c = λ k.
    each-tied k c.args.graph.now c.equal_each.new.graph c.args.nodes.now c.deref.result.now c.args.side.now c.in-Each.types c.equal_each.result c.in-Each.is (sym c.deref.ensures.value) c.equal_each.ensures

pub returns-in_err-node-in-Whole : goal.returns-in_err-node-in-Whole
returns-in_err-node-in-Whole c = λ k.
    let p = err_from_is_err_and c.from_residual.result c.from_residual.ensures.1 in
    tied-no-memory k c.args.graph.now c.tuple.new.graph c.args.nodes.now c.args.side.now c.from_residual.result p

pub returns-in_ok-node-in-Whole : goal.returns-in_ok-node-in-Whole
returns-in_ok-node-in-Whole c = λ k.
    whole-tied k c.args.graph.now c.tuple.new.graph c.same.new.graph c.args.nodes.now c.in_ok-node-in-Whole.node c.in-Whole.whole c.requires.within
    (whole-below (length c.args.graph.now.forms) c.args.side.now c.in-Whole.whole c.in-Whole.is c.requires.side) c.in_ok-node-in-Whole.ensures c.args.side.now c.same.result c.in-Whole.is c.same.ensures
