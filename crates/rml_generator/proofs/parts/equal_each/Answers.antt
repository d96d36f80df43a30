use Rattle.std.proofs.Common.{Err, ap, arith, get_or, length}
use Rattle.std.proofs.lemmas.List.{get_or_default}
use Rattle.std.proofs.lemmas.Result.{err_from_is_err_and}
use Rattle.rml_generator.proofs.Holding.{each-more, each-none, each-refused, equals-each, equals-each-left, equals-each-none}
use Rattle.rml_generator.proofs.parts.equal_each.Goals as goal

pub returns-then-nodes-others : goal.returns-then-nodes-others
returns-then-nodes-others c = equals-each-none c.args.graph.now c.args.graph.now c.args.nodes.now c.args.others.now c.if-nodes-others.true

pub loop-i-init : goal.loop-i-init
loop-i-init c = each-none c.args.graph.now c.requires.live

pub same-requires-clause-live : goal.same-requires-clause-live
same-requires-clause-live c = c.loop-i.invariant.live

pub same-requires-clause-a_within : goal.same-requires-clause-a_within
same-requires-clause-a_within c = let e = ap length c.loop-i.invariant.forms in let w = c.requires.within c.loop-i.i 0 (omega arith) in omega arith

pub same-requires-clause-b_within : goal.same-requires-clause-b_within
same-requires-clause-b_within c = let e = ap length c.loop-i.invariant.forms in let w = c.requires.others_within c.loop-i.i 0 (omega arith) in omega arith

pub loop-i-preserved : goal.loop-i-preserved
loop-i-preserved c =
    let i = c.loop-i.i in let xs = c.args.nodes.now in let ys = c.args.others.now in
    each-more c.args.graph.now xs ys c.loop-i.graph i (get_or xs i 0) (get_or ys i 0) (omega arith) (omega arith) (get_or_default xs i 0 _ (omega arith)) (get_or_default ys i 0 _ (omega arith)) c.loop-i.invariant
    c.same.new.graph c.in_ok-same.ensures.ok

pub returns-in_err-same : goal.returns-in_err-same
returns-in_err-same c =
    let i = c.loop-i.i in let xs = c.args.nodes.now in let ys = c.args.others.now in
    let p = err_from_is_err_and c.from_residual.result c.from_residual.ensures.1 in
    equals-each-left c.args.graph.now c.same.new.graph xs ys c.from_residual.result p (λ e.
    each-refused c.args.graph.now xs ys c.loop-i.graph i (get_or xs i 0) (get_or ys i 0) (omega arith) (omega arith) (get_or_default xs i 0 _ (omega arith)) (get_or_default ys i 0 _ (omega arith)) c.loop-i.invariant
    (c.in_err-same.ensures.none (ap Err e)))

pub returns : goal.returns
returns c = equals-each c.args.graph.now c.loop-i.graph c.args.nodes.now c.args.others.now c.loop-i.i _ (omega arith) (omega arith) c.loop-i.invariant
