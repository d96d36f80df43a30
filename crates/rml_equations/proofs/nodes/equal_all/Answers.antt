use Rattle.std.proofs.Common.{Err, List, ℕ, length, get_or, take, ap, arith, subst, sym}
use Rattle.std.proofs.lemmas.List.{take_more}
use Rattle.std.proofs.lemmas.Result.{err_from_is_err_and}
use Rattle.rml_equations.specs.Joins.{EquatesAll}
use Rattle.rml_equations.proofs.Joining.{cannot-at, equates-more, equates-none}
use Rattle.rml_equations.proofs.nodes.equal_all.Goals as goal

pub loop-node-init : goal.loop-node-init
loop-node-init c = equates-none c.args.graph.now c.args.one c.requires.live

pub unify-requires-clause-a_within : goal.unify-requires-clause-a_within
unify-requires-clause-a_within c = let e = ap length c.loop-node.invariant.forms in let w = c.requires.within c.loop-node.node-index 0 c.loop-node-test.true in omega arith

pub unify-requires-clause-b_within : goal.unify-requires-clause-b_within
unify-requires-clause-b_within c = let e = ap length c.loop-node.invariant.forms in let w = c.requires.one_within in omega arith

pub returns-in_err-unify-clause-none : goal.returns-in_err-unify-clause-none
returns-in_err-unify-clause-none c = λ q.
    let p = err_from_is_err_and c.from_residual.result c.from_residual.ensures.1 in
    cannot-at c.args.graph.now c.loop-node.graph c.args.nodes.now c.loop-node.node-index c.args.one c.from_residual.result p.0 c.in_err-unify.field-0.0 c.loop-node-test.true p.1 p.2 c.loop-node.invariant
    (λ clash. c.in_err-unify.ensures.no_types (ap Err clash) c.loop-node.invariant.live) q

pub loop-node-preserved : goal.loop-node-preserved
loop-node-preserved c =
    subst (λ (xs : List ℕ). EquatesAll c.args.graph.now c.unify.new.self xs c.args.one) (sym (take_more c.args.nodes.now c.loop-node.node-index 0 c.loop-node-test.true))
    (equates-more c.args.graph.now c.loop-node.graph c.unify.new.self (take c.loop-node.node-index c.args.nodes.now) (get_or c.args.nodes.now c.loop-node.node-index 0) c.args.one c.loop-node.invariant
    c.in_ok-unify.ensures.failed c.in_ok-unify.ensures.forms c.in_ok-unify.ensures.types)
