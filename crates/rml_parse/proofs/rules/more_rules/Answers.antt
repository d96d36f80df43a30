use Rattle.std.proofs.Common.{sym, arith}
use Rattle.std.proofs.lemmas.Result.{err_from_is_err_and}
use Rattle.rml_parse.proofs.Clauses.{clauses-go-on, clauses-ended, clauses-full, clauses-fail}
use Rattle.rml_parse.proofs.rules.more_rules.Goals as goal

pub loop-next-preserved : goal.loop-next-preserved
loop-next-preserved c = rw c.in_ok-push.ensures.items (clauses-go-on c.args.levels c.args.most _ _ _ _ _ _ _ c.loop-next.invariant c.if-left-eq0.false (sym c.in-Some.ensures.value) c.in_ok-item.ensures.mirrors (omega (arith, c.in_ok-item.ensures.shorter, c.in-Some.ensures.shorter)))

pub returns-clause-mirrors : goal.returns-clause-mirrors
returns-clause-mirrors c = clauses-ended c.args.levels c.args.most _ _ _ _ c.loop-next.invariant (sym c.in_default.ensures.value)

pub returns-then-left-eq0-clause-mirrors : goal.returns-then-left-eq0-clause-mirrors
returns-then-left-eq0-clause-mirrors c = rw c.at.ensures (clauses-full c.args.levels c.args.most _ _ _ _ _ c.loop-next.invariant c.if-left-eq0.true (sym c.in-Some.ensures.value))

pub returns-in_err-item-clause-mirrors : goal.returns-in_err-item-clause-mirrors
returns-in_err-item-clause-mirrors c =
    let p = err_from_is_err_and c.from_residual.result c.from_residual.ensures.1 in
    rw (p.1, p.2) (clauses-fail c.args.levels c.args.most _ _ _ _ _ _ c.loop-next.invariant c.if-left-eq0.false (sym c.in-Some.ensures.value) c.in_err-item.ensures.mirrors)
