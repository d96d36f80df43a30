use Rattle.std.proofs.Common.{sym, arith}
use Rattle.rml_syntax.specs.declared.token.Mark.TheVariants as mark
use Rattle.rml_grammar.specs.Tokens.{after}
use Rattle.rml_grammar.specs.Expressions.{exp_at, eapp_at}
use Rattle.std.proofs.lemmas.Result.{err_from_is_err_and}
use Rattle.rml_phrases.proofs.Loops.{goes-on, ended, fails}
use Rattle.rml_phrases.proofs.expressions.+expressions.Goals as goal

pub more_exps-loop-next-preserved : goal.more_exps-loop-next-preserved
more_exps-loop-next-preserved t c = rw c.in_ok-push.ensures.items (goes-on (after mark.Comma) (exp_at c.args.levels) _ _ _ _ _ _ c.loop-next.invariant (sym c.in-Some.ensures.value) c.in_ok-item.ensures.mirrors (omega (arith, c.in_ok-item.ensures.shorter, c.in-Some.ensures.shorter)))

pub tails-loop-next-preserved : goal.tails-loop-next-preserved
tails-loop-next-preserved t c = rw c.in_ok-push.ensures.items (goes-on (after mark.TwoColons) (eapp_at c.args.levels) _ _ _ _ _ _ c.loop-next.invariant (sym c.in-Some.ensures.value) c.in_ok-item.ensures.mirrors (omega (arith, c.in_ok-item.ensures.shorter, c.in-Some.ensures.shorter)))

pub tails-returns-clause-mirrors : goal.tails-returns-clause-mirrors
tails-returns-clause-mirrors t c = ended (after mark.TwoColons) (eapp_at c.args.levels) _ _ _ c.loop-next.invariant (sym c.in_default.ensures.value)

pub tails-returns-in_err-item-clause-mirrors : goal.tails-returns-in_err-item-clause-mirrors
tails-returns-in_err-item-clause-mirrors t c =
    let p = err_from_is_err_and c.from_residual.result c.from_residual.ensures.1 in
    rw (p.1, p.2) (fails (after mark.TwoColons) (eapp_at c.args.levels) _ _ _ _ _ c.loop-next.invariant (sym c.in-Some.ensures.value) (omega (arith, c.in-Some.ensures.shorter)) c.in_err-item.ensures.mirrors)
