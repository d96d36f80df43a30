use Rattle.std.proofs.Common.{sym, arith}
use Rattle.rml_syntax.specs.declared.token.Mark.TheVariants as mark
use Rattle.rml_grammar.specs.Tokens.{after}
use Rattle.rml_grammar.specs.Types.{type_at, tatom_at}
use Rattle.std.proofs.lemmas.Result.{err_from_is_err_and}
use Rattle.rml_phrases.proofs.Loops.{goes-on, ended, fails}
use Rattle.rml_phrases.proofs.types.+types.Goals as goal

pub more_types-loop-next-preserved : goal.more_types-loop-next-preserved
more_types-loop-next-preserved t c = rw c.in_ok-push.ensures.items (goes-on (after mark.Comma) (type_at c.args.levels) _ _ _ _ _ _ c.loop-next.invariant (sym c.in-Some.ensures.value) c.in_ok-item.ensures.mirrors (omega (arith, c.in_ok-item.ensures.shorter, c.in-Some.ensures.shorter)))

pub more_factors-loop-next-preserved : goal.more_factors-loop-next-preserved
more_factors-loop-next-preserved t c = rw c.in_ok-push.ensures.items (goes-on (after mark.Star) (tatom_at c.args.levels) _ _ _ _ _ _ c.loop-next.invariant (sym c.in-Some.ensures.value) c.in_ok-item.ensures.mirrors (omega (arith, c.in_ok-item.ensures.shorter, c.in-Some.ensures.shorter)))

pub more_types-returns-clause-mirrors : goal.more_types-returns-clause-mirrors
more_types-returns-clause-mirrors t c = ended (after mark.Comma) (type_at c.args.levels) _ _ _ c.loop-next.invariant (sym c.in_default.ensures.value)

pub more_types-returns-in_err-item-clause-mirrors : goal.more_types-returns-in_err-item-clause-mirrors
more_types-returns-in_err-item-clause-mirrors t c =
    let p = err_from_is_err_and c.from_residual.result c.from_residual.ensures.1 in
    rw (p.1, p.2) (fails (after mark.Comma) (type_at c.args.levels) _ _ _ _ _ c.loop-next.invariant (sym c.in-Some.ensures.value) (omega (arith, c.in-Some.ensures.shorter)) c.in_err-item.ensures.mirrors)

pub more_factors-returns-clause-mirrors : goal.more_factors-returns-clause-mirrors
more_factors-returns-clause-mirrors t c = ended (after mark.Star) (tatom_at c.args.levels) _ _ _ c.loop-next.invariant (sym c.in_default.ensures.value)

pub more_factors-returns-in_err-item-clause-mirrors : goal.more_factors-returns-in_err-item-clause-mirrors
more_factors-returns-in_err-item-clause-mirrors t c =
    let p = err_from_is_err_and c.from_residual.result c.from_residual.ensures.1 in
    rw (p.1, p.2) (fails (after mark.Star) (tatom_at c.args.levels) _ _ _ _ _ c.loop-next.invariant (sym c.in-Some.ensures.value) (omega (arith, c.in-Some.ensures.shorter)) c.in_err-item.ensures.mirrors)
