use Rattle.std.proofs.Common.{sym, arith}
use Rattle.rml_syntax.specs.declared.token.Mark.TheVariants as mark
use Rattle.rml_grammar.specs.Tokens.{after}
use Rattle.rml_grammar.specs.Goals.{goal_at}
use Rattle.rml_phrases.proofs.Callers.{goes-on, ended, fails}
use Rattle.std.proofs.lemmas.Result.{err_from_is_err_and}
use Rattle.rml_parse.proofs.goals.+goals.Goals as goal

pub more_goals-loop-next-preserved : goal.more_goals-loop-next-preserved
more_goals-loop-next-preserved t c = rw c.in_ok-push.ensures.items (goes-on (after mark.Amp) (goal_at c.args.levels) _ _ _ _ _ _ c.loop-next.invariant (sym c.in-Some.ensures.value) c.in_ok-item.ensures.mirrors (omega (arith, c.in_ok-item.ensures.shorter, c.in-Some.ensures.shorter)))

pub more_goals-returns-clause-mirrors : goal.more_goals-returns-clause-mirrors
more_goals-returns-clause-mirrors t c = ended (after mark.Amp) (goal_at c.args.levels) _ _ _ c.loop-next.invariant (sym c.in_default.ensures.value)

pub more_goals-returns-in_err-item-clause-mirrors : goal.more_goals-returns-in_err-item-clause-mirrors
more_goals-returns-in_err-item-clause-mirrors t c =
    let p = err_from_is_err_and c.from_residual.result c.from_residual.ensures.1 in
    rw (p.1, p.2) (fails (after mark.Amp) (goal_at c.args.levels) _ _ _ _ _ c.loop-next.invariant (sym c.in-Some.ensures.value) (omega (arith, c.in-Some.ensures.shorter)) c.in_err-item.ensures.mirrors)
