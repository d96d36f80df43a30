use Rattle.std.proofs.Common.{sym, arith}
use Rattle.rml_syntax.specs.declared.token.Mark.TheVariants as mark
use Rattle.rml_grammar.specs.Tokens.{after}
use Rattle.rml_grammar.specs.Texts.{con_at}
use Rattle.std.proofs.lemmas.Result.{err_from_is_err_and}
use Rattle.rml_phrases.proofs.Callers.{goes-on, ended, fails}
use Rattle.rml_parse.proofs.datatypes.more_constructors.Goals as goal

pub loop-next-preserved : goal.loop-next-preserved
loop-next-preserved c = rw c.in_ok-push.ensures.items (goes-on (after mark.Bar) (con_at c.args.levels) _ _ _ _ _ _ c.loop-next.invariant (sym c.in-Some.ensures.value) c.in_ok-item.ensures.mirrors (omega (arith, c.in_ok-item.ensures.shorter, c.in-Some.ensures.shorter)))

pub returns-clause-mirrors : goal.returns-clause-mirrors
returns-clause-mirrors c = ended (after mark.Bar) (con_at c.args.levels) _ _ _ c.loop-next.invariant (sym c.in_default.ensures.value)

pub returns-in_err-item-clause-mirrors : goal.returns-in_err-item-clause-mirrors
returns-in_err-item-clause-mirrors c =
    let p = err_from_is_err_and c.from_residual.result c.from_residual.ensures.1 in
    rw (p.1, p.2) (fails (after mark.Bar) (con_at c.args.levels) _ _ _ _ _ c.loop-next.invariant (sym c.in-Some.ensures.value) (omega (arith, c.in-Some.ensures.shorter)) c.in_err-item.ensures.mirrors)
