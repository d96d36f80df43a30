use Rattle.std.proofs.Common.{sym, arith, refl}
use Rattle.rml_grammar.specs.Texts.{uses_next, uses_at}
use Rattle.std.proofs.lemmas.Result.{err_from_is_err_and}
use Rattle.rml_phrases.proofs.Callers.{goes-on, ended, fails-at}
use Rattle.rml_parse.proofs.texts.uses.Goals as goal

pub loop-next-preserved : goal.loop-next-preserved
loop-next-preserved c = rw c.in_ok-push.ensures.ok (goes-on uses_next uses_at _ _ _ _ _ _ c.loop-next.invariant (sym c.in-Some.ensures.value) c.in_ok-item.ensures.mirrors (omega (arith, c.in_ok-item.ensures.shorter, c.in-Some.ensures.shorter)))

pub returns-clause-mirrors : goal.returns-clause-mirrors
returns-clause-mirrors c = ended uses_next uses_at _ _ _ c.loop-next.invariant (sym c.in_default.ensures.value)

pub returns-in_err-item-clause-mirrors : goal.returns-in_err-item-clause-mirrors
returns-in_err-item-clause-mirrors c =
    let p = err_from_is_err_and c.from_residual.result c.from_residual.ensures.1 in
    rw (p.1, p.2) (fails-at uses_next uses_at refl _ _ _ _ _ c.loop-next.invariant (sym c.in-Some.ensures.value) c.in_err-item.ensures.mirrors)
