use Rattle.std.proofs.Common.{◌∙◌, sym, arith, refl}
use Rattle.rml_builtin.proofs.Digits.{none-after}
use Rattle.rml_builtin.proofs.decimal.number.Goals as goal

pub returns-in_err-n : goal.returns-in_err-n
returns-in_err-n c =
    c.from_residual.ensures
    ∙ sym (c.loop-c.invariant.whole ∙ none-after c.loop-c.n c.loop-c.c-index _ c.args.digits.now (omega arith) refl (sym c.digit_after.ensures ∙ c.in_err-n.was))
