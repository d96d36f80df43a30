use Rattle.std.proofs.Common.{arith, sym, ◌∙◌, refl, pos, ext_get_or}
use Rattle.rml_value.specs.declared.value.Value.TheVariants.{Int}
use Rattle.rml_value.specs.Same.{same}
use Rattle.rml_value.proofs.AllSame.{all_same-lengths, all_same-at}
use Rattle.rml_value.proofs.equality.+equality.Goals as goal

pub all_equal-returns-clause-equal : goal.all_equal-returns-clause-equal
all_equal-returns-clause-equal t c = (λ _. ext_get_or (Int (pos 0)) c.args.xs.now c.args.ys.now (omega arith) (λ k h. c.loop-i.invariant.before k (Int (pos 0)) (omega arith)), λ _. refl)

pub all_equal-returns-then-xs-ys-clause-same : goal.all_equal-returns-then-xs-ys-clause-same
all_equal-returns-then-xs-ys-clause-same t c = sym (all_same-lengths same _ _ c.if-xs-ys.true)

pub all_equal-returns-then-not-equal-clause-same : goal.all_equal-returns-then-not-equal-clause-same
all_equal-returns-then-not-equal-clause-same t c =
    sym (c.loop-i.invariant.after
    ∙ all_same-at same c.args.xs.now c.args.ys.now c.loop-i.i c.index-xs-i.result c.index-ys-i.result (omega arith) (omega arith) c.index-xs-i.is c.index-ys-i.is
    ∙ rw (sym c.equal.ensures.same, c.if-not-equal.true))
