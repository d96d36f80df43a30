use Rattle.std.proofs.Common.{◌∙◌, ◌+◌, ◌<◌, sym, ap, length, drop, eqb, arith}
use Rattle.std.proofs.lemmas.Bool.{eqb-true}
use Rattle.rml_checked.proofs.Apart.{is_new, new_none, new_at}
use Rattle.rml_checked.proofs.binding.are_distinct.Goals as goal

pub loop-x-init : goal.loop-x-init
loop-x-init c = sym (ap (λ s. is_new eqb s c.args.xs.now) c.new-seen.ensures ∙ new_none eqb c.args.xs.now)

pub loop-x-preserved : goal.loop-x-preserved
loop-x-preserved c =
    let less : c.loop-x.x-index < length c.args.xs.now = omega arith in
    c.loop-x.invariant
    ∙ new_at eqb eqb-true c.loop-x.seen c.args.xs.now c.loop-x.x-index 0 less (sym c.has.ensures ∙ c.if-has.false)
    ∙ sym (ap (λ s. is_new eqb s (drop (c.loop-x.x-index + 1) c.args.xs.now)) c.in_ok-seen.ensures)
