use Rattle.std.proofs.Common.{◌∙◌}
use Rattle.rml_top.proofs.Printing.{one-more}
use Rattle.rml_top.proofs.text.joined.Goals as goal

pub loop-literal-preserved : goal.loop-literal-preserved
loop-literal-preserved c = one-more c.args.literals.now c.loop-literal.literal-index _ c.loop-literal.text.items c.add_value.new.text.items c.loop-literal-test.true c.in_ok-add_value.ensures ∙ c.loop-literal.invariant
