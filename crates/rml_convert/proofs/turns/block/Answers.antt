use Rattle.std.proofs.Common.{sym, ap, ◌∙◌}
use Rattle.rml_conversion.specs.Hand.{hand}
use Rattle.rml_convert.specs.Waiting.{all_made}
use Rattle.rml_convert.proofs.Lasts.{next-is-made}
use Rattle.rml_convert.proofs.turns.block.Goals as goal

pub loop-next-preserved : goal.loop-next-preserved
loop-next-preserved c =
    c.in_ok-turn.ensures.made ∙ sym (next-is-made c.pop.new.self.items c.in-Some.next (hand c.loop-next.made.items c.loop-next.numbers))
    ∙ ap (λ ws. all_made ws (hand c.loop-next.made.items c.loop-next.numbers)) (sym c.in-Some.ensures.items) ∙ c.loop-next.invariant
