use Rattle.std.proofs.Common.{ap, sym, ◌∙◌}
use Rattle.rml_conversion.specs.Hand.{Hand, hand}
use Rattle.rml_convert.specs.declared.waiting.Waiting.{Waiting}
use Rattle.rml_convert.specs.Waiting.{waiting_made, all_made}
use Rattle.rml_convert.proofs.turns.turn.Goals as goal

pub returns-in_ok-name_block-in-Named-clause-made : goal.returns-in_ok-name_block-in-Named-clause-made
returns-in_ok-name_block-in-Named-clause-made c =
    ap (λ (s : Hand). all_made c.args.waiting.now.items s) (c.in_ok-name_block-in-Named.ensures c.args.numbers.now)
    ∙ ap (λ (w : Waiting). all_made c.args.waiting.now.items (waiting_made w (hand c.args.made.now.items c.args.numbers.now))) (sym c.in-Named.is)
