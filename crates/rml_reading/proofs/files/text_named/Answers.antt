use Rattle.std.proofs.Common.{sym, ◌∙◌}
use Rattle.rml_reading.proofs.Named.{named_here, named_nowhere}
use Rattle.rml_reading.proofs.files.text_named.Goals as goal

pub returns-then-is_same : goal.returns-then-is_same
returns-then-is_same c =
    named_here c.args.parts.now c.args.name.now c.last_part-own.result.now c.loop-at.at c.index-parts-at.result c.last_part-own.ensures c.loop-at-test.true c.index-parts-at.is c.loop-at.invariant (sym c.is_same.ensures ∙ c.if-is_same.true)

pub returns : goal.returns
returns c = named_nowhere c.args.parts.now c.args.name.now c.last_part-own.result.now c.loop-at.at c.last_part-own.ensures c.loop-at-test.false c.loop-at.invariant
