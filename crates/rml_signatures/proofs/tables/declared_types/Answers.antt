use Rattle.rml_signatures.proofs.Turns.{texts-counted}
use Rattle.rml_signatures.proofs.tables.declared_types.Goals as goal

pub returns : goal.returns
returns c = texts-counted c.args.texts.now c.loop-text.text-index _ c.loop-text.count c.loop-text-test.false c.loop-text.invariant.fits c.loop-text.invariant.sum
