use Rattle.rml_signatures.proofs.Turns.{types-counted}
use Rattle.rml_signatures.proofs.tables.types_among.Goals as goal

pub returns : goal.returns
returns c = types-counted c.args.decls.now c.loop-decl.decl-index _ c.loop-decl.count c.loop-decl-test.false c.loop-decl.invariant.fits c.loop-decl.invariant.sum
