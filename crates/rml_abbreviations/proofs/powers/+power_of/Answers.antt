use Rattle.rml_abbreviations.proofs.Doubling.{half-is-fixed}
use Rattle.rml_abbreviations.proofs.powers.+power_of.Goals as goal

pub returns-then-half : goal.returns-then-half
returns-then-half t c = half-is-fixed c.args.bodies.now c.in_ok-half.half.table.items c.args.count c.in_ok-half.half.is_fixed c.if-half.true c.in_ok-half.ensures
