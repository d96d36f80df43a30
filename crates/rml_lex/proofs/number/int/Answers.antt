use Rattle.std.proofs.Common.{arith}
use Rattle.rml_lex.proofs.Numbers.{too_great}
use Rattle.rml_lex.proofs.number.int.Goals as goal

pub returns-then-distance-limit : goal.returns-then-distance-limit
returns-then-distance-limit c = too_great c.args.is_negative c.args.digits.now c.loop-d.distance c.greatest-limit.result c.loop-d.d-index c.greatest-limit.ensures.value (omega arith) c.loop-d.invariant.rest (omega arith)
