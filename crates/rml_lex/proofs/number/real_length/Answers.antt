use Rattle.rml_lex.proofs.Numbers.{point-longest, point-stuck, pointless}
use Rattle.rml_lex.proofs.number.real_length.Goals as goal

pub returns-in_err-n : goal.returns-in_err-n
returns-in_err-n c = rw c.from_residual-in_err-n.ensures (point-stuck c.args.bytes.now _ _ c.in_ok-point.ensures.cases.0 c.if-point-eq46.true c.in_err-n.ensures)

pub returns-then-point-eq46 : goal.returns-then-point-eq46
returns-then-point-eq46 c = point-longest c.args.bytes.now _ _ _ c.in_ok-point.ensures.cases.0 c.if-point-eq46.true c.in_ok-n.ensures

pub returns : goal.returns
returns c = pointless c.args.bytes.now _ _ _ c.in_ok-point.ensures.cases.0 c.if-point-eq46.false c.exponent_length.ensures
