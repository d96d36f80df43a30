use Rattle.std.proofs.Common.{arith}
use Rattle.rml_lex.proofs.Numbers.{digits-none, digits-real}
use Rattle.rml_lex.proofs.number.power_digits.Goals as goal

pub returns-then-n-eq0 : goal.returns-then-n-eq0
returns-then-n-eq0 c = digits-none c.args.bytes.now _ c.digits_length-n.ensures (omega arith)

pub returns-else-n-eq0 : goal.returns-else-n-eq0
returns-else-n-eq0 c = digits-real c.args.bytes.now _ c.digits_length-n.ensures (omega arith)
