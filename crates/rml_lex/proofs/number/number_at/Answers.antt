use Rattle.std.proofs.Common.{arith}
use Rattle.rml_lex.specs.Bytes.{is_digit}
use Rattle.rml_lex.proofs.Longests.{taken-pass}
use Rattle.rml_lex.proofs.Numbers.{number-none, number-real, number-int}
use Rattle.rml_lex.proofs.number.number_at.Goals as goal

pub returns-then-whole-eq0 : goal.returns-then-whole-eq0
returns-then-whole-eq0 c = number-none c.args.is_negative c.args.bytes.now _ c.digits_length-whole.ensures (omega arith)

pub int-requires : goal.int-requires
int-requires c = rw c.split_at.ensures.front (taken-pass is_digit c.args.bytes.now c.digits_length-whole.result c.digits_length-whole.ensures)

pub returns-in-Some : goal.returns-in-Some
returns-in-Some c = number-real c.args.is_negative c.args.bytes.now _ _ _ c.digits_length-whole.ensures (omega arith) c.split_at.ensures.back c.in-Some.ensures

pub returns-in-None : goal.returns-in-None
returns-in-None c = rw c.int.ensures (number-int c.args.is_negative c.args.bytes.now _ _ _ c.digits_length-whole.ensures (omega arith) c.split_at.ensures.front c.split_at.ensures.back c.in-None.ensures)
