use Rattle.std.proofs.Common.{arith}
use Rattle.rml_lex.proofs.Numbers.{fraction-more, fraction-alone}
use Rattle.rml_lex.proofs.number.fraction_length.Goals as goal

pub returns-in-Some : goal.returns-in-Some
returns-in-Some c = fraction-more c.args.bytes.now _ _ _ c.digits_length-digits.ensures (omega arith) c.split_at.ensures.back c.in-Some.ensures

pub returns-in-None : goal.returns-in-None
returns-in-None c = fraction-alone c.args.bytes.now _ _ c.digits_length-digits.ensures (omega arith) c.split_at.ensures.back c.in-None.ensures
