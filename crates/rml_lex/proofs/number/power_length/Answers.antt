use Rattle.std.proofs.Common.{sym, ◌∙◌}
use Rattle.rml_lex.proofs.Numbers.{signed-longest, signed-stuck, unsigned}
use Rattle.rml_lex.proofs.number.power_length.Goals as goal

pub returns-in_err-n : goal.returns-in_err-n
returns-in_err-n c = rw c.from_residual-in_err-n.ensures (signed-stuck c.args.bytes.now _ _ c.in_ok-sign.ensures.cases.0 (sym c.is_minus_byte.ensures ∙ c.if-is_minus_byte.true) c.in_err-n.ensures)

pub returns-then-is_minus_byte : goal.returns-then-is_minus_byte
returns-then-is_minus_byte c = signed-longest c.args.bytes.now _ _ _ c.in_ok-sign.ensures.cases.0 (sym c.is_minus_byte.ensures ∙ c.if-is_minus_byte.true) c.in_ok-n.ensures

pub returns : goal.returns
returns c = unsigned c.args.bytes.now _ _ _ c.in_ok-sign.ensures.cases.0 (sym c.is_minus_byte.ensures ∙ c.if-is_minus_byte.false) c.power_digits-2.ensures
