use Rattle.std.proofs.Common.{sym, ◌∙◌}
use Rattle.rml_lex.proofs.Numbers.{exponent-longest, exponent-stuck}
use Rattle.rml_lex.proofs.number.exponent_length.Goals as goal

pub returns-in_err-n : goal.returns-in_err-n
returns-in_err-n c = rw c.from_residual-in_err-n.ensures (exponent-stuck c.args.bytes.now _ _ c.in_ok-e.ensures.cases.0 (sym c.is_exponent_byte.ensures ∙ c.if-not-is_exponent_byte.false) c.in_err-n.ensures)

pub returns : goal.returns
returns c = exponent-longest c.args.bytes.now _ _ _ c.in_ok-e.ensures.cases.0 (sym c.is_exponent_byte.ensures ∙ c.if-not-is_exponent_byte.false) c.in_ok-n.ensures
