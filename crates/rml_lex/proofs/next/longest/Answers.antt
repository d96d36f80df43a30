use Rattle.std.proofs.Common.{sym, ◌∙◌}
use Rattle.rml_lex.proofs.Firsts.{digit-found, piece-longest, piece-stuck}
use Rattle.rml_lex.proofs.next.longest.Goals as goal

pub returns-then-is_digit_byte : goal.returns-then-is_digit_byte
returns-then-is_digit_byte c = digit-found c.args.bytes.now _ _ _ c.in_ok-first.ensures.cases.0 (sym c.is_digit_byte.ensures ∙ c.if-is_digit_byte.true) c.number_at.ensures

pub returns-in-Some : goal.returns-in-Some
returns-in-Some c = piece-longest c.args.bytes.now _ _ _ _ c.in_ok-first.ensures.cases.0 (sym c.is_digit_byte.ensures ∙ c.if-is_digit_byte.false) c.in-Some.ensures

pub returns-in-None : goal.returns-in-None
returns-in-None c = piece-stuck c.args.bytes.now _ _ c.in_ok-first.ensures.cases.0 (sym c.is_digit_byte.ensures ∙ c.if-is_digit_byte.false) c.in-None.ensures
