use Rattle.std.proofs.Common.{sym, ◌∙◌}
use Rattle.rml_lex.proofs.Firsts.{prime-longest}
use Rattle.rml_lex.proofs.next.after_prime.Goals as goal

pub returns-then-is_letter_byte : goal.returns-then-is_letter_byte
returns-then-is_letter_byte c = prime-longest c.args.bytes.now _ _ _ c.in_ok-first.ensures.cases.0 (sym c.is_letter_byte.ensures ∙ c.if-is_letter_byte.true) c.name_length.ensures
