use Rattle.rml_lex.proofs.Decided.{is-read}
use Rattle.rml_lex.proofs.laws.each_is_read.Goals as goal

pub returns : goal.returns
returns c = is-read
