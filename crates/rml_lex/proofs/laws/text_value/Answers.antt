use Rattle.rml_lex.proofs.Characters.{text-value}
use Rattle.rml_lex.proofs.laws.text_value.Goals as goal

pub returns : goal.returns
returns c = text-value
