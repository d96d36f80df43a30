use Rattle.rml_words.proofs.Reading.{one}
use Rattle.rml_words.proofs.laws.one_line.Goals as goal

pub returns : goal.returns
returns c = one
