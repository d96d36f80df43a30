use Rattle.rml_print.proofs.Cuts.{lines-read, spaced-read}
use Rattle.rml_print.proofs.laws.printed_is_read.Goals as goal

pub returns-clause-lines : goal.returns-clause-lines
returns-clause-lines c = lines-read

pub returns-clause-spaced : goal.returns-clause-spaced
returns-clause-spaced c = spaced-read
