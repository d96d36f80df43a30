use Rattle.rml_print.specs.Texts.{text_lines}
use Rattle.rml_print.specs.Types.{sig_tokens}
use Rattle.rml_print.proofs.Cuts.{lines-read, spaced-read}
use Rattle.rml_print.proofs.TextPhrases.{text-printable}
use Rattle.rml_print.proofs.TypePhrases.{sig-printable}
use Rattle.rml_print.proofs.laws.printed_texts_are_read.Goals as goal

pub returns-clause-tree : goal.returns-clause-tree
returns-clause-tree c = λ text names t h. lines-read text names (text_lines t) (text-printable names t h)

pub returns-clause-signature : goal.returns-clause-signature
returns-clause-signature c = λ text names s h. spaced-read text names (sig_tokens s) (sig-printable names s h)
