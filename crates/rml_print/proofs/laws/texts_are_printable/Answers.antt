use Rattle.rml_print.proofs.NamePhrases.{spots-printable}
use Rattle.rml_print.proofs.TextPhrases.{text-printable}
use Rattle.rml_print.proofs.TypePhrases.{sig-printable}
use Rattle.rml_print.proofs.laws.texts_are_printable.Goals as goal

pub returns-clause-tokens : goal.returns-clause-tokens
returns-clause-tokens c = spots-printable

pub returns-clause-lines : goal.returns-clause-lines
returns-clause-lines c = text-printable

pub returns-clause-signature : goal.returns-clause-signature
returns-clause-signature c = sig-printable
