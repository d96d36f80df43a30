use Rattle.rml_grammar.proofs.LimitsTexts.{text-within, fault-at}
use Rattle.rml_grammar.proofs.LimitsLaws.{within-read, refused}
use Rattle.rml_grammar.proofs.limits.limits_counted.Goals as goal

pub returns-clause-within : goal.returns-clause-within
returns-clause-within c = text-within

pub returns-clause-fault : goal.returns-clause-fault
returns-clause-fault c = fault-at

pub returns-clause-read : goal.returns-clause-read
returns-clause-read c = within-read

pub returns-clause-refused : goal.returns-clause-refused
returns-clause-refused c = refused
