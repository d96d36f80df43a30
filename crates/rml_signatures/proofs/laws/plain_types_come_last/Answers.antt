use Rattle.rml_signatures.proofs.PlainTypes.{kept-types, plain-types}
use Rattle.rml_signatures.proofs.laws.plain_types_come_last.Goals as goal

pub returns-clause-kept : goal.returns-clause-kept
returns-clause-kept c = kept-types

pub returns-clause-plain : goal.returns-clause-plain
returns-clause-plain c = plain-types
