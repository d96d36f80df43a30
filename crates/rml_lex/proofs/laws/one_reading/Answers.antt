use Rattle.rml_lex.specs.Places.{start}
use Rattle.rml_lex.proofs.Unique.{one-list, one-reading, same-fault, unspelled}
use Rattle.rml_lex.proofs.laws.one_reading.Goals as goal

pub returns-clause-same : goal.returns-clause-same
returns-clause-same c = λ text bytes a b s t. one-list text bytes a b s t

pub returns-clause-sound : goal.returns-clause-sound
returns-clause-sound c = λ text bytes a place kind s f. unspelled text bytes a place kind s f

pub returns-clause-pieces : goal.returns-clause-pieces
returns-clause-pieces c = λ bytes a b r s. one-reading a b bytes r s

pub returns-clause-fault : goal.returns-clause-fault
returns-clause-fault c = λ text bytes p q j k f g. same-fault f.0 g.0 bytes f.1 g.1 (start text) p q j k f.2 g.2 f.3 g.3
