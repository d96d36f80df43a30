use Rattle.rml_lex.proofs.Decided.{has-longest}
use Rattle.rml_lex.proofs.Unique.{same-length, same-piece}
use Rattle.rml_lex.proofs.laws.one_longest.Goals as goal

pub returns-clause-same : goal.returns-clause-same
returns-clause-same c = λ bytes n m p q l k. (same-length bytes n m p q l k, same-piece bytes n m p q l k)

pub returns-clause-either : goal.returns-clause-either
returns-clause-either c = has-longest

pub returns-clause-sound : goal.returns-clause-sound
returns-clause-sound c = λ bytes n p l none. none n p l.within l.spelled
