use Rattle.rml_trail.proofs.Futures.{unset_all-set, unset_all-append, take-unset_all}
use Rattle.rml_trail.proofs.laws.undone.Goals as goal

pub returns-clause-set : goal.returns-clause-set
returns-clause-set c = unset_all-set

pub returns-clause-twice : goal.returns-clause-twice
returns-clause-twice c = unset_all-append

pub returns-clause-below : goal.returns-clause-below
returns-clause-below c = take-unset_all
