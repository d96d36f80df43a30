use Rattle.rml_types.proofs.Substitutions.{twice, named, same}
use Rattle.rml_types.proofs.laws.substitutions.Goals as goal

pub returns-clause-twice : goal.returns-clause-twice
returns-clause-twice c = twice

pub returns-clause-named : goal.returns-clause-named
returns-clause-named c = named

pub returns-clause-same : goal.returns-clause-same
returns-clause-same c = same
