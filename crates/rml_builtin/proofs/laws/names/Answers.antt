use Rattle.rml_builtin.proofs.Rows.{one-name, named, found}
use Rattle.rml_builtin.proofs.laws.names.Goals as goal

pub returns-clause-differ : goal.returns-clause-differ
returns-clause-differ c = one-name

pub returns-clause-named : goal.returns-clause-named
returns-clause-named c = named

pub returns-clause-found : goal.returns-clause-found
returns-clause-found c = found
