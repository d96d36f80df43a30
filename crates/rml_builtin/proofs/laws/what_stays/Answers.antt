use Rattle.rml_builtin.proofs.Keeping.{store-stays, text-stays}
use Rattle.rml_builtin.proofs.laws.what_stays.Goals as goal

pub returns-clause-store : goal.returns-clause-store
returns-clause-store c = store-stays

pub returns-clause-text : goal.returns-clause-text
returns-clause-text c = text-stays
