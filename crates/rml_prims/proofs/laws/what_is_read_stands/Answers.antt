use Rattle.rml_prims.proofs.StandingCells.{value-stands, stands-value, values-stand, stand-values, store-binds, binds-store}
use Rattle.rml_prims.proofs.laws.what_is_read_stands.Goals as goal

pub returns-clause-value : goal.returns-clause-value
returns-clause-value c = λ cells d v. (value-stands cells d v, stands-value cells d v)

pub returns-clause-values : goal.returns-clause-values
returns-clause-values c = λ cells cs vs. (values-stand cells cs vs, stand-values cells cs vs)

pub returns-clause-store : goal.returns-clause-store
returns-clause-store c = λ cells store. (store-binds cells store, binds-store cells store)
