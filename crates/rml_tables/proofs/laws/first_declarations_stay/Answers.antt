use Rattle.rml_tables.proofs.Declared.{first-stays, names-declared, new-is-found, others-stay}
use Rattle.rml_tables.proofs.laws.first_declarations_stay.Goals as goal

pub returns-clause-first : goal.returns-clause-first
returns-clause-first g c = first-stays g.K.PartialEq.eq

pub returns-clause-new : goal.returns-clause-new
returns-clause-new g c = new-is-found g.K.PartialEq.eq g.met.K.Eq.laws.refl

pub returns-clause-others : goal.returns-clause-others
returns-clause-others g c = others-stay g.K.PartialEq.eq

pub returns-clause-names : goal.returns-clause-names
returns-clause-names g c = names-declared g.K.PartialEq.eq
