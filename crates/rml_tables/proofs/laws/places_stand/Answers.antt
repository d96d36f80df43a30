use Rattle.rml_tables.proofs.Places.{grows-each, place-given, place-grown}
use Rattle.rml_tables.proofs.laws.places_stand.Goals as goal

pub returns-clause-grows : goal.returns-clause-grows
returns-clause-grows g c = grows-each g.K.PartialEq.eq

pub returns-clause-stands : goal.returns-clause-stands
returns-clause-stands g c names more name = place-grown g.K.PartialEq.eq name names more

pub returns-clause-given : goal.returns-clause-given
returns-clause-given g c names name = place-given g.K.PartialEq.eq names name g.met.K.Eq.laws.refl
