use Rattle.rml_tables.proofs.Places.{own-places}
use Rattle.rml_tables.proofs.name_set.NameSet.are_distinct.Goals as goal

pub returns : goal.returns
returns g c = rw (← c.self.view_is) (own-places g.met.K.Eq.laws c.self.inside.names.keys c.as_slice-names.ensures.unique)
