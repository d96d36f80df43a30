use Rattle.std.specs.Map.{keys_of}
use Rattle.rml_tables.proofs.Places.{own-places}
use Rattle.rml_tables.proofs.table.Table.are_distinct.Goals as goal

pub returns : goal.returns
returns g c = rw (← c.self.view_is) (own-places g.met.K.Eq.laws (keys_of c.self.inside.entries.entries) c.len-count.ensures.unique)
