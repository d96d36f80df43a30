use Rattle.std.proofs.Common.{sym, ◌∙◌}
use Rattle.rml_tables.proofs.Places.{place-none}
use Rattle.rml_tables.proofs.name_set.NameSet.place.Goals as goal

pub returns-in-None : goal.returns-in-None
returns-in-None g c = rw (← c.self.view_is) (c.len.ensures.len ∙ sym (place-none (g.K.PartialEq.eq c.args.name) c.self.inside.names.keys (sym c.in-None.ensures.found)))
