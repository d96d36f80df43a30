use Rattle.std.proofs.Common.{sym, ◌∙◌}
use Rattle.rml_tables.proofs.Declared.{undeclared-place}
use Rattle.rml_tables.proofs.table.Table.place.Goals as goal

pub returns-in-None : goal.returns-in-None
returns-in-None g c = rw (← c.self.view_is) (c.len.ensures.len ∙ sym (undeclared-place (g.K.PartialEq.eq c.args.name) c.self.inside.entries.entries (sym c.in-None.ensures.found)))
