use Rattle.std.proofs.Common.{◌≡◌, false, sym, ◌∙◌}
use Rattle.std.specs.Prelude.{is_some}
use Rattle.std.specs.Map.{lookup}
use Rattle.rml_tables.proofs.Declared.{insert_entry-new}
use Rattle.rml_tables.proofs.table.Table.declare.Goals as goal

pub returns-clause-table : goal.returns-clause-table
returns-clause-table g c =
    let none : is_some (lookup (g.K.PartialEq.eq c.args.name) c.self.inside.entries.entries) ≡ false = sym c.contains_key.ensures ∙ c.if-contains_key.false in
    rw (← c.self.view_is, none) (c.in_ok-insert.ensures.entries ∙ insert_entry-new g.K.PartialEq.eq c.args.name c.args.value c.self.inside.entries.entries none)
