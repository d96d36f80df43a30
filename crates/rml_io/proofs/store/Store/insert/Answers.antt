use Rattle.std.proofs.Common.{string_bytes}
use Rattle.rml_io.proofs.Stores.{held_in-insert}
use Rattle.rml_io.proofs.store.Store.insert.Goals as goal

pub returns-clause-ok : goal.returns-clause-ok
returns-clause-ok c =
    let inserted = held_in-insert (string_bytes c.in_ok-name.name) c.self.inside.entries c.insert.new.self c.in_ok-bytes.bytes c.in_ok-insert.ensures.updates in
    cc (inserted, c.self.view_is, c.in_ok-name.ensures.ok, c.in_ok-bytes.ensures.items)
