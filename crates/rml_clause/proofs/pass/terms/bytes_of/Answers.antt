use Rattle.std.proofs.Common.{[], sym, ◌∙◌}
use Rattle.rml_clause.proofs.Rows.{absent, present}
use Rattle.rml_clause.proofs.pass.terms.bytes_of.Goals as goal

pub returns-in-None : goal.returns-in-None
returns-in-None c = c.of.ensures ∙ c.new.ensures.items ∙ sym (absent c.args.names.now c.args.number [] (sym c.in-None.ensures))

pub returns-in_ok-copy-in-Some : goal.returns-in_ok-copy-in-Some
returns-in_ok-copy-in-Some c =
    c.of-in-Some.ensures ∙ c.in_ok-copy-in-Some.ensures.items ∙ c.as_slice.ensures ∙ sym (present c.args.names.now c.args.number c.in-Some.bytes.now [] (sym c.in-Some.ensures))
