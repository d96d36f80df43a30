use Rattle.std.proofs.Common.{ℕ, ap, length, ◌∙◌}
use Rattle.std.specs.Prelude.{nat_eq}
use Rattle.std.specs.List.{filter, range_with_len}
use Rattle.rml_tables.specs.Words.{has}
use Rattle.rml_named.specs.Rows.{named_as_values, texts_rows}
use Rattle.rml_named.proofs.Rows.{named_rows}
use Rattle.rml_named.proofs.named.named_as_values.Goals as goal

pub returns : goal.returns
unfolding named_as_values
returns c =
    let rows = c.in_ok-gathering.gathering.rows in
    named_rows rows (texts_rows c.args.world.now c.args.values.now 0 c.args.texts.now) c.in_ok-named.named (length c.args.values.now.rows) c.in_ok-gathering.ensures
    (c.in_ok-named.ensures ∙ ap (λ (n : ℕ). filter (λ row. has nat_eq row rows) (range_with_len 0 n)) c.len.ensures)
