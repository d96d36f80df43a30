use Rattle.std.proofs.Common.{◌≡◌, [], drop}
use Rattle.std.specs.Prelude.{nat_eq}
use Rattle.rml_tables.specs.Words.{with_each}
use Rattle.rml_named.specs.Rows.{texts_rows}
use Rattle.rml_named.proofs.texts.in_texts.Given as goal

abbrev pub invariant-loop-number : goal.invariant-loop-number
invariant-loop-number l =
    with_each nat_eq [] (texts_rows l.world l.values 0 l.texts) ≡ with_each nat_eq l.gathering.rows (texts_rows l.world l.values l.number (drop l.number l.texts))
