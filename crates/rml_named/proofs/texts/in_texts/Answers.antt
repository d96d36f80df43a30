use Rattle.std.proofs.Common.{[]}
use Rattle.std.specs.Prelude.{nat_eq}
use Rattle.rml_tables.specs.Words.{with_each}
use Rattle.rml_named.specs.Rows.{texts_rows}
use Rattle.rml_named.proofs.Rows.{texts_turn}
use Rattle.rml_named.proofs.texts.in_texts.Goals as goal

pub loop-number-preserved : goal.loop-number-preserved
loop-number-preserved c =
    texts_turn c.args.world.now c.args.values.now c.args.texts.now c.loop-number.number c.index-texts-number.result
    (with_each nat_eq [] (texts_rows c.args.world.now c.args.values.now 0 c.args.texts.now)) c.loop-number.gathering.rows c.in_text.new.gathering.rows
    c.loop-number-test.true c.index-texts-number.is c.loop-number.invariant c.in_ok-in_text.ensures
