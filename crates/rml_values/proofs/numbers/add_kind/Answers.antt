use Rattle.rml_values.proofs.Turns.{kind_next}
use Rattle.rml_values.proofs.numbers.add_kind.Goals as goal

pub loop-place-preserved : goal.loop-place-preserved
loop-place-preserved c =
    kind_next c.args.kind c.loop-place.names c.add_entry.new.names _ c.args.values.now c.loop-place.place c.entry.result c.loop-place.invariant c.entry.ensures c.in_ok-add_entry.ensures
