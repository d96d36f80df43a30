use Rattle.std.proofs.Common.{arith}
use Rattle.rml_signatures.proofs.Keys.{names-more}
use Rattle.rml_signatures.proofs.numbers.add_types.Goals as goal

pub loop-place-preserved : goal.loop-place-preserved
loop-place-preserved c =
    names-more c.args.types.now c.loop-place.place c.entry.result _ c.loop-place.names c.add_entry.new.names (let l = c.len-place-end.ensures in omega arith) c.entry.ensures c.loop-place.invariant c.in_ok-add_entry.ensures
