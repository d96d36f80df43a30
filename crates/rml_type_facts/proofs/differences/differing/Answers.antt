use Rattle.rml_abbreviations.specs.Written.{meaning_in, written}
use Rattle.rml_type_facts.specs.Facts.{half_of, is_different}
use Rattle.rml_signatures.proofs.Callers.{filtered-more}
use Rattle.std.proofs.Common.{arith}
use Rattle.rml_type_facts.proofs.differences.differing.Goals as goal

pub loop-place-preserved : goal.loop-place-preserved
loop-place-preserved c =
    filtered-more (is_different (written (meaning_in c.args.table.now)) (half_of c.args.outer.now) (half_of c.args.inner.now)) c.args.inner.now.places c.loop-place.place c.entry-entry.result _
    c.loop-place.different c.add_different.new.different (let l = c.len-place-end.ensures in omega arith) c.entry-entry.ensures c.loop-place.invariant c.in_ok-add_different.ensures
