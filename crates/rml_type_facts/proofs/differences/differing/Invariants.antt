use Rattle.std.proofs.Common.{◌≡◌, [], drop, filter, nat_eq}
use Rattle.std.specs.Map.{keys_of}
use Rattle.rml_tables.specs.Words.{with_each}
use Rattle.rml_abbreviations.specs.Written.{meaning_in, written}
use Rattle.rml_type_facts.specs.Facts.{half_of, is_different}
use Rattle.rml_type_facts.proofs.differences.differing.Given as goal

abbrev pub invariant-loop-place : goal.invariant-loop-place
invariant-loop-place l =
    let test = is_different (written (meaning_in l.table)) (half_of l.outer) (half_of l.inner) in
    with_each nat_eq [] (filter test (keys_of l.inner.places)) ≡ with_each nat_eq l.different (filter test (keys_of (drop l.place l.inner.places)))
