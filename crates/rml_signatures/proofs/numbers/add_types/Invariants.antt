use Rattle.std.proofs.Common.{◌≡◌, drop, nat_eq}
use Rattle.std.specs.Map.{keys_of}
use Rattle.rml_tables.specs.Words.{with_each}
use Rattle.rml_signatures.proofs.numbers.add_types.Given as goal

abbrev pub invariant-loop-place : goal.invariant-loop-place
invariant-loop-place l = with_each nat_eq l.fn.names (keys_of l.types) ≡ with_each nat_eq l.names (keys_of (drop l.place l.types))
