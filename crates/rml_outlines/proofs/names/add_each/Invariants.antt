use Rattle.std.proofs.Common.{◌≡◌, drop}
use Rattle.std.specs.Prelude.{nat_eq}
use Rattle.rml_tables.specs.Words.{with_each}
use Rattle.rml_outlines.proofs.names.add_each.Given as goal

abbrev pub invariant-loop-name : goal.invariant-loop-name
invariant-loop-name l = with_each nat_eq l.fn.names l.more ≡ with_each nat_eq l.names (drop l.name-index l.more)
