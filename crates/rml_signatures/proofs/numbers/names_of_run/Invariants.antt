use Rattle.std.proofs.Common.{◌≡◌, [], drop, filter, nat_eq}
use Rattle.rml_tables.specs.Words.{with_each}
use Rattle.rml_signatures.specs.Numbers.{is_of_run}
use Rattle.rml_signatures.proofs.numbers.names_of_run.Given as goal

abbrev pub invariant-loop-name : goal.invariant-loop-name
invariant-loop-name l = with_each nat_eq [] (filter (is_of_run l.plain l.outline) l.name-items) ≡ with_each nat_eq l.names (filter (is_of_run l.plain l.outline) (drop l.name-index l.name-items))
