use Rattle.std.proofs.Common.{◌≡◌, [], drop, filter, nat_eq}
use Rattle.rml_tables.specs.Words.{with_each}
use Rattle.rml_type_facts.specs.Circles.{holds, is_circular}
use Rattle.rml_type_facts.proofs.circles.circular_names.Given as goal

abbrev pub invariant-loop-name : goal.invariant-loop-name
invariant-loop-name l = with_each nat_eq [] (filter (is_circular (holds l.circles) l.numbered) l.numbered.kept.names) ≡ with_each nat_eq l.circular (filter (is_circular (holds l.circles) l.numbered) (drop l.name-index l.name-items))
