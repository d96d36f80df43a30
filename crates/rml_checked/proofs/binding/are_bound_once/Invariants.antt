use Rattle.std.proofs.Common.{◌≡◌, drop}
use Rattle.std.specs.List.{list_all}
use Rattle.rml_resolved.specs.Binding.{relation_binds_once}
use Rattle.rml_checked.proofs.binding.are_bound_once.Given as goal

abbrev pub invariant-loop-rel : goal.invariant-loop-rel
invariant-loop-rel l = list_all relation_binds_once l.rels ≡ list_all relation_binds_once (drop l.rel-index l.rels)
