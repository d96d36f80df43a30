use Rattle.std.proofs.Common.{◌≡◌, drop}
use Rattle.std.specs.List.{list_all}
use Rattle.rml_resolved.specs.Binding.{relation_uses_bound}
use Rattle.rml_checked.proofs.binding.are_used_after.Given as goal

abbrev pub invariant-loop-rel : goal.invariant-loop-rel
invariant-loop-rel l = list_all relation_uses_bound l.rels ≡ list_all relation_uses_bound (drop l.rel-index l.rels)
