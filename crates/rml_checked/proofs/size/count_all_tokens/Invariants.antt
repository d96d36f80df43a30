use Rattle.std.proofs.Common.{◌≡◌, ◌+◌, ◌-◌, ◌^◌, min, sum_by, drop, ◌<◌}
use Rattle.rml_resolved.specs.Size.{relation_tokens}
use Rattle.rml_checked.proofs.size.count_all_tokens.Given as goal

abbrev pub invariant-loop-rel : goal.invariant-loop-rel
invariant-loop-rel l = record {
  fits : l.count < 2 ^ 64;
  whole : min (sum_by relation_tokens l.rels) (2 ^ 64 - 1) ≡ min (l.count + sum_by relation_tokens (drop l.rel-index l.rels)) (2 ^ 64 - 1);
}
