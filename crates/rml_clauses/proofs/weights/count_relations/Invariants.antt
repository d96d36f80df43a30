use Rattle.std.proofs.Common.{◌≡◌, ◌+◌, ◌-◌, ◌^◌, min, sum_by, drop, ◌<◌}
use Rattle.rml_clauses.proofs.weights.count_relations.Given as goal

abbrev pub invariant-loop-relation : goal.invariant-loop-relation
invariant-loop-relation l = record {
  fits : l.count < 2 ^ 64;
  whole : min (sum_by (λ r. r.tokens) l.rels) (2 ^ 64 - 1) ≡ min (l.count + sum_by (λ r. r.tokens) (drop l.relation-index l.rels)) (2 ^ 64 - 1);
}
