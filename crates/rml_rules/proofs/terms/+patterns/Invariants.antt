use Rattle.std.proofs.Common.{◌≡◌, ◌++◌, map, drop}
use Rattle.rml_rules.specs.Made.{in_turn}
use Rattle.rml_rules.specs.Terms.{pattern}
use Rattle.rml_rules.proofs.terms.+patterns.Given as goal

abbrev pub invariant-patterns-loop-item : goal.invariant-patterns-loop-item
invariant-patterns-loop-item l = record {
  tree : (in_turn (map (pattern l.env) l.trees) l.fn.scope).tree ≡ l.items ++ (in_turn (map (pattern l.env) (drop l.item-index l.trees)) l.scope).tree;
  scope : (in_turn (map (pattern l.env) l.trees) l.fn.scope).after ≡ (in_turn (map (pattern l.env) (drop l.item-index l.trees)) l.scope).after;
}
