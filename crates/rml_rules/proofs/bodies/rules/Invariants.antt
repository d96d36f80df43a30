use Rattle.std.proofs.Common.{◌≡◌, ◌++◌, map, drop}
use Rattle.rml_rules.specs.Made.{in_turn}
use Rattle.rml_rules.specs.Rules.{rule}
use Rattle.rml_rules.proofs.bodies.rules.Given as goal

abbrev pub invariant-loop-item : goal.invariant-loop-item
invariant-loop-item l = record {
  tree : (in_turn (map (rule l.env) l.trees) l.fn.scope).tree ≡ l.items ++ (in_turn (map (rule l.env) (drop l.item-index l.trees)) l.scope).tree;
  scope : (in_turn (map (rule l.env) l.trees) l.fn.scope).after ≡ (in_turn (map (rule l.env) (drop l.item-index l.trees)) l.scope).after;
}
