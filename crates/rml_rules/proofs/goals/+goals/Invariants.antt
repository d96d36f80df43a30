use Rattle.std.proofs.Common.{◌≡◌, ◌++◌, map, drop}
use Rattle.rml_rules.specs.Made.{in_turn}
use Rattle.rml_rules.specs.Rules.{goal}
use Rattle.rml_rules.proofs.goals.+goals.Given as goal

abbrev pub invariant-goals-loop-item : goal.invariant-goals-loop-item
invariant-goals-loop-item l = record {
  tree : (in_turn (map (goal l.env) l.trees) l.fn.scope).tree ≡ l.items ++ (in_turn (map (goal l.env) (drop l.item-index l.trees)) l.scope).tree;
  scope : (in_turn (map (goal l.env) l.trees) l.fn.scope).after ≡ (in_turn (map (goal l.env) (drop l.item-index l.trees)) l.scope).after;
}
