use Rattle.std.proofs.Common.{◌≡◌, ◌++◌, map, drop}
use Rattle.rml_rules.specs.Terms.{exp}
use Rattle.rml_rules.proofs.terms.+exps.Given as goal

abbrev pub invariant-exps-loop-item : goal.invariant-exps-loop-item
invariant-exps-loop-item l = map (exp l.env l.scope) l.trees ≡ l.items ++ map (exp l.env l.scope) (drop l.item-index l.trees)
