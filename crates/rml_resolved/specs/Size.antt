-- How large rules, vals and programs are.
use Rattle.std.specs.Prelude.{ℕ, Bool, ◌||◌, ◌&&◌, ◌+◌, nat_lt, nat_le, List, map, fold, max, sum, sum_by}
use Rattle.std.specs.List.{list_all, concat}
use Rattle.rml_resolved.specs.declared.limits.TheConstants.{FEW_PARTS, PRELUDE_TOKENS, WEIGHT}
use Rattle.rml_resolved.specs.declared.tables.ValDef.{ValDef}
use Rattle.rml_resolved.specs.declared.tables.RelDef.{RelDef}
use Rattle.rml_resolved.specs.declared.tables.RRule.{RRule}
use Rattle.rml_resolved.specs.declared.trees.RPat.{RPat, fold-RPat}
use Rattle.rml_resolved.specs.declared.trees.RPat.TheOpen.{RPat-F}
use Rattle.rml_resolved.specs.declared.trees.RExp.{RExp, fold-RExp}
use Rattle.rml_resolved.specs.declared.trees.RExp.TheOpen.{RExp-F}
use Rattle.rml_resolved.specs.declared.trees.RGoal.{RGoal, fold-RGoal}
use Rattle.rml_resolved.specs.declared.trees.RGoal.TheOpen.{RGoal-F}

abbrev pub pattern_at : RPat-F ℕ → ℕ
pattern_at (RPat-F.Con c ps) = 1 + sum ps
pattern_at (RPat-F.Tuple ps) = 1 + sum ps
pattern_at (RPat-F.List ps) = 1 + sum ps
pattern_at (RPat-F.Cons ps) = 1 + sum ps
pattern_at (RPat-F.Bind x p) = 1 + p
pattern_at _ = 1

-- the patterns in a pattern, itself included
abbrev pub pattern_size : RPat → ℕ
pattern_size = fold-RPat ℕ pattern_at

abbrev pub exp_at : RExp-F ℕ → ℕ
exp_at (RExp-F.Con c es) = 1 + sum es
exp_at (RExp-F.Tuple es) = 1 + sum es
exp_at (RExp-F.List es) = 1 + sum es
exp_at (RExp-F.Cons es) = 1 + sum es
exp_at _ = 1

-- the expressions in an expression, itself included
abbrev pub exp_size : RExp → ℕ
exp_size = fold-RExp ℕ exp_at

abbrev pub goal_size_at : RGoal-F ℕ → ℕ
goal_size_at (RGoal-F.Call f es ps) = 1 + sum_by exp_size es + sum_by pattern_size ps
goal_size_at (RGoal-F.Equal a b) = 1 + exp_size a + exp_size b
goal_size_at (RGoal-F.Let p e) = 1 + pattern_size p + exp_size e
goal_size_at (RGoal-F.Not g) = 1 + g
goal_size_at (RGoal-F.All gs) = 1 + sum gs

-- the goals, patterns and expressions in a goal, itself included
abbrev pub goal_size : RGoal → ℕ
goal_size = fold-RGoal ℕ goal_size_at

abbrev pub rule_size : RRule → ℕ
rule_size r = sum_by pattern_size r.inputs + sum_by goal_size r.goals + sum_by exp_size r.results

-- a rule has at least one token, and no more parts than tokens or at most `FEW_PARTS`
abbrev pub rule_is_small : RRule → Bool
rule_is_small r = nat_lt 0 r.tokens && (nat_le (rule_size r) r.tokens || nat_le (rule_size r) FEW_PARTS)

abbrev pub relation_is_small : RelDef → Bool
relation_is_small r = list_all rule_is_small r.rules

abbrev pub relation_tokens : RelDef → ℕ
relation_tokens r = sum_by (λ rule. rule.tokens) r.rules

abbrev pub tokens_of : RelDef → List ℕ
tokens_of r = map (λ rule. rule.tokens) r.rules

-- the tokens of the longest rule: the greatest of the tokens of all rules
unfoldable pub longest : List RelDef → ℕ
longest rels = fold max 0 (concat (map tokens_of rels))

-- some rule is as long as the longest of the prelude's
abbrev pub has_long_rule : List RelDef → Bool
has_long_rule rels = nat_le PRELUDE_TOKENS (longest rels)

abbrev pub val_size : ValDef → ℕ
val_size v = exp_size v.value

-- the tokens of all rules and the expressions of all vals
abbrev pub weight : List ValDef → List RelDef → ℕ
weight vals rels = sum_by relation_tokens rels + sum_by val_size vals

abbrev pub is_light : List ValDef → List RelDef → Bool
is_light vals rels = nat_lt (weight vals rels) WEIGHT
