-- Patterns, expressions, goals and rules: what the grammar makes, beside its productions.
use Rattle.std.specs.Prelude.{ℕ, Bool, true, ◌&&◌, nat_lt}
use Rattle.std.specs.List.{list_all}
use Rattle.rml_syntax.specs.declared.rules.Pattern.{Pattern, fold-Pattern}
use Rattle.rml_syntax.specs.declared.rules.Pattern.TheOpen.{Pattern-F}
use Rattle.rml_syntax.specs.declared.rules.Exp.{Exp, fold-Exp}
use Rattle.rml_syntax.specs.declared.rules.Exp.TheOpen.{Exp-F}
use Rattle.rml_syntax.specs.declared.rules.Goal.{Goal, fold-Goal}
use Rattle.rml_syntax.specs.declared.rules.Goal.TheOpen.{Goal-F}
use Rattle.rml_syntax.specs.declared.rules.Rule.{Rule}
use Rattle.rml_whole.specs.Parts.{all, lit_is_formed, long_is_formed, some, two_or_more}

-- a constructor has an argument, a tuple and a chain of `::` have two items
abbrev pub pattern_formed_at : ℕ → Pattern-F Bool → Bool
pattern_formed_at names Pattern-F.Any = true
pattern_formed_at names (Pattern-F.Lit l) = lit_is_formed names l
pattern_formed_at names (Pattern-F.Name l) = long_is_formed names l
pattern_formed_at names (Pattern-F.App l ps) = long_is_formed names l && some ps
pattern_formed_at names (Pattern-F.Tuple ps) = two_or_more ps
pattern_formed_at names (Pattern-F.List ps) = all ps
pattern_formed_at names (Pattern-F.Cons ps) = two_or_more ps
pattern_formed_at names (Pattern-F.Bind x at p) = nat_lt x names && p

abbrev pub pattern_is_formed : ℕ → Pattern → Bool
pattern_is_formed names = fold-Pattern Bool (pattern_formed_at names)

abbrev pub exp_formed_at : ℕ → Exp-F Bool → Bool
exp_formed_at names (Exp-F.Lit l) = lit_is_formed names l
exp_formed_at names (Exp-F.Name l) = long_is_formed names l
exp_formed_at names (Exp-F.App l es) = long_is_formed names l && some es
exp_formed_at names (Exp-F.Tuple es) = two_or_more es
exp_formed_at names (Exp-F.List es) = all es
exp_formed_at names (Exp-F.Cons es) = two_or_more es

abbrev pub exp_is_formed : ℕ → Exp → Bool
exp_is_formed names = fold-Exp Bool (exp_formed_at names)

-- gatom = `let` pat `=` exp | long `=` exp | long [eargs] [`=>` pseq] | `(` goals `)`
abbrev pub goal_formed_at : ℕ → Goal-F Bool → Bool
goal_formed_at names (Goal-F.Call l es ps) = long_is_formed names l && list_all (exp_is_formed names) es && list_all (pattern_is_formed names) ps
goal_formed_at names (Goal-F.Equal l e) = long_is_formed names l && exp_is_formed names e
goal_formed_at names (Goal-F.Let p e) = pattern_is_formed names p && exp_is_formed names e
goal_formed_at names (Goal-F.Not g) = g
goal_formed_at names (Goal-F.All gs) = some gs

abbrev pub goal_is_formed : ℕ → Goal → Bool
goal_is_formed names = fold-Goal Bool (goal_formed_at names)

-- clause = `axiom` head | `rule` [goals] dashes head
abbrev pub rule_is_formed : ℕ → Rule → Bool
rule_is_formed names r = nat_lt r.head names && list_all (pattern_is_formed names) r.inputs && list_all (goal_is_formed names) r.goals && list_all (exp_is_formed names) r.results
