-- How large trees are: how many patterns, expressions and goals stand in them, and how many tokens their rules have.
use Rattle.std.specs.Prelude.{ℕ, ◌+◌, ◌<◌, List, [], ◌∷◌, ◌++◌, Some, length, sum, sum_by}
use Rattle.std.specs.List.{flat_map}
use Rattle.rml_syntax.specs.declared.rules.Pattern.{Pattern, fold-Pattern}
use Rattle.rml_syntax.specs.declared.rules.Pattern.TheOpen.{Pattern-F}
use Rattle.rml_syntax.specs.declared.rules.Exp.{Exp, fold-Exp}
use Rattle.rml_syntax.specs.declared.rules.Exp.TheOpen.{Exp-F}
use Rattle.rml_syntax.specs.declared.rules.Goal.{Goal, fold-Goal}
use Rattle.rml_syntax.specs.declared.rules.Goal.TheOpen.{Goal-F}
use Rattle.rml_syntax.specs.declared.rules.Rule.{Rule}
use Rattle.rml_syntax.specs.declared.types.ConBind.{ConBind}
use Rattle.rml_syntax.specs.declared.texts.Decl.{Decl}
use Rattle.rml_syntax.specs.declared.texts.Decl.TheVariants as decl
use Rattle.rml_syntax.specs.declared.texts.Text.{Text}

abbrev pub pattern_size_at : Pattern-F ℕ → ℕ
pattern_size_at (Pattern-F.App l ps) = 1 + sum ps
pattern_size_at (Pattern-F.Tuple ps) = 1 + sum ps
pattern_size_at (Pattern-F.List ps) = 1 + sum ps
pattern_size_at (Pattern-F.Cons ps) = 1 + sum ps
pattern_size_at (Pattern-F.Bind n at p) = 1 + p
pattern_size_at _ = 1

-- the patterns in a pattern, itself included
abbrev pub pattern_size : Pattern → ℕ
pattern_size = fold-Pattern ℕ pattern_size_at

abbrev pub exp_size_at : Exp-F ℕ → ℕ
exp_size_at (Exp-F.App l es) = 1 + sum es
exp_size_at (Exp-F.Tuple es) = 1 + sum es
exp_size_at (Exp-F.List es) = 1 + sum es
exp_size_at (Exp-F.Cons es) = 1 + sum es
exp_size_at _ = 1

-- the expressions in an expression, itself included
abbrev pub exp_size : Exp → ℕ
exp_size = fold-Exp ℕ exp_size_at

-- the left side of an equation is an expression too
abbrev pub goal_size_at : Goal-F ℕ → ℕ
goal_size_at (Goal-F.Call l es ps) = 1 + sum_by exp_size es + sum_by pattern_size ps
goal_size_at (Goal-F.Equal l e) = 2 + exp_size e
goal_size_at (Goal-F.Let p e) = 1 + pattern_size p + exp_size e
goal_size_at (Goal-F.Not g) = 1 + g
goal_size_at (Goal-F.All gs) = 1 + sum gs

-- the goals, patterns and expressions in a goal, itself included
abbrev pub goal_size : Goal → ℕ
goal_size = fold-Goal ℕ goal_size_at

-- those of a rule
abbrev pub rule_size : Rule → ℕ
rule_size r = sum_by pattern_size r.inputs + sum_by goal_size r.goals + sum_by exp_size r.results

-- it has fewer of them than tokens
abbrev pub IsSmallRule : Rule → Type 0
IsSmallRule r = rule_size r < r.tokens

-- a constructor has fewer parts than that
abbrev pub HasPartsBelow : ℕ → ConBind → Type 0
HasPartsBelow n c = length c.parts < n

-- what a declaration has of rules, of expressions of vals and of constructors
abbrev pub rules_in : Decl → List Rule
rules_in (decl.Relation n p s rs) = rs
rules_in d = []

abbrev pub vals_in : Decl → List Exp
vals_in (decl.Val n p t (Some e)) = e ∷ []
vals_in d = []

abbrev pub constructors_in : Decl → List ConBind
constructors_in (decl.Datatype ds) = flat_map (λ b. b.cons) ds
constructors_in d = []

-- the declarations of the interface and of the body
abbrev pub declarations : Text → List Decl
declarations t = t.specs ++ t.decls

-- the tokens of a declaration's rules and the expressions of its val
abbrev pub weight : Decl → ℕ
weight d = sum_by (λ r. r.tokens) (rules_in d) + sum_by exp_size (vals_in d)
