-- How large trees are: a rule has more tokens than parts, a constructor fewer parts than a text has bytes, and a text weighs no
-- more than it has bytes.
use Rattle.std.specs.Prelude.{ℕ, Bool, true, ◌&&◌, ◌+◌, nat_le, nat_lt, Some, length, sum, sum_by}
use Rattle.std.specs.List.{list_all}
use Rattle.rml_base.specs.declared.limits.TheConstants.{BYTES}
use Rattle.rml_syntax.specs.declared.rules.Pattern.{Pattern, fold-Pattern}
use Rattle.rml_syntax.specs.declared.rules.Pattern.TheOpen.{Pattern-F}
use Rattle.rml_syntax.specs.declared.rules.Exp.{Exp, fold-Exp}
use Rattle.rml_syntax.specs.declared.rules.Exp.TheOpen.{Exp-F}
use Rattle.rml_syntax.specs.declared.rules.Goal.{Goal, fold-Goal}
use Rattle.rml_syntax.specs.declared.rules.Goal.TheOpen.{Goal-F}
use Rattle.rml_syntax.specs.declared.rules.Rule.{Rule}
use Rattle.rml_syntax.specs.declared.types.ConBind.{ConBind}
use Rattle.rml_syntax.specs.declared.texts.Decl.{Decl}
use Rattle.rml_syntax.specs.declared.texts.Decl.TheVariants as decl
use Rattle.rml_syntax.specs.declared.texts.Text.{Text}

abbrev pub pattern_size_at : Pattern-F ℕ → ℕ
pattern_size_at (Pattern-F.App l ps) = 1 + sum ps
pattern_size_at (Pattern-F.Tuple ps) = 1 + sum ps
pattern_size_at (Pattern-F.List ps) = 1 + sum ps
pattern_size_at (Pattern-F.Cons ps) = 1 + sum ps
pattern_size_at (Pattern-F.Bind n at p) = 1 + p
pattern_size_at _ = 1

-- the patterns in a pattern, itself included
abbrev pub pattern_size : Pattern → ℕ
pattern_size = fold-Pattern ℕ pattern_size_at

abbrev pub exp_size_at : Exp-F ℕ → ℕ
exp_size_at (Exp-F.App l es) = 1 + sum es
exp_size_at (Exp-F.Tuple es) = 1 + sum es
exp_size_at (Exp-F.List es) = 1 + sum es
exp_size_at (Exp-F.Cons es) = 1 + sum es
exp_size_at _ = 1

-- the expressions in an expression, itself included
abbrev pub exp_size : Exp → ℕ
exp_size = fold-Exp ℕ exp_size_at

-- the left side of an equation is an expression too
abbrev pub goal_size_at : Goal-F ℕ → ℕ
goal_size_at (Goal-F.Call l es ps) = 1 + sum_by exp_size es + sum_by pattern_size ps
goal_size_at (Goal-F.Equal l e) = 2 + exp_size e
goal_size_at (Goal-F.Let p e) = 1 + pattern_size p + exp_size e
goal_size_at (Goal-F.Not g) = 1 + g
goal_size_at (Goal-F.All gs) = 1 + sum gs

-- the goals, patterns and expressions in a goal, itself included
abbrev pub goal_size : Goal → ℕ
goal_size = fold-Goal ℕ goal_size_at

-- those of a rule
abbrev pub rule_size : Rule → ℕ
rule_size r = sum_by pattern_size r.inputs + sum_by goal_size r.goals + sum_by exp_size r.results

-- more tokens than those, and so one at least
abbrev pub rule_is_small : Rule → Bool
rule_is_small r = nat_lt (rule_size r) r.tokens

-- fewer parts than a text has bytes
abbrev pub con_is_small : ConBind → Bool
con_is_small c = nat_lt (length c.parts) BYTES

abbrev pub decl_is_small : Decl → Bool
decl_is_small (decl.Datatype ds) = list_all (λ d. list_all con_is_small d.cons) ds
decl_is_small (decl.Relation n p s rs) = list_all rule_is_small rs
decl_is_small _ = true

-- the tokens of a relation's rules, or the expressions of a val
abbrev pub decl_weight : Decl → ℕ
decl_weight (decl.Relation n p s rs) = sum_by (λ r. r.tokens) rs
decl_weight (decl.Val n p t (Some e)) = exp_size e
decl_weight _ = 0

-- those of both halves
abbrev pub text_weight : Text → ℕ
text_weight t = sum_by decl_weight t.specs + sum_by decl_weight t.decls

abbrev pub text_is_small : Text → Bool
text_is_small t = list_all decl_is_small t.specs && list_all decl_is_small t.decls && nat_le (text_weight t) BYTES
