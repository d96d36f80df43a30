-- How deep trees are: how many nodes stand in one another, a leaf being one deep.
use Rattle.std.specs.Prelude.{ℕ, ◌+◌, List, Option, Some, None, fold, map, max}
use Rattle.rml_syntax.specs.declared.rules.Pattern.{Pattern, fold-Pattern}
use Rattle.rml_syntax.specs.declared.rules.Pattern.TheOpen.{Pattern-F}
use Rattle.rml_syntax.specs.declared.rules.Exp.{Exp, fold-Exp}
use Rattle.rml_syntax.specs.declared.rules.Exp.TheOpen.{Exp-F}
use Rattle.rml_syntax.specs.declared.rules.Goal.{Goal, fold-Goal}
use Rattle.rml_syntax.specs.declared.rules.Goal.TheOpen.{Goal-F}
use Rattle.rml_syntax.specs.declared.rules.Rule.{Rule}
use Rattle.rml_syntax.specs.declared.types.TypeExp.{TypeExp, fold-TypeExp}
use Rattle.rml_syntax.specs.declared.types.TypeExp.TheOpen.{TypeExp-F, Sig-F}
use Rattle.rml_syntax.specs.declared.types.Sig.{Sig, fold-Sig}
use Rattle.rml_syntax.specs.declared.types.ConBind.{ConBind}
use Rattle.rml_syntax.specs.declared.texts.Decl.{Decl}
use Rattle.rml_syntax.specs.declared.texts.Decl.TheVariants as decl
use Rattle.rml_grammar.specs.Sizes.{constructors_in}

-- the greatest of some depths
abbrev pub deepest : List ℕ → ℕ
deepest ns = fold max 0 ns

abbrev pub pattern_depth_at : Pattern-F ℕ → ℕ
pattern_depth_at (Pattern-F.App l ps) = 1 + deepest ps
pattern_depth_at (Pattern-F.Tuple ps) = 1 + deepest ps
pattern_depth_at (Pattern-F.List ps) = 1 + deepest ps
pattern_depth_at (Pattern-F.Cons ps) = 1 + deepest ps
pattern_depth_at (Pattern-F.Bind n at p) = 1 + p
pattern_depth_at _ = 1

abbrev pub pattern_depth : Pattern → ℕ
pattern_depth = fold-Pattern ℕ pattern_depth_at

abbrev pub exp_depth_at : Exp-F ℕ → ℕ
exp_depth_at (Exp-F.App l es) = 1 + deepest es
exp_depth_at (Exp-F.Tuple es) = 1 + deepest es
exp_depth_at (Exp-F.List es) = 1 + deepest es
exp_depth_at (Exp-F.Cons es) = 1 + deepest es
exp_depth_at _ = 1

abbrev pub exp_depth : Exp → ℕ
exp_depth = fold-Exp ℕ exp_depth_at

abbrev pub patterns_depth : List Pattern → ℕ
patterns_depth ps = deepest (map pattern_depth ps)

abbrev pub exps_depth : List Exp → ℕ
exps_depth es = deepest (map exp_depth es)

-- the patterns and expressions in a goal stand in it
abbrev pub goal_depth_at : Goal-F ℕ → ℕ
goal_depth_at (Goal-F.Call l es ps) = 1 + max (exps_depth es) (patterns_depth ps)
goal_depth_at (Goal-F.Equal l e) = 1 + exp_depth e
goal_depth_at (Goal-F.Let p e) = 1 + max (pattern_depth p) (exp_depth e)
goal_depth_at (Goal-F.Not g) = 1 + g
goal_depth_at (Goal-F.All gs) = 1 + deepest gs

abbrev pub goal_depth : Goal → ℕ
goal_depth = fold-Goal ℕ goal_depth_at

-- a relation type is a node, and its signature is none
abbrev pub type_depth_at : TypeExp-F ℕ ℕ → ℕ
type_depth_at (TypeExp-F.Var v p) = 1
type_depth_at (TypeExp-F.App ts ls) = 1 + deepest ts
type_depth_at (TypeExp-F.Tuple ts) = 1 + deepest ts
type_depth_at (TypeExp-F.Rel s) = 1 + s

abbrev pub sig_depth_at : Sig-F ℕ ℕ → ℕ
sig_depth_at s = max (deepest s.inputs) (deepest s.outputs)

abbrev pub type_depth : TypeExp → ℕ
type_depth = fold-TypeExp ℕ ℕ type_depth_at sig_depth_at

abbrev pub sig_depth : Sig → ℕ
sig_depth = fold-Sig ℕ ℕ type_depth_at sig_depth_at

abbrev pub types_depth : List TypeExp → ℕ
types_depth ts = deepest (map type_depth ts)

-- the deepest that stands in a rule, a constructor or a declaration
abbrev pub rule_depth : Rule → ℕ
rule_depth r = max (patterns_depth r.inputs) (max (deepest (map goal_depth r.goals)) (exps_depth r.results))

abbrev pub constructor_depth : ConBind → ℕ
constructor_depth c = types_depth c.parts

-- what may be left out has no depth
abbrev pub depth_or_none : {A : Type 0} → (A → ℕ) → Option A → ℕ
depth_or_none depth None = 0
depth_or_none depth (Some x) = depth x

abbrev pub decl_depth : Decl → ℕ
decl_depth (decl.Datatype ds) = deepest (map constructor_depth (constructors_in (decl.Datatype ds)))
decl_depth (decl.Abbrev h t) = type_depth t
decl_depth (decl.Abstype h) = 0
decl_depth (decl.Val n p t e) = max (depth_or_none type_depth t) (depth_or_none exp_depth e)
decl_depth (decl.Relation n p s rs) = max (depth_or_none sig_depth s) (deepest (map rule_depth rs))
