-- What the short forms stand for. `w` has the numbers of the words.
use Rattle.std.specs.Prelude.{ℕ, pos, List, [], ◌∷◌, Option, map}
use Rattle.rml_syntax.specs.declared.rules.Exp.{Exp}
use Rattle.rml_syntax.specs.declared.rules.Exp.TheVariants as exp
use Rattle.rml_syntax.specs.declared.rules.Goal.{Goal}
use Rattle.rml_syntax.specs.declared.rules.Goal.TheVariants as goal
use Rattle.rml_syntax.specs.declared.rules.Pattern.{Pattern}
use Rattle.rml_syntax.specs.declared.rules.Pattern.TheVariants as pattern
use Rattle.rml_syntax.specs.declared.rules.Rule.{Rule}
use Rattle.rml_syntax.specs.declared.texts.Decl.{Decl}
use Rattle.rml_syntax.specs.declared.texts.Decl.TheVariants as decl
use Rattle.rml_syntax.specs.declared.token.Lit.TheVariants as lit
use Rattle.rml_syntax.specs.declared.types.Sig.{Sig}
use Rattle.rml_syntax.specs.declared.types.TypeExp.{TypeExp}
use Rattle.rml_prelude.specs.Parts.{a, call, declared, list_of_a, long, name, nowhere, plain, rule, sig, value}
use Rattle.rml_prelude.specs.Words.{number}
use Rattle.rml_prelude.specs.declared.short.ShortExp.{ShortExp}
use Rattle.rml_prelude.specs.declared.short.ShortExp.TheVariants as shortexp
use Rattle.rml_prelude.specs.declared.short.ShortGoal.{ShortGoal}
use Rattle.rml_prelude.specs.declared.short.ShortGoal.TheVariants as shortgoal
use Rattle.rml_prelude.specs.declared.short.ShortPattern.{ShortPattern}
use Rattle.rml_prelude.specs.declared.short.ShortPattern.TheVariants as shortpattern
use Rattle.rml_prelude.specs.declared.short.ShortRule.{ShortRule}
use Rattle.rml_prelude.specs.declared.short.ShortSig.{ShortSig}
use Rattle.rml_prelude.specs.declared.short.ShortType.{ShortType}
use Rattle.rml_prelude.specs.declared.short.ShortType.TheVariants as shorttype
use Rattle.rml_prelude.specs.declared.word.Word.{Word}

module _ (w : List ℕ) where
  abbrev pub type_of : ShortType → TypeExp
  type_of shorttype.Any = a w
  type_of (shorttype.Named n) = plain w n
  type_of shorttype.Lists = list_of_a w

  abbrev pub sig_of : List ShortType → ShortType → Sig
  sig_of inputs output = sig (map type_of inputs) (type_of output)

  -- what an interface says of a relation
  abbrev pub declared_by : ShortSig → Decl
  declared_by short = declared w short.name (map type_of short.inputs.now) (type_of short.output)

  abbrev pub pattern_of : ShortPattern → Pattern
  pattern_of shortpattern.Any = pattern.Any
  pattern_of shortpattern.Zero = pattern.Lit (lit.Int (pos 0))
  pattern_of shortpattern.Empty = pattern.List []
  pattern_of (shortpattern.Name n) = name w n
  pattern_of (shortpattern.Link x r) = pattern.Cons (name w x ∷ name w r ∷ [])
  pattern_of (shortpattern.First x) = pattern.Cons (name w x ∷ pattern.Any ∷ [])
  pattern_of (shortpattern.Rest r) = pattern.Cons (pattern.Any ∷ name w r ∷ [])

  abbrev pub exp_of : ShortExp → Exp
  exp_of (shortexp.Number n) = exp.Lit (lit.Int n)
  exp_of shortexp.Empty = exp.List []
  exp_of (shortexp.Name n) = value w n
  exp_of (shortexp.Link x r) = exp.Cons (value w x ∷ value w r ∷ [])

  abbrev pub goal_of : ShortGoal → Goal
  goal_of (shortgoal.Equal x y) = goal.Equal (long w x) (value w y)
  goal_of (shortgoal.Differ x y) = goal.Not (goal.Equal (long w x) (value w y))
  goal_of (shortgoal.One f x y) = call w f (exp_of x ∷ []) (name w y)
  goal_of (shortgoal.Two f x y z) = call w f (exp_of x ∷ exp_of y ∷ []) (name w z)

  abbrev pub rule_of : Word → ShortRule → Rule
  rule_of f short = rule w f (map pattern_of short.inputs.now) (map goal_of short.goals.now) (exp_of short.result ∷ []) short.tokens

  -- a relation in the body
  abbrev pub defined_by : Word → Option Sig → List ShortRule → Decl
  defined_by f type rules = decl.Relation (number w f) nowhere type (map (rule_of f) rules)
