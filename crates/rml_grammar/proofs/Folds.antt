-- What a fold gives at each form of a tree.
use Rattle.std.proofs.Common.{◌≡◌, ℕ, List, map, sym, ap, ◌∙◌}
use Rattle.rml_base.specs.declared.place.Place.{Place}
use Rattle.rml_syntax.specs.declared.token.Lit.{Lit}
use Rattle.rml_syntax.specs.declared.rules.Long.{Long}
use Rattle.rml_syntax.specs.declared.rules.Pattern.{Pattern, fold-Pattern, fold-roll-Pattern}
use Rattle.rml_syntax.specs.declared.rules.Pattern.TheOpen.{Pattern-F}
use Rattle.rml_syntax.specs.declared.rules.Pattern.TheVariants as pat
use Rattle.rml_syntax.specs.declared.rules.Exp.{Exp, fold-Exp, fold-roll-Exp}
use Rattle.rml_syntax.specs.declared.rules.Exp.TheOpen.{Exp-F}
use Rattle.rml_syntax.specs.declared.rules.Exp.TheVariants as exp
use Rattle.rml_syntax.specs.declared.rules.Goal.{Goal, fold-Goal, fold-roll-Goal}
use Rattle.rml_syntax.specs.declared.rules.Goal.TheOpen.{Goal-F}
use Rattle.rml_syntax.specs.declared.rules.Goal.TheVariants as goal
use Rattle.rml_syntax.specs.declared.types.TypeExp.{TypeExp, fold-TypeExp, fold-roll-TypeExp}
use Rattle.rml_syntax.specs.declared.types.TypeExp.TheOpen.{TypeExp-F, Sig-F}
use Rattle.rml_syntax.specs.declared.types.TypeExp.TheVariants as type
use Rattle.rml_syntax.specs.declared.types.Sig.{Sig, fold-Sig, fold-roll-Sig}

module _ (A : Type 0) (step : Exp-F A → A) where
  abbrev of-Exp : Exp → A
  of-Exp = fold-Exp A step

  pub exp-Lit : (l : Lit) → of-Exp (exp.Lit l) ≡ step (Exp-F.Lit l)
  exp-Lit l = ap of-Exp (sym (exp.rolls-Lit l)) ∙ fold-roll-Exp A step (Exp-F.Lit l)

  pub exp-Name : (l : Long) → of-Exp (exp.Name l) ≡ step (Exp-F.Name l)
  exp-Name l = ap of-Exp (sym (exp.rolls-Name l)) ∙ fold-roll-Exp A step (Exp-F.Name l)

  pub exp-App : (l : Long) (es : List Exp) → of-Exp (exp.App l es) ≡ step (Exp-F.App l (map of-Exp es))
  exp-App l es = ap of-Exp (sym (exp.rolls-App l es)) ∙ fold-roll-Exp A step (Exp-F.App l es)

  pub exp-Tuple : (es : List Exp) → of-Exp (exp.Tuple es) ≡ step (Exp-F.Tuple (map of-Exp es))
  exp-Tuple es = ap of-Exp (sym (exp.rolls-Tuple es)) ∙ fold-roll-Exp A step (Exp-F.Tuple es)

  pub exp-List : (es : List Exp) → of-Exp (exp.List es) ≡ step (Exp-F.List (map of-Exp es))
  exp-List es = ap of-Exp (sym (exp.rolls-List es)) ∙ fold-roll-Exp A step (Exp-F.List es)

  pub exp-Cons : (es : List Exp) → of-Exp (exp.Cons es) ≡ step (Exp-F.Cons (map of-Exp es))
  exp-Cons es = ap of-Exp (sym (exp.rolls-Cons es)) ∙ fold-roll-Exp A step (Exp-F.Cons es)

module _ (A : Type 0) (step : Pattern-F A → A) where
  abbrev of-Pattern : Pattern → A
  of-Pattern = fold-Pattern A step

  pub pattern-Any : of-Pattern pat.Any ≡ step Pattern-F.Any
  pattern-Any = ap of-Pattern (sym pat.rolls-Any) ∙ fold-roll-Pattern A step Pattern-F.Any

  pub pattern-Lit : (l : Lit) → of-Pattern (pat.Lit l) ≡ step (Pattern-F.Lit l)
  pattern-Lit l = ap of-Pattern (sym (pat.rolls-Lit l)) ∙ fold-roll-Pattern A step (Pattern-F.Lit l)

  pub pattern-Name : (l : Long) → of-Pattern (pat.Name l) ≡ step (Pattern-F.Name l)
  pattern-Name l = ap of-Pattern (sym (pat.rolls-Name l)) ∙ fold-roll-Pattern A step (Pattern-F.Name l)

  pub pattern-App : (l : Long) (ps : List Pattern) → of-Pattern (pat.App l ps) ≡ step (Pattern-F.App l (map of-Pattern ps))
  pattern-App l ps = ap of-Pattern (sym (pat.rolls-App l ps)) ∙ fold-roll-Pattern A step (Pattern-F.App l ps)

  pub pattern-Tuple : (ps : List Pattern) → of-Pattern (pat.Tuple ps) ≡ step (Pattern-F.Tuple (map of-Pattern ps))
  pattern-Tuple ps = ap of-Pattern (sym (pat.rolls-Tuple ps)) ∙ fold-roll-Pattern A step (Pattern-F.Tuple ps)

  pub pattern-List : (ps : List Pattern) → of-Pattern (pat.List ps) ≡ step (Pattern-F.List (map of-Pattern ps))
  pattern-List ps = ap of-Pattern (sym (pat.rolls-List ps)) ∙ fold-roll-Pattern A step (Pattern-F.List ps)

  pub pattern-Cons : (ps : List Pattern) → of-Pattern (pat.Cons ps) ≡ step (Pattern-F.Cons (map of-Pattern ps))
  pattern-Cons ps = ap of-Pattern (sym (pat.rolls-Cons ps)) ∙ fold-roll-Pattern A step (Pattern-F.Cons ps)

  pub pattern-Bind : (n : ℕ) (at : Place) (p : Pattern) → of-Pattern (pat.Bind n at p) ≡ step (Pattern-F.Bind n at (of-Pattern p))
  pattern-Bind n at p = ap of-Pattern (sym (pat.rolls-Bind n at p)) ∙ fold-roll-Pattern A step (Pattern-F.Bind n at p)

module _ (A : Type 0) (step : Goal-F A → A) where
  abbrev of-Goal : Goal → A
  of-Goal = fold-Goal A step

  pub goal-Call : (l : Long) (es : List Exp) (ps : List Pattern) → of-Goal (goal.Call l es ps) ≡ step (Goal-F.Call l es ps)
  goal-Call l es ps = ap of-Goal (sym (goal.rolls-Call l es ps)) ∙ fold-roll-Goal A step (Goal-F.Call l es ps)

  pub goal-Equal : (l : Long) (e : Exp) → of-Goal (goal.Equal l e) ≡ step (Goal-F.Equal l e)
  goal-Equal l e = ap of-Goal (sym (goal.rolls-Equal l e)) ∙ fold-roll-Goal A step (Goal-F.Equal l e)

  pub goal-Let : (p : Pattern) (e : Exp) → of-Goal (goal.Let p e) ≡ step (Goal-F.Let p e)
  goal-Let p e = ap of-Goal (sym (goal.rolls-Let p e)) ∙ fold-roll-Goal A step (Goal-F.Let p e)

  pub goal-Not : (g : Goal) → of-Goal (goal.Not g) ≡ step (Goal-F.Not (of-Goal g))
  goal-Not g = ap of-Goal (sym (goal.rolls-Not g)) ∙ fold-roll-Goal A step (Goal-F.Not g)

  pub goal-All : (gs : List Goal) → of-Goal (goal.All gs) ≡ step (Goal-F.All (map of-Goal gs))
  goal-All gs = ap of-Goal (sym (goal.rolls-All gs)) ∙ fold-roll-Goal A step (Goal-F.All gs)

module _ (A B : Type 0) (step : TypeExp-F A B → A) (sign : Sig-F A B → B) where
  abbrev of-Type : TypeExp → A
  of-Type = fold-TypeExp A B step sign

  abbrev of-Sig : Sig → B
  of-Sig = fold-Sig A B step sign

  pub type-Var : (v : ℕ) (p : Place) → of-Type (type.Var v p) ≡ step (TypeExp-F.Var v p)
  type-Var v p = ap of-Type (sym (type.rolls-Var v p)) ∙ fold-roll-TypeExp A B step sign (TypeExp-F.Var v p)

  pub type-App : (ts : List TypeExp) (ls : List Long) → of-Type (type.App ts ls) ≡ step (TypeExp-F.App (map of-Type ts) ls)
  type-App ts ls = ap of-Type (sym (type.rolls-App ts ls)) ∙ fold-roll-TypeExp A B step sign (TypeExp-F.App ts ls)

  pub type-Tuple : (ts : List TypeExp) → of-Type (type.Tuple ts) ≡ step (TypeExp-F.Tuple (map of-Type ts))
  type-Tuple ts = ap of-Type (sym (type.rolls-Tuple ts)) ∙ fold-roll-TypeExp A B step sign (TypeExp-F.Tuple ts)

  pub type-Rel : (s : Sig) → of-Type (type.Rel s) ≡ step (TypeExp-F.Rel (of-Sig s))
  type-Rel s = ap of-Type (sym (type.rolls-Rel s)) ∙ fold-roll-TypeExp A B step sign (TypeExp-F.Rel s)

  pub sig-is : (s : Sig) → of-Sig s ≡ sign (record { inputs = map of-Type s.inputs; outputs = map of-Type s.outputs })
  sig-is s = fold-roll-Sig A B step sign (record { inputs = s.inputs; outputs = s.outputs })
