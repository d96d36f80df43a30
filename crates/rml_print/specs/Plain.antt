-- Trees as they are but for places and counts of tokens: every place is nowhere, and every count is 0.
use Rattle.std.specs.Prelude.{map, Option, Some, None}
use Rattle.rml_base.specs.declared.place.Place.{Place}
use Rattle.rml_syntax.specs.declared.rules.Long.{Long}
use Rattle.rml_syntax.specs.declared.rules.Pattern.{Pattern, fold-Pattern}
use Rattle.rml_syntax.specs.declared.rules.Pattern.TheVariants as pat
use Rattle.rml_syntax.specs.declared.rules.Pattern.TheOpen.{Pattern-F}
use Rattle.rml_syntax.specs.declared.rules.Exp.{Exp, fold-Exp}
use Rattle.rml_syntax.specs.declared.rules.Exp.TheVariants as exp
use Rattle.rml_syntax.specs.declared.rules.Exp.TheOpen.{Exp-F}
use Rattle.rml_syntax.specs.declared.rules.Goal.{Goal, fold-Goal}
use Rattle.rml_syntax.specs.declared.rules.Goal.TheVariants as goal
use Rattle.rml_syntax.specs.declared.rules.Goal.TheOpen.{Goal-F}
use Rattle.rml_syntax.specs.declared.rules.Rule.{Rule}
use Rattle.rml_syntax.specs.declared.types.TypeExp.{TypeExp, fold-TypeExp}
use Rattle.rml_syntax.specs.declared.types.TypeExp.TheVariants as type
use Rattle.rml_syntax.specs.declared.types.TypeExp.TheOpen.{TypeExp-F, Sig-F}
use Rattle.rml_syntax.specs.declared.types.Sig.{Sig, fold-Sig}
use Rattle.rml_syntax.specs.declared.types.TypeHead.{TypeHead}
use Rattle.rml_syntax.specs.declared.types.DataBind.{DataBind}
use Rattle.rml_syntax.specs.declared.types.ConBind.{ConBind}
use Rattle.rml_syntax.specs.declared.texts.Uses.{Uses}
use Rattle.rml_syntax.specs.declared.texts.Decl.{Decl}
use Rattle.rml_syntax.specs.declared.texts.Decl.TheVariants as decl
use Rattle.rml_syntax.specs.declared.texts.Text.{Text}

abbrev pub nowhere : Place
nowhere = record { text = 0; line = 0; column = 0 }

abbrev pub plain_long : Long → Long
plain_long l = record { «module» = l.module; name = l.name; place = nowhere }

abbrev pub plain_type_at : TypeExp-F TypeExp Sig → TypeExp
plain_type_at (TypeExp-F.Var v p) = type.Var v nowhere
plain_type_at (TypeExp-F.App ts ls) = type.App ts (map plain_long ls)
plain_type_at (TypeExp-F.Tuple ts) = type.Tuple ts
plain_type_at (TypeExp-F.Rel s) = type.Rel s

abbrev pub plain_sig_at : Sig-F TypeExp Sig → Sig
plain_sig_at s = record { inputs = s.inputs; outputs = s.outputs }

abbrev pub plain_type : TypeExp → TypeExp
plain_type = fold-TypeExp TypeExp Sig plain_type_at plain_sig_at

abbrev pub plain_sig : Sig → Sig
plain_sig = fold-Sig TypeExp Sig plain_type_at plain_sig_at

abbrev pub plain_pattern_at : Pattern-F Pattern → Pattern
plain_pattern_at Pattern-F.Any = pat.Any
plain_pattern_at (Pattern-F.Lit l) = pat.Lit l
plain_pattern_at (Pattern-F.Name l) = pat.Name (plain_long l)
plain_pattern_at (Pattern-F.App l ps) = pat.App (plain_long l) ps
plain_pattern_at (Pattern-F.Tuple ps) = pat.Tuple ps
plain_pattern_at (Pattern-F.List ps) = pat.List ps
plain_pattern_at (Pattern-F.Cons ps) = pat.Cons ps
plain_pattern_at (Pattern-F.Bind n at p) = pat.Bind n nowhere p

abbrev pub plain_pattern : Pattern → Pattern
plain_pattern = fold-Pattern Pattern plain_pattern_at

abbrev pub plain_exp_at : Exp-F Exp → Exp
plain_exp_at (Exp-F.Lit l) = exp.Lit l
plain_exp_at (Exp-F.Name l) = exp.Name (plain_long l)
plain_exp_at (Exp-F.App l es) = exp.App (plain_long l) es
plain_exp_at (Exp-F.Tuple es) = exp.Tuple es
plain_exp_at (Exp-F.List es) = exp.List es
plain_exp_at (Exp-F.Cons es) = exp.Cons es

abbrev pub plain_exp : Exp → Exp
plain_exp = fold-Exp Exp plain_exp_at

abbrev pub plain_goal_at : Goal-F Goal → Goal
plain_goal_at (Goal-F.Call l es ps) = goal.Call (plain_long l) (map plain_exp es) (map plain_pattern ps)
plain_goal_at (Goal-F.Equal l e) = goal.Equal (plain_long l) (plain_exp e)
plain_goal_at (Goal-F.Let p e) = goal.Let (plain_pattern p) (plain_exp e)
plain_goal_at (Goal-F.Not g) = goal.Not g
plain_goal_at (Goal-F.All gs) = goal.All gs

abbrev pub plain_goal : Goal → Goal
plain_goal = fold-Goal Goal plain_goal_at

abbrev pub plain_rule : Rule → Rule
plain_rule r = record {
  place = nowhere;
  head = r.head;
  head_place = nowhere;
  inputs = map plain_pattern r.inputs;
  goals = map plain_goal r.goals;
  results = map plain_exp r.results;
  tokens = 0;
}

abbrev pub plain_head : TypeHead → TypeHead
plain_head h = record { vars = h.vars; name = h.name; place = nowhere }

abbrev pub plain_constructor : ConBind → ConBind
plain_constructor c = record { name = c.name; place = nowhere; parts = map plain_type c.parts }

abbrev pub plain_binding : DataBind → DataBind
plain_binding d = record { head = plain_head d.head; cons = map plain_constructor d.cons }

abbrev pub plain_uses : Uses → Uses
plain_uses u = record { file = u.file; place = nowhere }

-- what is there without its places, if it is there
abbrev pub plain_if : {A : Type 0} → (A → A) → Option A → Option A
plain_if plain None = None
plain_if plain (Some x) = Some (plain x)

abbrev pub plain_decl : Decl → Decl
plain_decl (decl.Datatype ds) = decl.Datatype (map plain_binding ds)
plain_decl (decl.Abbrev h t) = decl.Abbrev (plain_head h) (plain_type t)
plain_decl (decl.Abstype h) = decl.Abstype (plain_head h)
plain_decl (decl.Val n p t e) = decl.Val n nowhere (plain_if plain_type t) (plain_if plain_exp e)
plain_decl (decl.Relation n p s rs) = decl.Relation n nowhere (plain_if plain_sig s) (map plain_rule rs)

abbrev pub plain_text : Text → Text
plain_text t = record {
  «module» = t.«module»;
  place = nowhere;
  end = nowhere;
  uses = map plain_uses t.uses;
  specs = map plain_decl t.specs;
  body_uses = map plain_uses t.body_uses;
  decls = map plain_decl t.decls;
}
