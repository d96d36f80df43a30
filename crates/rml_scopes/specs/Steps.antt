-- A text as a list of steps, as far as names go: each name with its role, and where the parts of rules and the `not`s begin and end.
-- The steps stand in the order in which what is bound and declared comes into scope, which differs from the order of the text in three
-- ways: a rule's head comes before its premises, the expression of a `let` before its pattern, and a declared name behind its type and,
-- but for relations and datatypes, behind its definition. So what is declared so far is what stands earlier. Faults have places of their
-- own, and their order doesn't rest on that of the steps.
use Rattle.std.specs.Prelude.{ℕ, Bool, true, false, nat_eq, nat_lt, List, [], ◌∷◌, ◌++◌, length, map, Option, None, Some, is_some}
use Rattle.rml_base.specs.declared.place.Place.{Place}
use Rattle.rml_syntax.specs.declared.rules.Long.{Long}
use Rattle.rml_syntax.specs.declared.rules.Pattern.{Pattern, fold-Pattern}
use Rattle.rml_syntax.specs.declared.rules.Pattern.TheOpen.{Pattern-F}
use Rattle.rml_syntax.specs.declared.rules.Exp.{Exp, fold-Exp}
use Rattle.rml_syntax.specs.declared.rules.Exp.TheOpen.{Exp-F}
use Rattle.rml_syntax.specs.declared.rules.Goal.{Goal, fold-Goal}
use Rattle.rml_syntax.specs.declared.rules.Goal.TheOpen.{Goal-F}
use Rattle.rml_syntax.specs.declared.rules.Rule.{Rule as RuleTree}
use Rattle.rml_syntax.specs.declared.texts.Decl.{Decl}
use Rattle.rml_syntax.specs.declared.texts.Decl.TheVariants as decl
use Rattle.rml_syntax.specs.declared.texts.Text.{Text}
use Rattle.rml_syntax.specs.declared.texts.Uses.{Uses}
use Rattle.rml_syntax.specs.declared.types.ConBind.{ConBind}
use Rattle.rml_syntax.specs.declared.types.DataBind.{DataBind}
use Rattle.rml_syntax.specs.declared.types.Sig.{Sig, fold-Sig}
use Rattle.rml_syntax.specs.declared.types.TypeExp.{TypeExp, fold-TypeExp}
use Rattle.rml_syntax.specs.declared.types.TypeExp.TheOpen.{TypeExp-F, Sig-F}
use Rattle.rml_syntax.specs.declared.types.TypeHead.{TypeHead}
use Rattle.rml_outlines.specs.declared.entry.TypeEntry.{TypeEntry}
use Rattle.rml_outlines.specs.declared.entry.TypeKind.{TypeKind}
use Rattle.rml_outlines.specs.declared.entry.TypeKind.TheVariants as kind
use Rattle.rml_outlines.specs.declared.entry.ValueEntry.{ValueEntry}
use Rattle.rml_outlines.specs.declared.entry.ValueEntry.TheVariants as value
use Rattle.rml_scopes.specs.declared.role.Role.{Role}
use Rattle.rml_scopes.specs.declared.role.Role.TheVariants as role
use Rattle.rml_scopes.specs.declared.role.Within.{Within}
use Rattle.rml_scopes.specs.declared.role.Within.TheVariants as within
use Rattle.rml_tables.specs.Words.{with_each}
use Rattle.rml_outlines.specs.Declarations.{type_entry}

pub data Step : Type 0 where
  -- the text's module, and a `with`
  Module : (name : ℕ) (place : Place) → Step
  With : (file : ℕ) (place : Place) → Step
  -- the interface has ended, and the body begins
  Body : Step
  -- a type is declared; whether a variable stands twice among its parameters
  DeclaresType : (entry : TypeEntry) (twice : Bool) (name : ℕ) (place : Place) → Step
  -- a value is declared; whether its type is given here
  DeclaresValue : (entry : ValueEntry) (typed : Bool) (name : ℕ) (place : Place) → Step
  -- from here on only these type variables may stand, and from here on any
  Params : (vars : List ℕ) → Step
  AnyParams : Step
  TypeVariable : (name : ℕ) (place : Place) → Step
  Inside : (within : Within) → Step
  -- a name is used
  Name : (role : Role) (long : Long) → Step
  -- a rule begins, or the expression of a val
  Begins : Step
  -- a part of a rule ends
  Part : Step
  -- a `not` opens, and closes
  Enter : Step
  Leave : Step

abbrev pub joined : List (List Step) → List Step
joined [] = []
joined (s ∷ ss) = s ++ joined ss

abbrev pub short : ℕ → Place → Long
short name place = record { «module» = None; name = name; place = place }

-- types: the first name is applied to the arguments, each later one to what stands before it

abbrev pub later_names : List Long → List Step
later_names [] = []
later_names (l ∷ ls) = Name (role.TypeName 1) l ∷ later_names ls

abbrev pub type_names : ℕ → List Long → List Step
type_names count [] = []
type_names count (l ∷ ls) = Name (role.TypeName count) l ∷ later_names ls

abbrev pub applied_steps : List (List Step) → List Long → List Step
applied_steps arguments names = joined arguments ++ type_names (length arguments) names

abbrev pub type_at : TypeExp-F (List Step) (List Step) → List Step
type_at (TypeExp-F.Var name place) = TypeVariable name place ∷ []
type_at (TypeExp-F.App arguments names) = applied_steps arguments names
type_at (TypeExp-F.Tuple parts) = joined parts
type_at (TypeExp-F.Rel sig) = sig

abbrev pub sig_at : Sig-F (List Step) (List Step) → List Step
sig_at s = joined s.inputs ++ joined s.outputs

abbrev pub type_steps : TypeExp → List Step
type_steps = fold-TypeExp (List Step) (List Step) type_at sig_at

abbrev pub sig_steps : Sig → List Step
sig_steps = fold-Sig (List Step) (List Step) type_at sig_at

-- patterns, expressions and goals

-- a constructor before its arguments
abbrev pub built_steps : Long → List (List Step) → List Step
built_steps l arguments = Name (role.Constructor (length arguments)) l ∷ joined arguments

abbrev pub pattern_at : Pattern-F (List Step) → List Step
pattern_at Pattern-F.Any = []
pattern_at (Pattern-F.Lit l) = []
pattern_at (Pattern-F.Name l) = Name role.Pattern l ∷ []
pattern_at (Pattern-F.App l ps) = built_steps l ps
pattern_at (Pattern-F.Tuple ps) = joined ps
pattern_at (Pattern-F.List ps) = joined ps
pattern_at (Pattern-F.Cons ps) = joined ps
pattern_at (Pattern-F.Bind name place p) = Name role.Variable (short name place) ∷ p

abbrev pub pattern_steps : Pattern → List Step
pattern_steps = fold-Pattern (List Step) pattern_at

abbrev pub exp_at : Exp-F (List Step) → List Step
exp_at (Exp-F.Lit l) = []
exp_at (Exp-F.Name l) = Name role.Value l ∷ []
exp_at (Exp-F.App l es) = built_steps l es
exp_at (Exp-F.Tuple es) = joined es
exp_at (Exp-F.List es) = joined es
exp_at (Exp-F.Cons es) = joined es

abbrev pub exp_steps : Exp → List Step
exp_steps = fold-Exp (List Step) exp_at

-- a premise is a part, and where it has goals in brackets, also under `not`, each of these is one
abbrev pub call_steps : Long → List Exp → List Pattern → List Step
call_steps l es ps = Name role.Callee l ∷ (joined (map exp_steps es) ++ (joined (map pattern_steps ps) ++ Part ∷ []))

abbrev pub equal_steps : Long → Exp → List Step
equal_steps l e = Name role.Value l ∷ (exp_steps e ++ Part ∷ [])

abbrev pub let_steps : Pattern → Exp → List Step
let_steps p e = exp_steps e ++ (pattern_steps p ++ Part ∷ [])

abbrev pub goal_at : Goal-F (List Step) → List Step
goal_at (Goal-F.Call l es ps) = call_steps l es ps
goal_at (Goal-F.Equal l e) = equal_steps l e
goal_at (Goal-F.Let p e) = let_steps p e
goal_at (Goal-F.Not g) = Enter ∷ (g ++ Leave ∷ [])
goal_at (Goal-F.All gs) = joined gs

abbrev pub goal_steps : Goal → List Step
goal_steps = fold-Goal (List Step) goal_at

abbrev pub rule_steps : ℕ → RuleTree → List Step
rule_steps relation r =
    Begins ∷ Name (role.Head relation) (short r.head r.head_place)
    ∷ (joined (map pattern_steps r.inputs) ++ Part ∷ (joined (map goal_steps r.goals) ++ joined (map exp_steps r.results)))

-- declarations

-- whether one of some names stands twice: there are fewer different ones
abbrev pub has_repeats : List ℕ → Bool
has_repeats names = nat_lt (length (with_each nat_eq [] names)) (length names)

abbrev pub head_step : TypeKind → TypeHead → Step
head_step k h = DeclaresType (type_entry k h) (has_repeats h.vars) h.name h.place

abbrev pub con_steps : ConBind → List Step
con_steps c = joined (map type_steps c.parts) ++ DeclaresValue (value.Constructor (length c.parts)) true c.name c.place ∷ []

abbrev pub bind_steps : DataBind → List Step
bind_steps d = head_step kind.Datatype d.head ∷ Params d.head.vars ∷ (joined (map con_steps d.cons) ++ AnyParams ∷ [])

abbrev pub abbrev_steps : TypeHead → TypeExp → List Step
abbrev_steps h t = Params h.vars ∷ Inside within.AType ∷ (type_steps t ++ Inside within.Anything ∷ AnyParams ∷ head_step kind.Abbrev h ∷ [])

abbrev pub steps_if : {A : Type 0} → (A → List Step) → Option A → List Step
steps_if steps None = []
steps_if steps (Some a) = steps a

abbrev pub val_exp_steps : Exp → List Step
val_exp_steps e = Begins ∷ Inside within.AVal ∷ (exp_steps e ++ Inside within.Anything ∷ [])

abbrev pub val_steps : ℕ → Place → Option TypeExp → Option Exp → List Step
val_steps name place t e = steps_if type_steps t ++ (steps_if val_exp_steps e ++ DeclaresValue value.Val (is_some t) name place ∷ [])

abbrev pub relation_steps : ℕ → Place → Option Sig → List RuleTree → List Step
relation_steps name place sig rules = steps_if sig_steps sig ++ DeclaresValue value.Relation (is_some sig) name place ∷ joined (map (rule_steps name) rules)

abbrev pub decl_steps : Decl → List Step
decl_steps (decl.Datatype binds) = joined (map bind_steps binds)
decl_steps (decl.Abbrev head t) = abbrev_steps head t
decl_steps (decl.Abstype head) = head_step kind.Abstype head ∷ []
decl_steps (decl.Val name place t e) = val_steps name place t e
decl_steps (decl.Relation name place sig rules) = relation_steps name place sig rules

abbrev pub with_step : Uses → List Step
with_step u = With u.file u.place ∷ []

abbrev pub text_steps : Text → List Step
text_steps t =
    Module t.«module» t.place
    ∷ (joined (map with_step t.uses) ++ (joined (map decl_steps t.specs) ++ Body ∷ (joined (map with_step t.body_uses) ++ joined (map decl_steps t.decls))))
