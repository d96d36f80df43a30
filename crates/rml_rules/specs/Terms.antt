-- Patterns and expressions with numbers for names. An expression binds nothing, so it stands in one scope.
use Rattle.std.specs.Prelude.{List, map}
use Rattle.rml_syntax.specs.declared.rules.Exp.{Exp, fold-Exp}
use Rattle.rml_syntax.specs.declared.rules.Exp.TheOpen.{Exp-F}
use Rattle.rml_syntax.specs.declared.rules.Pattern.{Pattern, fold-Pattern}
use Rattle.rml_syntax.specs.declared.rules.Pattern.TheOpen.{Pattern-F}
use Rattle.rml_scopes.specs.declared.role.Role.TheVariants as role
use Rattle.rml_scopes.specs.declared.scope.Scope.{Scope}
use Rattle.rml_scopes.specs.Machine.{after_name}
use Rattle.rml_scopes.specs.Steps.{short}
use Rattle.rml_resolved.specs.declared.trees.RExp.{RExp}
use Rattle.rml_resolved.specs.declared.trees.RExp.TheVariants as rexp
use Rattle.rml_resolved.specs.declared.trees.RPat.{RPat}
use Rattle.rml_resolved.specs.declared.trees.RPat.TheVariants as rpat
use Rattle.rml_rules.specs.declared.env.Env.{Env}
use Rattle.rml_rules.specs.Made.{Made, in_turn, over}
use Rattle.rml_rules.specs.Names.{con, named, value, variable}

abbrev pub exp_at : Env → Scope → Exp-F RExp → RExp
exp_at env s (Exp-F.Lit l) = rexp.Lit l
exp_at env s (Exp-F.Name l) = value env s l
exp_at env s (Exp-F.App l es) = rexp.Con (con env s l) es
exp_at env s (Exp-F.Tuple es) = rexp.Tuple es
exp_at env s (Exp-F.List es) = rexp.List es
exp_at env s (Exp-F.Cons es) = rexp.Cons es

abbrev pub exp : Env → Scope → Exp → RExp
exp env s = fold-Exp RExp (exp_at env s)

abbrev pub pattern_at : Env → Pattern-F (Scope → Made RPat) → Scope → Made RPat
pattern_at env Pattern-F.Any s = record { tree = rpat.Any; after = s }
pattern_at env (Pattern-F.Lit l) s = record { tree = rpat.Lit l; after = s }
pattern_at env (Pattern-F.Name l) s = record { tree = named env s l; after = after_name env.world s role.Pattern l }
pattern_at env (Pattern-F.App l ps) s = over (rpat.Con (con env s l)) (in_turn ps s)
pattern_at env (Pattern-F.Tuple ps) s = over rpat.Tuple (in_turn ps s)
pattern_at env (Pattern-F.List ps) s = over rpat.List (in_turn ps s)
pattern_at env (Pattern-F.Cons ps) s = over rpat.Cons (in_turn ps s)
pattern_at env (Pattern-F.Bind name place p) s = over (rpat.Bind (variable s name)) (p (after_name env.world s role.Variable (short name place)))

abbrev pub pattern : Env → Pattern → Scope → Made RPat
pattern env = fold-Pattern (Scope → Made RPat) (pattern_at env)

abbrev pub patterns : Env → List Pattern → Scope → Made (List RPat)
patterns env ps = in_turn (map (pattern env) ps)
