-- Goals and rules with numbers for names.
use Rattle.std.specs.Prelude.{List, length, map}
use Rattle.rml_syntax.specs.declared.rules.Exp.{Exp}
use Rattle.rml_syntax.specs.declared.rules.Goal.{Goal, fold-Goal}
use Rattle.rml_syntax.specs.declared.rules.Goal.TheOpen.{Goal-F}
use Rattle.rml_syntax.specs.declared.rules.Long.{Long}
use Rattle.rml_syntax.specs.declared.rules.Pattern.{Pattern}
use Rattle.rml_syntax.specs.declared.rules.Rule.{Rule}
use Rattle.rml_scopes.specs.declared.scope.Scope.{Scope}
use Rattle.rml_scopes.specs.Machine.{after_step}
use Rattle.rml_scopes.specs.Steps as step
use Rattle.rml_values.specs.Numbers.{capped}
use Rattle.rml_resolved.specs.declared.tables.RRule.{RRule}
use Rattle.rml_resolved.specs.declared.trees.RExp.{RExp}
use Rattle.rml_resolved.specs.declared.trees.RGoal.{RGoal}
use Rattle.rml_resolved.specs.declared.trees.RGoal.TheVariants as rgoal
use Rattle.rml_resolved.specs.declared.trees.RPat.{RPat}
use Rattle.rml_rules.specs.declared.env.Env.{Env}
use Rattle.rml_rules.specs.Made.{Made, in_turn, over, then_step}
use Rattle.rml_rules.specs.Names.{callee, value}
use Rattle.rml_rules.specs.Terms.{exp, pattern, patterns}

-- In a premise what is called and the expressions stand before the patterns, so in the scope of its beginning. At its end a part ends.

abbrev pub call : Env → Long → List Exp → List Pattern → Scope → Made RGoal
call env l es ps s = then_step env.world step.Part (over (rgoal.Call (callee env s l) (map (exp env s) es)) (patterns env ps s))

abbrev pub equal : Env → Long → Exp → Scope → Made RGoal
equal env l e s = record { tree = rgoal.Equal (value env s l) (exp env s e); after = after_step env.world s step.Part }

abbrev pub binding : Env → Pattern → Exp → Scope → Made RGoal
binding env p e s = then_step env.world step.Part (over (λ bound. rgoal.Let bound (exp env s e)) (pattern env p s))

abbrev pub goal_at : Env → Goal-F (Scope → Made RGoal) → Scope → Made RGoal
goal_at env (Goal-F.Call l es ps) s = call env l es ps s
goal_at env (Goal-F.Equal l e) s = equal env l e s
goal_at env (Goal-F.Let p e) s = binding env p e s
goal_at env (Goal-F.Not g) s = then_step env.world step.Leave (over rgoal.Not (g (after_step env.world s step.Enter)))
goal_at env (Goal-F.All gs) s = over rgoal.All (in_turn gs s)

abbrev pub goal : Env → Goal → Scope → Made RGoal
goal env = fold-Goal (Scope → Made RGoal) (goal_at env)

abbrev pub goals : Env → List Goal → Scope → Made (List RGoal)
goals env gs = in_turn (map (goal env) gs)

-- The head of a rule, its premises in the scope behind it, and its results in the scope behind these. It has as many variables as were bound.

abbrev pub head : Env → Rule → Scope → Made (List RPat)
head env r s = then_step env.world step.Part (patterns env r.inputs (after_step env.world s step.Begins))

abbrev pub premises : Env → Rule → Scope → Made (List RGoal)
premises env r s = goals env r.goals (head env r s).after

abbrev pub rule_tree : Env → Rule → Scope → RRule
rule_tree env r s = record {
  place = r.place;
  inputs = (head env r s).tree;
  goals = (premises env r s).tree;
  results = map (exp env (premises env r s).after) r.results;
  vars = capped (length (premises env r s).after.bound);
  tokens = r.tokens;
}

abbrev pub rule : Env → Rule → Scope → Made RRule
rule env r s = record { tree = rule_tree env r s; after = (premises env r s).after }

abbrev pub rules : Env → List Rule → Scope → Made (List RRule)
rules env rs = in_turn (map (rule env) rs)

-- the expression of a val, which has a scope of its own
abbrev pub val_value : Env → Exp → Scope → Made RExp
val_value env e s = record { tree = exp env (after_step env.world s step.Begins) e; after = after_step env.world s step.Begins }
