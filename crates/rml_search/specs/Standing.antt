-- What is bound after a match and after goals, and where the goals of a program's rules stand in a search.
use Rattle.std.specs.Prelude.{◌≡◌, ℕ, List, [], ◌∷◌, ◌++◌, IsSome}
use Rattle.std.specs.List.{Contains}
use Rattle.rml_simulation.specs.declared.partial.Trace.{Trace}
use Rattle.rml_simulation.specs.declared.partial.Partial.{Partial}
use Rattle.rml_simulation.specs.declared.partial.Partial.TheVariants.{Yes}
use Rattle.rml_value.specs.declared.value.Value.{Value}
use Rattle.rml_builtin.specs.Applied.{Store}
use Rattle.rml_resolved.specs.declared.program.Program.{Program}
use Rattle.rml_resolved.specs.declared.tables.RelDef.{RelDef}
use Rattle.rml_resolved.specs.declared.tables.RRule.{RRule}
use Rattle.rml_resolved.specs.declared.trees.Callee.{Callee}
use Rattle.rml_resolved.specs.declared.trees.Callee.TheVariants as callee
use Rattle.rml_resolved.specs.declared.trees.RGoal.{RGoal}
use Rattle.rml_resolved.specs.declared.trees.RGoal.TheOpen.{RGoal-F}
use Rattle.rml_resolved.specs.declared.trees.RGoal.TheVariants.{Not, All}
use Rattle.rml_terms.specs.declared.state.Matched.{Matched}
use Rattle.rml_terms.specs.declared.state.Matched.TheVariants as matched
use Rattle.rml_search.specs.declared.state.State.{State}
use Rattle.rml_terms.specs.Env.{Env, look, bound_in}
use Rattle.rml_terms.specs.Calling.{RelationCalls}
use Rattle.rml_search.specs.Matching.{matching_all}
use Rattle.rml_search.specs.Context.{Context}
use Rattle.rml_search.specs.Values.{value_of, values_of}
use Rattle.rml_search.specs.Search.{going_all}
use Rattle.rml_search.specs.Whole.{context_of}

-- where a match is Yes, these are bound behind what was bound before
abbrev pub BindsAlso : Env → List ℕ → Matched → Type 0
BindsAlso env xs (matched.Yes next) = bound_in next ≡ bound_in env ++ xs
BindsAlso env xs matched.No = Unit {0}
BindsAlso env xs matched.Wrong = Unit {0}

-- where there is an answer, these are bound
abbrev pub HasBound : List ℕ → Partial State → Type 0
HasBound bound (Yes s t n) = bound_in s.env ≡ bound
HasBound bound _ = Unit {0}

-- a goal comes to be searched with an environment: as a premise of a rule whose head matched, behind premises that gave an
-- answer; inside a `not`; or in brackets, behind goals that gave an answer
pub data Stands (p : Program) (calls : RelationCalls) : RGoal → Env → Type 0 where
  in_rule : (r : RelDef) (rule : RRule) (vs : List Value) (env : Env) (front back : List RGoal) (g : RGoal) (store : Store) (n m : ℕ) (s : State) (t : Trace)
      → Contains p.rels r → Contains r.rules rule → matching_all p.names rule.inputs vs [] ≡ matched.Yes env → rule.goals ≡ front ++ g ∷ back
      → going_all (context_of p) calls front env store n ≡ Yes s t m → Stands p calls g s.env
  in_not : (g : RGoal) (env : Env) → Stands p calls (Not g) env → Stands p calls g env
  in_brackets : (front back : List RGoal) (g : RGoal) (env : Env) (store : Store) (n m : ℕ) (s : State) (t : Trace)
      → Stands p calls (All (front ++ g ∷ back)) env → going_all (context_of p) calls front env store n ≡ Yes s t m → Stands p calls g s.env

-- a callee that is a variable or a val has a value; relations and built-ins are named by their numbers
abbrev pub CalleeHasValue : Context → Env → Callee → Type 0
CalleeHasValue c env (callee.Rel r) = Unit {0}
CalleeHasValue c env (callee.Built k) = Unit {0}
CalleeHasValue c env (callee.Var x) = IsSome (look x env)
CalleeHasValue c env (callee.Val k) = IsSome (c.vals k)

-- the callee and the expressions of a goal have values, those of the goals in it aside
abbrev pub HasValues : Context → Env → RGoal-F RGoal → Type 0
HasValues c env (RGoal-F.Call f es ps) = CalleeHasValue c env f × IsSome (values_of c es env)
HasValues c env (RGoal-F.Equal a b) = IsSome (value_of c a env) × IsSome (value_of c b env)
HasValues c env (RGoal-F.Let q e) = IsSome (value_of c e env)
HasValues c env (RGoal-F.Not g) = Unit {0}
HasValues c env (RGoal-F.All gs) = Unit {0}
