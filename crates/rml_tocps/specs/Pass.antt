-- What the pass makes of each statement: a change of what is done after it.
use Rattle.std.specs.Prelude.{◌≡◌, ℕ, ◌≤◌, Bool, List, [], Some}
use Rattle.rml_base.specs.Run.{Rest, step, weigh}
use Rattle.rml_simulation.specs.Simulates.{Credit, Simulates}
use Rattle.rml_builtin.specs.declared.applied.Answer.{Answer}
use Rattle.rml_terms.specs.Env.{Env}
use Rattle.rml_terms.specs.Calling.{RelationCalls}
use Rattle.rml_fol.specs.declared.terms.Expression.{Expression}
use Rattle.rml_fol.specs.declared.statements.Callee.{Callee}
use Rattle.rml_fol.specs.declared.statements.Stmt.TheOpen.{Stmt-F as Clause-F}
use Rattle.rml_fol.specs.Expressions.{Vals}
use Rattle.rml_fol.specs.Statements as clauses
use Rattle.rml_fol.specs.Statements.{Given, Bodies, Scoped, no_bodies, in_order}
use Rattle.rml_cps.specs.declared.statements.Continuation.{Continuation}
use Rattle.rml_cps.specs.declared.statements.Continuation.TheVariants as continuation
use Rattle.rml_cps.specs.declared.statements.Stmt.TheOpen.{Stmt-F}
use Rattle.rml_cps.specs.Weights as cps
use Rattle.rml_cps.specs.Statements.{OnAnswer, RelationActs, Scope, Doing, Action, with_success, with_failure, success_of, failure_of, in_turn, act}
use Rattle.rml_tocps.specs.Carries.{Below, Fails, Goes}

abbrev pub Old : Type 0
Old = Vals → RelationCalls → clauses.Action

abbrev pub New : Type 0
New = Vals → RelationActs → Action

-- a statement of clause form, and one of continuation form
abbrev pub old_stmt : Clause-F clauses.Action Scoped clauses.Choice → Old
old_stmt y vals olds = clauses.act vals olds y

-- one statement and then another, in both forms
abbrev pub both_old : Old → Old → Old
both_old a b vals olds rest = a vals olds (b vals olds rest)

abbrev pub both_new : New → New → New
both_new a b vals news onward = a vals news (b vals news onward)

abbrev pub new_set : ℕ → Expression → New
new_set x e vals news = act vals news (Stmt-F.Set x e)

abbrev pub new_built_in : ℕ → List ℕ → List ℕ → Continuation → New
new_built_in number xs ys h vals news = act vals news (Stmt-F.Builtin number xs ys h)

abbrev pub new_equal : ℕ → ℕ → Continuation → New
new_equal x y h vals news = act vals news (Stmt-F.Equal x y h)

-- what follows the answer is named, and then comes the call
abbrev pub new_call : ℕ → Callee → List ℕ → List ℕ → Continuation → New
new_call n f xs ys h vals news onward scope env store =
    act vals news (Stmt-F.Call f xs (continuation.Named n) h) (in_turn []) (with_success n (success_of ys onward scope env) scope) env store

-- a goal that is told what follows its failure, and comes to the failure h where it answers
abbrev pub new_not : ℕ → (Vals → RelationActs → Doing) → New
new_not n goal vals news onward scope env store m =
    weigh cps.failure_weight (goal vals news (with_failure n (failure_of onward scope env store) scope) env store m)

-- ---- what is said of blocks

-- the block of a `not`: its answer is followed by the failure h, and its failure by the one that it is told
pub record GoalCarries (h inner : Continuation) (spare : ℕ) (taken : ℕ → Bool) (old : Vals → RelationCalls → Scoped) (new : Vals → RelationActs → Doing) : Type 0 where
  pub by : (vals : Vals) (olds : RelationCalls) (news : RelationActs) (i : ℕ) → Below i olds news
      → (j : ℕ) → j ≤ i → (c : Credit) (f g : Rest) (scope : Scope) (base : Env) → Fails j c f scope h → Fails j c g scope inner
      → Goes j c (λ a. step f) g no_bodies scope base spare taken (old vals olds) (new vals news)

-- what follows the answer of the relation
pub record Answers (j : ℕ) (c : Credit) (k : OnAnswer) (scope : Scope) : Type 0 where
  pub answered : OnAnswer
  pub is : scope.success continuation.Own ≡ Some answered
  pub follows : (a : Answer) → Simulates j c (k a) (answered a)
