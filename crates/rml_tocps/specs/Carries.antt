-- What the pass says of statements: told what comes after them, continuation form does what clause form does, and has weighed no more. A
-- statement is a change of what is done after it, in both forms; so it is said of statements whatever follows them.
use Rattle.std.specs.Prelude.{◌≡◌, ℕ, ◌-◌, ◌<◌, ◌≤◌, Bool, true, false, ◌==◌, if◌then◌else◌, List, [], ◌∷◌, Some, None}
use Rattle.rml_base.specs.Run.{Rest, step}
use Rattle.rml_simulation.specs.Partial.{followed}
use Rattle.rml_simulation.specs.Carries.{Before, SimulatesAct, kept, acted_before}
use Rattle.rml_simulation.specs.Simulates.{Credit, Simulates}
use Rattle.rml_simulation.specs.Moves.{more_weighed}
use Rattle.rml_value.specs.declared.value.Value.{Value}
use Rattle.rml_builtin.specs.declared.applied.Answer.{Answer}
use Rattle.rml_builtin.specs.Applied.{Store}
use Rattle.rml_terms.specs.Env.{Env, look, values_in}
use Rattle.rml_terms.specs.Calling.{RelationCalls}
use Rattle.rml_fol.specs.Expressions.{Vals}
use Rattle.rml_fol.specs.Weights as clause
use Rattle.rml_fol.specs.Statements.{Given, Bodies, Scoped, Action as ClauseAction}
use Rattle.rml_cps.specs.declared.statements.Continuation.{Continuation}
use Rattle.rml_cps.specs.Weights as cps
use Rattle.rml_cps.specs.Statements.{OnAnswer, RelationActs, Scope, Doing, Action}

-- ---- steps and weights

-- an answer's step stands in the relation, in both forms; a failure's with who takes it, in clause form, and where it fails, in
-- continuation form
abbrev pub told : Before
told = record { answer = λ k. k; failure = step }

abbrev pub answer_of : Given → Answer
answer_of g = record { values = values_in g.env; store = g.store }

-- what a block gives is the answer of its relation
abbrev pub done : OnAnswer → Given → Rest
done k g = step (k (answer_of g))

-- what clause form weighs more where a path begins
abbrev pub entry_spare : ℕ
entry_spare = clause.entry_weight 0 - cps.entry_weight 0

-- ---- what variables stand for

-- what clause form looks up is found, and what is not taken stands for nothing yet; and what stood for something at some moment before,
-- which is `base`, stands for it still
pub record Agrees (taken : ℕ → Bool) (base env env' : Env) : Type 0 where
  pub keeps : (x : ℕ) (v : Value) → look x base ≡ Some v → look x env ≡ Some v
  pub looks : (x : ℕ) (v : Value) → look x env ≡ Some v → look x env' ≡ Some v
  pub new : (x : ℕ) → taken x ≡ false → look x env' ≡ None

abbrev pub take : ℕ → (ℕ → Bool) → ℕ → Bool
take x taken y = if y == x then true else taken y

abbrev pub take_all : List ℕ → (ℕ → Bool) → ℕ → Bool
take_all [] taken = taken
take_all (x ∷ xs) taken = take_all xs (take x taken)

-- each is new on its way
abbrev pub AreNew : List ℕ → (ℕ → Bool) → Type 0
AreNew [] taken = Unit {0}
AreNew (x ∷ xs) taken = (taken x ≡ false) × AreNew xs (take x taken)

-- ---- statements

-- what is called simulates what is called, with fewer steps
abbrev pub Below : ℕ → RelationCalls → RelationActs → Type 0
Below i olds news = (l : ℕ) → l < i → (r : ℕ) → SimulatesAct kept l (acted_before told (olds r)) (news r)

-- the failure h is taken in clause form by f
pub record Fails (j : ℕ) (c : Credit) (f : Rest) (scope : Scope) (h : Continuation) : Type 0 where
  pub failed : Rest
  pub is : scope.failure h ≡ Some failed
  pub follows : Simulates j c f failed

-- The rest of a block, with so much to spare, where these variables are taken: k follows what it gives, and f its failure.
abbrev pub Goes : ℕ → Credit → (Given → Rest) → Rest → Bodies → Scope → Env → ℕ → (ℕ → Bool) → Scoped → Doing → Type 0
Goes j c k f bodies scope base spare taken rest onward =
    (env env' : Env) (store : Store) → Agrees taken base env env' → Simulates j (more_weighed spare c) (λ n. followed (rest bodies env store n) k (step f)) (onward scope env' store)

-- a statement, told the failure h, before what follows it: with so much to spare before it and after it, and with these variables taken
-- before it and after it
pub record Carries (h : Continuation) (spare : ℕ) (taken : ℕ → Bool) (after : ℕ) (after_taken : ℕ → Bool) (old : Vals → RelationCalls → ClauseAction) (new : Vals → RelationActs → Action) : Type 0 where
  pub by : (vals : Vals) (olds : RelationCalls) (news : RelationActs) (i : ℕ) → Below i olds news
      → (j : ℕ) → j ≤ i → (c : Credit) (k : Given → Rest) (f : Rest) (bodies : Bodies) (scope : Scope) (base : Env) → Fails j c f scope h
      → (rest : Scoped) (onward : Doing) → ((l : ℕ) → l ≤ j → Goes l c k f bodies scope base after after_taken rest onward)
      → Goes j c k f bodies scope base spare taken (old vals olds rest) (new vals news onward)
