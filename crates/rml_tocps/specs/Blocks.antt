-- What the pass says of blocks, of relations and of programs.
use Rattle.std.specs.Prelude.{◌≡◌, ℕ, ◌+◌, ◌-◌, ◌≤◌, Bool, nat_lt, List, [], ◌∷◌, ◌++◌, Option, Some, None, slice_get}
use Rattle.rml_base.specs.Run.{Rest, step, weigh}
use Rattle.rml_simulation.specs.declared.partial.Partial.{Partial}
use Rattle.rml_simulation.specs.Partial.{followed, either}
use Rattle.rml_simulation.specs.Carries.{CarriesTold}
use Rattle.rml_simulation.specs.Simulates.{Credit, Simulates}
use Rattle.rml_simulation.specs.Moves.{more_weighed}
use Rattle.rml_value.specs.declared.value.Value.{Value}
use Rattle.rml_builtin.specs.declared.applied.Answer.{Answer}
use Rattle.rml_builtin.specs.Applied.{Store}
use Rattle.rml_terms.specs.Env.{Env}
use Rattle.rml_terms.specs.Calling.{RelationCalls}
use Rattle.rml_fol.specs.declared.statements.Stmt.TheOpen.{Stmt-F as Clause-F}
use Rattle.rml_fol.specs.declared.parts.Relation as clause_relation
use Rattle.rml_fol.specs.declared.parts.Parts as clause_parts
use Rattle.rml_fol.specs.Expressions.{Vals, values_of_vals}
use Rattle.rml_fol.specs.Weights as clause
use Rattle.rml_fol.specs.Statements as clauses
use Rattle.rml_fol.specs.Statements.{Given, Bodies, Scoped, no_bodies, retried}
use Rattle.rml_fol.specs.Relations as clause_relations
use Rattle.rml_cps.specs.declared.statements.Continuation.{Continuation}
use Rattle.rml_cps.specs.declared.statements.Continuation.TheVariants as continuation
use Rattle.rml_cps.specs.declared.statements.Stmt.TheOpen.{Stmt-F}
use Rattle.rml_cps.specs.declared.parts.Relation.{Relation}
use Rattle.rml_cps.specs.declared.parts.Parts.{Parts}
use Rattle.rml_cps.specs.Weights as cps
use Rattle.rml_cps.specs.Statements.{OnAnswer, Jump, RelationActs, Scope, Doing, Action, Choice, with_failure, with_body, failure_of, body_of, in_turn, act}
use Rattle.rml_cps.specs.Relations.{relation_does}
use Rattle.rml_tocps.specs.Carries.{told, done, Agrees, Below, Fails, Goes}

abbrev pub OldBlock : Type 0
OldBlock = Vals → RelationCalls → Scoped

abbrev pub NewBlock : Type 0
NewBlock = Vals → RelationActs → Doing

-- ---- what follows

-- what clause form weighs more at a `goto`
abbrev pub goto_spare : ℕ
goto_spare = clause.goto_weight 0 - cps.goto_weight 0

-- a body, in both forms: whatever failure is handed on, and whatever more there is to spare
pub record JumpFollows (j : ℕ) (c : Credit) (k : OnAnswer) (does : List Value → Store → ℕ → Partial Given) (jump : Jump) : Type 0 where
  pub by : (l : ℕ) → l ≤ j → (v : ℕ) (vs : List Value) (store : Store) (f g : Rest) → Simulates l (more_weighed v c) f g
      → Simulates l (more_weighed (goto_spare + v) c) (λ n. followed (does vs store n) (done k) (step f)) (jump (record { values = vs; store = store }) g)

abbrev pub BothJump : ℕ → Credit → OnAnswer → Option (List Value → Store → ℕ → Partial Given) → Option Jump → Type 0
BothJump j c k None o = Unit {0}
BothJump j c k (Some does) None = ⊥
BothJump j c k (Some does) (Some jump) = JumpFollows j c k does jump

-- what follows the answer of the relation, and the bodies in scope
pub record Follows (j : ℕ) (c : Credit) (k : OnAnswer) (bodies : Bodies) (scope : Scope) : Type 0 where
  pub answered : OnAnswer
  pub is : scope.success continuation.Own ≡ Some answered
  pub answers : (a : Answer) → Simulates j c (k a) (answered a)
  pub jumps : (n : ℕ) → BothJump j c k (bodies n) (scope.body n)

-- ---- blocks

-- a block, told the failure h, with so much to spare, where these variables are taken
pub record BlockCarries (h : Continuation) (spare : ℕ) (taken : ℕ → Bool) (old : OldBlock) (new : NewBlock) : Type 0 where
  pub by : (vals : Vals) (olds : RelationCalls) (news : RelationActs) (i : ℕ) → Below i olds news
      → (j : ℕ) → j ≤ i → (c : Credit) (k : OnAnswer) (f : Rest) (bodies : Bodies) (scope : Scope) (base : Env) → Follows j c k bodies scope → Fails j c f scope h
      → Goes j c (done k) f bodies scope base spare taken (old vals olds) (new vals news)

-- a statement before a block
abbrev pub old_before : (Vals → RelationCalls → clauses.Action) → OldBlock → OldBlock
old_before a old vals olds = a vals olds (old vals olds)

abbrev pub new_before : (Vals → RelationActs → Action) → NewBlock → NewBlock
new_before x new vals news = x vals news (new vals news)

-- a statement of clause form, and one of continuation form, that nothing follows
abbrev pub old_last : Clause-F clauses.Action Scoped clauses.Choice → OldBlock
old_last y vals olds = clauses.act vals olds y (clauses.in_turn [])

abbrev pub new_last : Stmt-F Action Choice → NewBlock
new_last y vals news = act vals news y (in_turn [])

-- an alternative that others follow
abbrev pub old_or : OldBlock → OldBlock → (Vals → RelationCalls → List Scoped) → OldBlock
old_or a b rest vals olds = clauses.in_order (a vals olds ∷ b vals olds ∷ rest vals olds)

abbrev pub old_others : OldBlock → (Vals → RelationCalls → List Scoped) → OldBlock
old_others b rest vals olds = clauses.in_order (b vals olds ∷ rest vals olds)

abbrev pub new_or : ℕ → NewBlock → NewBlock → NewBlock
new_or n x y vals news scope env store m = weigh cps.failure_weight (x vals news (with_failure n (failure_of (y vals news) scope env store) scope) env store m)

-- the first block of a `cond`: the second block follows its answer, from what variables stood for before and what is given, and the
-- failure `inner` its failure; what is made of both is one block
pub record FirstCarries (h inner : Continuation) (spare : ℕ) (taken : ℕ → Bool) (first second : OldBlock) (new : NewBlock) : Type 0 where
  pub by : (vals : Vals) (olds : RelationCalls) (news : RelationActs) (i : ℕ) → Below i olds news
      → (j : ℕ) → j ≤ i → (c : Credit) (k : OnAnswer) (f g : Rest) (bodies : Bodies) (scope : Scope) → Follows j c k bodies scope → Fails j c f scope h → Fails j c g scope inner
      → (env env' : Env) (store : Store) → Agrees taken env env env'
      → Simulates j (more_weighed spare c) (λ n. followed (first vals olds no_bodies env store n) (λ a m. followed (second vals olds bodies (env ++ a.env) a.store m) (done k) (step f)) (step g)) (new vals news scope env' store)

abbrev pub old_cond : OldBlock → OldBlock → OldBlock → OldBlock
old_cond a b c vals olds bodies env store n =
    either (a vals olds no_bodies env store n) (λ g. b vals olds bodies (env ++ g.env) g.store) (retried (c vals olds bodies env store))

-- a body before what follows it
abbrev pub old_body : ℕ → List ℕ → OldBlock → OldBlock → OldBlock
old_body j xs block rest vals olds bodies env store n =
    rest vals olds (clauses.with_body j (clauses.body_of xs (block vals olds) bodies env) bodies) env store n

abbrev pub new_body : ℕ → List ℕ → ℕ → NewBlock → NewBlock → NewBlock
new_body j xs h block rest vals news scope env store n = rest vals news (with_body j (body_of xs h (block vals news) scope env) scope) env store n

-- ---- relations and programs

-- the variables below so many
abbrev pub first_taken : ℕ → ℕ → Bool
first_taken params x = nat_lt x params

-- a relation carries the one of clause form, given that what they call does so with fewer steps
abbrev pub RelationCarries : Vals → clause_relation.Relation → Relation → Type 0
RelationCarries vals old new = CarriesTold told (λ calls s n. clause_relations.relation_does vals calls old s n) (λ calls k h s n. relation_does vals calls new k h s n)

-- relations of one number: there is one in both or in neither
abbrev pub BothCarry : Vals → Option clause_relation.Relation → Option Relation → Type 0
BothCarry vals None None = Unit {0}
BothCarry vals (Some old) (Some new) = RelationCarries vals old new
BothCarry vals None (Some new) = ⊥
BothCarry vals (Some old) None = ⊥

-- tables carry tables, relation by relation
pub record AreCarried (p : clause_parts.Parts) (q : Parts) : Type 0 where
  pub main : q.main ≡ p.main
  pub vals : q.vals ≡ p.vals
  pub each : (r : ℕ) → BothCarry (values_of_vals p.vals) (slice_get p.rels r) (slice_get q.rels r)
