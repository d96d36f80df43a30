-- What the statements of continuation form do, over what the calls give. A statement is told what follows an answer and what follows a
-- failure: each is a run from there on. To name a continuation, and to go on with a named block, are no steps. The steps are a call, an
-- answer, and a failure that follows.
use Rattle.std.specs.Prelude.{ℕ, zero, suc, Bool, false, ◌==◌, if◌then◌else◌, List, [], ◌∷◌, map, length, Option, Some, None, option_and_then, slice_get}
use Rattle.rml_base.specs.Run.{Rest, Wrong, bare, step, weigh}
use Rattle.rml_simulation.specs.Partial.{traced}
use Rattle.rml_simulation.specs.Acts.{Acts}
use Rattle.rml_value.specs.declared.value.Value.{Value, out-Value}
use Rattle.rml_value.specs.declared.value.Value.TheOpen.{Value-F}
use Rattle.rml_value.specs.Same.{same}
use Rattle.rml_builtin.specs.declared.applied.Answer.{Answer}
use Rattle.rml_builtin.specs.declared.applied.Applied.{Applied}
use Rattle.rml_builtin.specs.declared.applied.Applied.TheVariants as applied
use Rattle.rml_builtin.specs.Applied.{Store}
use Rattle.rml_builtin.specs.BuiltIns.{apply_at}
use Rattle.rml_builtin.specs.Called.{Called}
use Rattle.rml_terms.specs.Env.{Env, bind, look}
use Rattle.rml_terms.specs.Calling.{trace_of_built_in}
use Rattle.rml_fol.specs.declared.statements.Tag.{Tag}
use Rattle.rml_fol.specs.Expressions.{Vals, value_of}
use Rattle.rml_fol.specs.Statements.{values_of, bind_all, relation_of, is_of_kind, has_tag}
use Rattle.rml_cps.specs.declared.statements.Continuation.{Continuation}
use Rattle.rml_cps.specs.declared.statements.Continuation.TheVariants as continuation
use Rattle.rml_cps.specs.declared.statements.Stmt.{Stmt, fold-Stmt}
use Rattle.rml_cps.specs.declared.statements.Case.{Case, fold-Case}
use Rattle.rml_cps.specs.declared.statements.Stmt.TheOpen.{Stmt-F, Case-F}
use Rattle.rml_cps.specs.Weights.{entry_weight, set_weight, built_in_weight, failure_weight, goto_weight}

-- ---- what is told

-- what follows an answer: values, and the store
abbrev pub OnAnswer : Type 0
OnAnswer = Answer → Rest

-- a block to which a `goto` goes, with the values that it hands on, the store, and what follows a failure there
abbrev pub Jump : Type 0
Jump = Answer → Rest → Rest

-- what relations do, told what follows an answer and what follows a failure
abbrev pub RelationActs : Type 0
RelationActs = Acts Called Answer

-- what the names in scope stand for
pub record Scope : Type 0 where
  pub success : Continuation → Option OnAnswer
  pub failure : Continuation → Option Rest
  pub body : ℕ → Option Jump

abbrev pub is_named : ℕ → Continuation → Bool
is_named n continuation.Own = false
is_named n (continuation.Named m) = m == n

abbrev pub with_success : ℕ → OnAnswer → Scope → Scope
with_success k does scope = record scope { success = λ c. if is_named k c then Some does else scope.success c }

abbrev pub with_failure : ℕ → Rest → Scope → Scope
with_failure h does scope = record scope { failure = λ c. if is_named h c then Some does else scope.failure c }

abbrev pub with_body : ℕ → Jump → Scope → Scope
with_body j does scope = record scope { body = λ i. if i == j then Some does else scope.body i }

-- where a relation begins
abbrev pub own_success : OnAnswer → Continuation → Option OnAnswer
own_success k continuation.Own = Some k
own_success k (continuation.Named n) = None

abbrev pub own_failure : Rest → Continuation → Option Rest
own_failure h continuation.Own = Some h
own_failure h (continuation.Named n) = None

abbrev pub own : OnAnswer → Rest → Scope
own k h = record { success = own_success k; failure = own_failure h; body = λ j. None }

-- a block, from what variables stand for and the store
abbrev pub Doing : Type 0
Doing = Scope → Env → Store → Rest

-- a statement, before what follows it
abbrev pub Action : Type 0
Action = Doing → Doing

-- what a case asks for, and its block
pub record Choice : Type 0 where
  pub tag : Tag
  pub block : Doing

-- ---- the ways to go on

-- goes on with what is there; where there is nothing the run is Wrong
abbrev pub with_known : {A : Type 0} → Option A → (A → Rest) → Rest
with_known None go n = bare Wrong
with_known (Some a) go n = go a n

-- the failure follows, which is a step
abbrev pub fails_to : Option Rest → Rest
fails_to h = with_known h step

-- the values of an answer are bound, and what follows goes on from its store
abbrev pub received : List ℕ → (Env → Store → Rest) → Env → Answer → Rest
received xs go env a = with_known (bind_all xs a.values env) (λ next. go next a.store)

abbrev pub from_built_in : ℕ → List ℕ → (Env → Store → Rest) → Option Rest → Env → Applied → Rest
from_built_in number ys go h env (applied.Yes a t) n = traced (trace_of_built_in number a.values t) (received ys go env a n)
from_built_in number ys go h env applied.No n = fails_to h n
from_built_in number ys go h env applied.Wrong n = bare Wrong

-- the argument of a number, from 1, of a block
abbrev pub nth_argument : ℕ → List Value → Option Value
nth_argument zero vs = None
nth_argument (suc i) vs = slice_get vs i

abbrev pub argument_at : ℕ → Value-F Value → Option Value
argument_at i (Value-F.Con c vs) = nth_argument i vs
argument_at i (Value-F.Tuple vs) = nth_argument i vs
argument_at i _ = None

abbrev pub argument_of : ℕ → Value → Option Value
argument_of i v = argument_at i (out-Value v)

-- the first case that the value has the tag of, or else the last block
abbrev pub chosen : List Choice → Doing → Value-F Value → Doing
chosen [] otherwise v scope env store n = otherwise scope env store n
chosen (k ∷ ks) otherwise v scope env store n = if has_tag k.tag v then k.block scope env store n else chosen ks otherwise v scope env store n

-- a value of another kind than the first tag is Wrong
abbrev pub switched : List Choice → Doing → Value-F Value → Doing
switched [] otherwise v scope env store n = otherwise scope env store n
switched (k ∷ ks) otherwise v scope env store n = if is_of_kind k.tag v then chosen (k ∷ ks) otherwise v scope env store n else bare Wrong

-- ---- what is named

-- a success goes on from what variables stood for where it was named, and from the store of the answer
abbrev pub success_of : List ℕ → Doing → Scope → Env → OnAnswer
success_of xs block scope env a n = weigh (entry_weight (length xs)) (received xs (block scope) env a n)

-- a failure goes on from what variables stood for, and from the store, where it was named: what was done since is undone
abbrev pub failure_of : Doing → Scope → Env → Store → Rest
failure_of block scope env store n = weigh (entry_weight 0) (block scope env store n)

-- a body goes on from what variables stood for where it was named, with the store and the failure of the `goto`
abbrev pub body_of : List ℕ → ℕ → Doing → Scope → Env → Jump
body_of xs h block scope env a f = received xs (block (with_failure h f scope)) env a

-- ---- statements

-- a call is a step; what is no relation is Wrong after it
abbrev pub call : RelationActs → Option ℕ → OnAnswer → Rest → Called → Rest
call calls r k h s = step (with_known r (λ r. calls r k h s))

-- statements one after another; a block that comes to no end is Wrong
abbrev pub in_turn : List Action → Doing
in_turn [] scope env store n = bare Wrong
in_turn (a ∷ rest) scope env store n = a (in_turn rest) scope env store n

module _ (vals : Vals) (calls : RelationActs) where
  abbrev pub act : Stmt-F Action Choice → Action
  act (Stmt-F.Set x e) next scope env store n = weigh (set_weight e) (with_known (value_of vals e env) (λ v. next scope (bind x v env) store) n)
  act (Stmt-F.Field x y i) next scope env store n = with_known (option_and_then (argument_of i) (look y env)) (λ v. next scope (bind x v env) store) n
  act (Stmt-F.Builtin number xs ys h) next scope env store n =
      weigh (built_in_weight number (length ys)) (with_known (values_of xs env) (λ vs. from_built_in number ys (next scope) (scope.failure h) env (apply_at number vs store)) n)
  act (Stmt-F.Equal x y h) next scope env store n =
      with_known (look x env) (λ v. with_known (look y env) (λ w m. if same v w then next scope env store m else fails_to (scope.failure h) m)) n
  act (Stmt-F.Success k xs block) next scope env store n = next (with_success k (success_of xs (in_turn block) scope env) scope) env store n
  act (Stmt-F.Failure h block) next scope env store n =
      weigh failure_weight (next (with_failure h (failure_of (in_turn block) scope env store) scope) env store n)
  act (Stmt-F.Body j xs h block) next scope env store n = next (with_body j (body_of xs h (in_turn block) scope env) scope) env store n
  act (Stmt-F.Call f xs k h) next scope env store n =
      with_known (values_of xs env) (λ vs. with_known (scope.success k) (λ answered. with_known (scope.failure h) (λ failed.
      call calls (relation_of f env) answered failed (record { values = vs; store = store })))) n
  act (Stmt-F.Answer k xs) next scope env store n =
      with_known (values_of xs env) (λ vs. with_known (scope.success k) (λ answered. step (answered (record { values = vs; store = store })))) n
  act (Stmt-F.Fail h) next scope env store n = fails_to (scope.failure h) n
  act (Stmt-F.Goto j xs h) next scope env store n =
      weigh (goto_weight (length xs)) (with_known (values_of xs env) (λ vs. with_known (scope.body j) (λ does. with_known (scope.failure h) (λ failed.
      does (record { values = vs; store = store }) failed))) n)
  act (Stmt-F.Switch x cases otherwise) next scope env store n =
      with_known (look x env) (λ v. switched cases (in_turn otherwise) (out-Value v) scope env store) n

  abbrev pub choice_at : Case-F Action Choice → Choice
  choice_at k = record { tag = k.tag; block = in_turn k.block }

  -- a statement, before what follows it
  abbrev pub action : Stmt → Action
  action = fold-Stmt Action Choice act choice_at

  abbrev pub choice : Case → Choice
  choice = fold-Case Action Choice act choice_at

  -- a block
  abbrev pub block : List Stmt → Doing
  block body = in_turn (map action body)
