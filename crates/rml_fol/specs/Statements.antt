-- What the statements of clause form do, over what the calls give. A block gives an answer or none, with the steps that are left, or
-- is cut or Wrong, and a trace. A step is a call begun, and a failure that a further alternative, a `not` or a `cond` takes; the
-- answer of a relation, and the failure that ends a run, stand in Relations.antt and Runs.antt.
use Rattle.std.specs.Prelude.{ℕ, Bool, true, false, ◌==◌, if◌then◌else◌, List, [], ◌∷◌, ◌++◌, map, length, Option, Some, None, option_map, option_and_then}
use Rattle.std.specs.Str.{bytes_eq}
use Rattle.std.specs.Ordering.{int_eq}
use Rattle.rml_simulation.specs.declared.partial.Trace.{Trace}
use Rattle.rml_simulation.specs.declared.partial.Partial.{Partial}
use Rattle.rml_simulation.specs.declared.partial.Partial.TheVariants.{Yes, No, GoneWrong}
use Rattle.rml_simulation.specs.Partial.{untraced, after, take_step, then_go, or_else, unless, either}
use Rattle.rml_value.specs.declared.value.Value.{Value, out-Value}
use Rattle.rml_value.specs.declared.value.Value.TheOpen.{Value-F}
use Rattle.rml_value.specs.Same.{same}
use Rattle.rml_builtin.specs.declared.applied.Answer.{Answer}
use Rattle.rml_builtin.specs.declared.applied.Applied.{Applied}
use Rattle.rml_builtin.specs.declared.applied.Applied.TheVariants as applied
use Rattle.rml_builtin.specs.Applied.{Store}
use Rattle.rml_builtin.specs.BuiltIns.{apply_at}
use Rattle.rml_terms.specs.declared.state.Matched.{Matched}
use Rattle.rml_terms.specs.declared.state.Matched.TheVariants as matched
use Rattle.rml_terms.specs.Env.{Env, bind, look, values_in}
use Rattle.rml_terms.specs.Evaluating.{with_first}
use Rattle.rml_terms.specs.Calling.{RelationCalls, with_value, relation_in, trace_of_built_in}
use Rattle.rml_fol.specs.declared.terms.Literal.TheVariants as literal
use Rattle.rml_fol.specs.declared.statements.Callee.{Callee}
use Rattle.rml_fol.specs.declared.statements.Callee.TheVariants as callee
use Rattle.rml_fol.specs.declared.statements.Tag.{Tag}
use Rattle.rml_fol.specs.declared.statements.Tag.TheVariants as tag
use Rattle.rml_fol.specs.declared.statements.Stmt.{Stmt, fold-Stmt}
use Rattle.rml_fol.specs.declared.statements.Alternative.{Alternative, fold-Alternative}
use Rattle.rml_fol.specs.declared.statements.Case.{Case, fold-Case}
use Rattle.rml_fol.specs.declared.statements.Stmt.TheOpen.{Stmt-F, Alternative-F, Case-F}
use Rattle.rml_fol.specs.Patterns.{matching, binds}
use Rattle.rml_fol.specs.Expressions.{Vals, value_of, cells_of}
use Rattle.rml_fol.specs.Weights.{entry_weight, match_weight, set_weight, built_in_weight, equal_weight, call_weight, not_weight, goto_weight}

-- ---- what blocks give

-- the answer of a block: variables with what they stand for, and the store
pub record Given : Type 0 where
  pub env : Env
  pub store : Store

-- what is done with what the variables stand for, the store and the steps
abbrev pub Doing : Type 0
Doing = Env → Store → ℕ → Partial Given

-- what the blocks do that `body` has named, with the values that a `goto` hands on
abbrev pub Bodies : Type 0
Bodies = ℕ → Option (List Value → Store → ℕ → Partial Given)

-- No block is named. So a relation begins, and the block of a `not` and the first block of a `cond`: what these give is not the
-- answer of a body that was named outside.
abbrev pub no_bodies : Bodies
no_bodies j = None

-- a block, where these bodies are named
abbrev pub Scoped : Type 0
Scoped = Bodies → Doing

-- a statement, before what follows it
abbrev pub Action : Type 0
Action = Scoped → Scoped

-- what a case asks for, the variables that it binds, and its block
pub record Choice : Type 0 where
  pub tag : Tag
  pub vars : List ℕ
  pub block : Scoped

-- ---- the ways to go on

abbrev pub weight_alone : ℕ → Trace
weight_alone weight = record { text = []; made = 0; weighed = weight }

-- a weight is met
abbrev pub weighing : {A : Type 0} → ℕ → Partial A → Partial A
weighing weight w = after (weight_alone weight) w

-- a failure is taken: a step, and what a path begins with
abbrev pub retried : {A : Type 0} → (ℕ → Partial A) → ℕ → Partial A
retried go = take_step (λ n. weighing (entry_weight 0) (go n))

-- ---- variables

-- variables with what they stand for
abbrev pub bindings_of : List ℕ → Env → Option Env
bindings_of [] env = Some []
bindings_of (x ∷ xs) env = with_first (option_map (λ v. record { var = x; value = v }) (look x env)) (bindings_of xs env)

-- what variables stand for
abbrev pub values_of : List ℕ → Env → Option (List Value)
values_of xs env = option_map values_in (bindings_of xs env)

-- as many values are bound to variables
abbrev pub bind_all : List ℕ → List Value → Env → Option Env
bind_all [] [] env = Some env
bind_all (x ∷ xs) (v ∷ vs) env = bind_all xs vs (bind x v env)
bind_all _ _ env = None

-- ---- statements

-- from a match; what is bound goes on
abbrev pub from_match : Matched → (Env → ℕ → Partial Given) → ℕ → Partial Given
from_match (matched.Yes env) go n = go env n
from_match matched.No go n = No untraced n
from_match matched.Wrong go n = GoneWrong untraced

abbrev pub relation_of : Callee → Env → Option ℕ
relation_of (callee.Rel r) env = Some r
relation_of (callee.Var x) env = option_and_then relation_in (look x env)

-- a call: a step, and then the relation; what is no relation is Wrong after the step
abbrev pub call : RelationCalls → Option ℕ → List Value → Store → ℕ → Partial Answer
call calls r vs store n = take_step (with_value r (λ r. calls r (record { values = vs; store = store }))) n

-- results are bound, and what follows goes on
abbrev pub received : List ℕ → (Env → Store → ℕ → Partial Given) → Env → Answer → ℕ → Partial Given
received ys go env a n = with_value (bind_all ys a.values env) (λ next. go next a.store) n

abbrev pub from_built_in : ℕ → List ℕ → (Env → Store → ℕ → Partial Given) → Env → Applied → ℕ → Partial Given
from_built_in number ys go env (applied.Yes a t) n = after (trace_of_built_in number a.values t) (received ys go env a n)
from_built_in number ys go env applied.No n = No untraced n
from_built_in number ys go env applied.Wrong n = GoneWrong untraced

-- alternatives in order, each from the same bindings and store; the failure of one that others follow is taken. That of the last is
-- passed on, which is no step.
abbrev pub in_order : List Scoped → Scoped
in_order [] bodies env store n = No untraced n
in_order (a ∷ []) bodies env store n = a bodies env store n
in_order (a ∷ b ∷ rest) bodies env store n = or_else (a bodies env store n) (retried (in_order (b ∷ rest) bodies env store))

-- whether a value is of the kind that a tag asks for
abbrev pub is_of_kind : Tag → Value-F Value → Bool
is_of_kind (tag.Con c) (Value-F.Con d vs) = true
is_of_kind (tag.Lit (literal.Int n)) (Value-F.Int m) = true
is_of_kind (tag.Lit (literal.Char c)) (Value-F.Char d) = true
is_of_kind (tag.Lit (literal.Text bytes)) (Value-F.Text t) = true
is_of_kind _ _ = false

-- whether it has the tag
abbrev pub has_tag : Tag → Value-F Value → Bool
has_tag (tag.Con c) (Value-F.Con d vs) = c == d
has_tag (tag.Lit (literal.Int n)) (Value-F.Int m) = int_eq n m
has_tag (tag.Lit (literal.Char c)) (Value-F.Char d) = c == d
has_tag (tag.Lit (literal.Text bytes)) (Value-F.Text t) = bytes_eq bytes t
has_tag _ _ = false

-- what a case's variables stand for: a constructor's arguments
abbrev pub arguments_at : Value-F Value → List Value
arguments_at (Value-F.Con d vs) = vs
arguments_at _ = []

-- the first case that the value has the tag of, or else the last block
abbrev pub chosen : List Choice → Scoped → Value-F Value → Scoped
chosen [] otherwise v bodies env store n = otherwise bodies env store n
chosen (k ∷ ks) otherwise v bodies env store n =
    if has_tag k.tag v then with_value (bind_all k.vars (arguments_at v) env) (λ next. k.block bodies next store) n
    else chosen ks otherwise v bodies env store n

-- a value of another kind than the first tag is Wrong
abbrev pub switched : List Choice → Scoped → Value-F Value → Scoped
switched [] otherwise v bodies env store n = otherwise bodies env store n
switched (k ∷ ks) otherwise v bodies env store n = if is_of_kind k.tag v then chosen (k ∷ ks) otherwise v bodies env store n else GoneWrong untraced

-- A named block goes on from what the variables stood for where it was named, with the values that are handed on. It knows the bodies
-- that were named before it.
abbrev pub body_of : List ℕ → Scoped → Bodies → Env → List Value → Store → ℕ → Partial Given
body_of xs block bodies env vs store n = with_value (bind_all xs vs env) (λ next. block bodies next store) n

abbrev pub with_body : ℕ → (List Value → Store → ℕ → Partial Given) → Bodies → Bodies
with_body j does bodies k = if k == j then Some does else bodies k

-- statements one after another; a block that comes to no end is Wrong
abbrev pub in_turn : List Action → Scoped
in_turn [] bodies env store n = GoneWrong untraced
in_turn (a ∷ rest) bodies env store n = a (in_turn rest) bodies env store n

module _ (vals : Vals) (calls : RelationCalls) where
  abbrev pub act : Stmt-F Action Scoped Choice → Action
  act (Stmt-F.Match x p) next bodies env store n =
      weighing (match_weight (binds p)) (with_value (look x env) (λ v m. from_match (matching p v env) (λ e. next bodies e store) m) n)
  act (Stmt-F.Set x e) next bodies env store n =
      weighing (set_weight (cells_of e)) (with_value (value_of vals e env) (λ v. next bodies (bind x v env) store) n)
  act (Stmt-F.Call f xs ys) next bodies env store n =
      weighing call_weight (with_value (values_of xs env) (λ vs m. then_go (call calls (relation_of f env) vs store m)
      (λ a k. weighing (entry_weight (length ys)) (received ys (next bodies) env a k))) n)
  act (Stmt-F.Builtin number xs ys) next bodies env store n =
      weighing (built_in_weight number (length ys)) (with_value (values_of xs env) (λ vs. from_built_in number ys (next bodies) env (apply_at number vs store)) n)
  act (Stmt-F.Equal x y) next bodies env store n =
      weighing equal_weight (with_value (look x env) (λ v. with_value (look y env) (λ w m. if same v w then next bodies env store m else No untraced m)) n)
  -- where the block answers it fails; else all is as it was before
  act (Stmt-F.Not block) next bodies env store n =
      weighing not_weight (unless (in_turn block no_bodies env store n) (retried (next bodies env store)))
  act (Stmt-F.Or alternatives) next bodies env store n = in_order alternatives bodies env store n
  -- the second block sees what the first one gives; the third sees what was before
  act (Stmt-F.Cond first second third) next bodies env store n =
      either (in_turn first no_bodies env store n) (λ g. in_turn second bodies (env ++ g.env) g.store) (retried (in_turn third bodies env store))
  act (Stmt-F.Switch x cases otherwise) next bodies env store n =
      with_value (look x env) (λ v. switched cases (in_turn otherwise) (out-Value v) bodies env store) n
  act (Stmt-F.Body j xs block) next bodies env store n = next (with_body j (body_of xs (in_turn block) bodies env) bodies) env store n
  act (Stmt-F.Goto j xs) next bodies env store n =
      weighing (goto_weight (length xs)) (with_value (values_of xs env) (λ vs. with_value (bodies j) (λ does. does vs store)) n)
  act (Stmt-F.Give xs) next bodies env store n = with_value (bindings_of xs env) (λ g. Yes (record { env = g; store = store }) untraced) n
  act Stmt-F.Fail next bodies env store n = No untraced n

  abbrev pub alternative_at : Alternative-F Action Scoped Choice → Scoped
  alternative_at a = in_turn a.block

  abbrev pub choice_at : Case-F Action Scoped Choice → Choice
  choice_at k = record { tag = k.tag; vars = k.vars; block = in_turn k.block }

  -- a statement, before what follows it
  abbrev pub action : Stmt → Action
  action = fold-Stmt Action Scoped Choice act alternative_at choice_at

  abbrev pub alternative : Alternative → Scoped
  alternative = fold-Alternative Action Scoped Choice act alternative_at choice_at

  abbrev pub choice : Case → Choice
  choice = fold-Case Action Scoped Choice act alternative_at choice_at

  -- a block
  abbrev pub block : List Stmt → Scoped
  block body = in_turn (map action body)
