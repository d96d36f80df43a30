-- The search: goals from left to right, rules from top to bottom, the first answer of a call alone. What a part of it gives
-- is an answer or none, with the steps that are left, or it is cut or Wrong; and with it a trace: the text that it printed,
-- the cells of the texts, lists and vectors that its built-ins made, and the weight of its steps. It reads a context and the
-- rules of relations, and knows no program.
use Rattle.std.specs.Prelude.{ℕ, if◌then◌else◌, List, [], ◌∷◌, map, Option, Some, None, option_and_then}
use Rattle.rml_simulation.specs.declared.partial.Trace.{Trace}
use Rattle.rml_simulation.specs.declared.partial.Partial.{Partial}
use Rattle.rml_simulation.specs.declared.partial.Partial.TheVariants.{Yes, No, GoneWrong}
use Rattle.rml_simulation.specs.Partial.{untraced, after, take_step, then_go, or_else, unless}
use Rattle.rml_simulation.specs.Calls.{calls_to, calls_by_steps}
use Rattle.rml_value.specs.declared.value.Value.{Value}
use Rattle.rml_value.specs.Same.{same}
use Rattle.rml_builtin.specs.declared.applied.Answer.{Answer}
use Rattle.rml_builtin.specs.declared.applied.Applied.{Applied}
use Rattle.rml_builtin.specs.declared.applied.Applied.TheVariants as applied
use Rattle.rml_builtin.specs.Applied.{Store}
use Rattle.rml_builtin.specs.Called.{Called}
use Rattle.rml_builtin.specs.BuiltIns.{apply_at}
use Rattle.rml_resolved.specs.declared.tables.RRule.{RRule}
use Rattle.rml_resolved.specs.declared.trees.RExp.{RExp}
use Rattle.rml_resolved.specs.declared.trees.RPat.{RPat}
use Rattle.rml_resolved.specs.declared.trees.Callee.{Callee}
use Rattle.rml_resolved.specs.declared.trees.Callee.TheVariants as callee
use Rattle.rml_resolved.specs.declared.trees.RGoal.{RGoal, fold-RGoal}
use Rattle.rml_resolved.specs.declared.trees.RGoal.TheOpen.{RGoal-F}
use Rattle.rml_terms.specs.declared.state.Matched.{Matched}
use Rattle.rml_terms.specs.declared.state.Matched.TheVariants as matched
use Rattle.rml_search.specs.declared.state.State.{State}
use Rattle.rml_terms.specs.Env.{Env, look}
use Rattle.rml_terms.specs.Calling.{RelationCalls, with_value, relation_in, trace_of_built_in}
use Rattle.rml_search.specs.Matching.{matching, matching_all}
use Rattle.rml_search.specs.Context.{Context}
use Rattle.rml_search.specs.Values.{value_of, values_of}

-- ---- steps

-- the trace of a step: its weight alone
abbrev pub step_trace : ℕ → Trace
step_trace weight = record { text = []; made = 0; weighed = weight }

-- a step, with its weight; without one it is cut
abbrev pub weighted_step : {A : Type 0} → ℕ → (ℕ → Partial A) → ℕ → Partial A
weighted_step weight go n = take_step (λ m. after (step_trace weight) (go m)) n

-- ---- goals, over what the calls give

abbrev pub Action : Type 0
Action = Env → Store → ℕ → Partial State

abbrev pub goes_on : Env → Store → ℕ → Partial State
goes_on env store n = Yes (record { env = env; store = store }) untraced n

-- each goes on from the answer of the one before it; the first that gives none, is cut or is Wrong ends the list
abbrev pub goals_in_turn : List Action → Action
goals_in_turn [] env store n = goes_on env store n
goals_in_turn (g ∷ gs) env store n = then_go (g env store n) (λ s m. goals_in_turn gs s.env s.store m)

abbrev pub from_match : Matched → Store → ℕ → Partial State
from_match (matched.Yes env) store n = goes_on env store n
from_match matched.No store n = No untraced n
from_match matched.Wrong store n = GoneWrong untraced

-- the results of a call against its patterns; nothing goes back into the call
abbrev pub taken : Context → List RPat → Env → Answer → ℕ → Partial State
taken c ps env a n = from_match (matching_all c.names ps a.values env) a.store n

abbrev pub from_built_in : Context → ℕ → List RPat → Env → Applied → ℕ → Partial State
from_built_in c number ps env (applied.Yes a t) n = after (trace_of_built_in number a.values t) (taken c ps env a n)
from_built_in c number ps env applied.No n = No untraced n
from_built_in c number ps env applied.Wrong n = GoneWrong untraced

-- the relation that is called
abbrev pub relation_of : Context → Callee → Env → Option ℕ
relation_of c (callee.Rel r) env = Some r
relation_of c (callee.Var x) env = option_and_then relation_in (look x env)
relation_of c (callee.Val k) env = option_and_then relation_in (c.vals k)
relation_of c (callee.Built k) env = None

-- a call: a step, and then the relation; what is no relation is Wrong after the step
abbrev pub call : Context → RelationCalls → Option ℕ → Called → ℕ → Partial Answer
call c calls r s n = weighted_step c.step_weight (with_value r (λ r. calls r s)) n

-- a relation on values, and then its results
abbrev pub relation_called : Context → RelationCalls → Option ℕ → List Value → List RPat → Action
relation_called c calls r vs ps env store n = then_go (call c calls r (record { values = vs; store = store }) n) (taken c ps env)

-- a callee on values: a built-in, which takes no step, or else the relation that it names
abbrev pub called : Context → RelationCalls → Callee → List Value → List RPat → Action
called c calls (callee.Built k) vs ps env store n = from_built_in c k ps env (apply_at k vs store) n
called c calls f vs ps env store n = relation_called c calls (relation_of c f env) vs ps env store n

abbrev pub goal_action : Context → RelationCalls → RGoal-F Action → Action
goal_action c calls (RGoal-F.Call f es ps) env store n = with_value (values_of c es env) (λ vs. called c calls f vs ps env store) n
goal_action c calls (RGoal-F.Equal a b) env store n =
    with_value (value_of c a env) (λ v. with_value (value_of c b env) (λ w m. if same v w then goes_on env store m else No untraced m)) n
goal_action c calls (RGoal-F.Let q e) env store n = with_value (value_of c e env) (λ v m. from_match (matching c.names q v env) store m) n
-- where the goal gives none, a step, and all as it was before
goal_action c calls (RGoal-F.Not g) env store n = unless (g env store n) (weighted_step c.step_weight (goes_on env store))
goal_action c calls (RGoal-F.All gs) env store n = goals_in_turn gs env store n

abbrev pub going : Context → RelationCalls → RGoal → Action
going c calls = fold-RGoal Action (goal_action c calls)

abbrev pub going_all : Context → RelationCalls → List RGoal → Action
going_all c calls gs = goals_in_turn (map (going c calls) gs)

-- ---- rules

-- the results' values, and a step for the answer
abbrev pub answer : Context → List RExp → State → ℕ → Partial Answer
answer c es s n =
    with_value (values_of c es s.env) (λ vs. weighted_step c.step_weight (λ m. Yes (record { values = vs; store = s.store }) untraced m)) n

abbrev pub past_head : Context → RelationCalls → RRule → Matched → Store → ℕ → Partial Answer
past_head c calls r (matched.Yes env) store n = then_go (going_all c calls r.goals env store n) (answer c r.results)
past_head c calls r matched.No store n = No untraced n
past_head c calls r matched.Wrong store n = GoneWrong untraced

-- the head's match, the premises, the results
abbrev pub by_rule : Context → RelationCalls → RRule → Called → ℕ → Partial Answer
by_rule c calls r s n = past_head c calls r (matching_all c.names r.inputs s.values []) s.store n

-- a step for each rule that is begun; where one gives none, the next is tried from the same store
abbrev pub try : Context → RelationCalls → List RRule → Called → ℕ → Partial Answer
try c calls [] s n = No untraced n
try c calls (r ∷ rs) s n = weighted_step c.step_weight (λ m. or_else (by_rule c calls r s m) (try c calls rs s)) n

-- ---- relations

-- the rules of each relation; a number that no relation has has none
abbrev pub Rules : Type 0
Rules = ℕ → List RRule

-- what a relation does, over what the calls give
abbrev pub relation_body : Context → Rules → RelationCalls → RelationCalls
relation_body c rules calls r s n = try c calls (rules r) s n

-- what relations do where calls go so deep, and are cut beyond
abbrev pub relations_to : Context → Rules → ℕ → RelationCalls
relations_to c rules depth = calls_to (relation_body c rules) depth

-- what relations do, by the steps alone: each call takes one, so no call goes deeper than there are steps
abbrev pub relations : Context → Rules → RelationCalls
relations c rules = calls_by_steps (relation_body c rules)

-- the call of a relation from an empty store
abbrev pub search_in : Context → Rules → ℕ → List Value → ℕ → Partial Answer
search_in c rules r vs n = call c (relations c rules) (Some r) (record { values = vs; store = [] }) n
