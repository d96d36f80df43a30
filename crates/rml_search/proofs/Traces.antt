-- Steps with their weight, and a turn of each loop over goals and rules.
use Rattle.std.proofs.Common.{◌≡◌, ℕ, zero, suc, ◌+◌, ◌-◌, ◌<◌, List, [], ◌∷◌, ◌++◌, map, length, get_or, drop, Some, refl, sym, ap, ◌∙◌, append_assoc, append-nil, add-one, drop-cons, arith}
use Rattle.rml_simulation.specs.declared.partial.Trace.{Trace}
use Rattle.rml_simulation.specs.declared.partial.Partial.{Partial}
use Rattle.rml_simulation.specs.declared.partial.Partial.TheVariants.{Yes, No, CutOff, GoneWrong}
use Rattle.rml_simulation.specs.Partial.{untraced, joined, after, then_go, or_else}
use Rattle.rml_value.specs.declared.value.Value.{Value}
use Rattle.rml_builtin.specs.declared.applied.Answer.{Answer}
use Rattle.rml_builtin.specs.Applied.{Store}
use Rattle.rml_resolved.specs.declared.tables.RRule.{RRule}
use Rattle.rml_resolved.specs.declared.trees.RGoal.{RGoal}
use Rattle.rml_search.specs.declared.state.State.{State}
use Rattle.rml_terms.specs.Env.{Env}
use Rattle.rml_terms.specs.Calling.{RelationCalls}
use Rattle.rml_search.specs.Context.{Context}
use Rattle.rml_builtin.specs.Called.{Called}
use Rattle.rml_evaluation.proofs.Callers.{joined_nothing, begins, after_joined}
use Rattle.rml_search.specs.Search.{step_trace, weighted_step, Action, goals_in_turn, call, by_rule, try, Rules, relations, relations_to}

-- ---- a step

-- with no step left
pub step_cut : {A : Type 0} (weight : ℕ) (go : ℕ → Partial A) (n : ℕ) → n ≡ 0 → weighted_step weight go n ≡ CutOff untraced
step_cut weight go zero e = refl
step_cut weight go (suc n) e = absurd (omega arith)

-- with a step
pub step_more : {A : Type 0} (weight : ℕ) (go : ℕ → Partial A) (n : ℕ) → 0 < n → weighted_step weight go n ≡ after (step_trace weight) (go (n - 1))
step_more weight go zero h = absurd (omega arith)
step_more weight go (suc n) h = let e : suc n - 1 ≡ n = omega arith in rw e refl

-- with a step, and then an answer
pub step_answers : {A : Type 0} (weight : ℕ) (a : A) (n : ℕ) → 0 < n → weighted_step weight (λ m. Yes a untraced m) n ≡ Yes a (step_trace weight) (n - 1)
step_answers weight a n h = step_more weight (λ m. Yes a untraced m) n h ∙ ap (λ t. Yes a t (n - 1)) (joined_nothing (step_trace weight))

-- with a step, and then Wrong
pub step_wrong : {A : Type 0} (weight n : ℕ) → 0 < n → weighted_step {A = A} weight (λ m. GoneWrong untraced) n ≡ GoneWrong (step_trace weight)
step_wrong weight n h = step_more weight (λ m. GoneWrong untraced) n h ∙ ap (λ t. GoneWrong t) (joined_nothing (step_trace weight))

pub ruleset trace_rules = (joined_nothing, begins, step_cut, step_more, step_answers, step_wrong)

-- ---- a turn of a loop over goals

goals_turn : (f : RGoal → Action) (gs : List RGoal) (i : ℕ) (g : RGoal) (env : Env) (store : Store) (n : ℕ) → i < length gs → g ≡ get_or gs i g
    → goals_in_turn (map f (drop i gs)) env store n ≡ then_go (f g env store n) (λ s m. goals_in_turn (map f (drop (i + 1) gs)) s.env s.store m)
goals_turn f gs i g env store n inside is =
    let here : drop i gs ≡ g ∷ drop (suc i) gs = rw (drop-cons gs i g, ← is) refl in
    rw add-one (ap (λ (hs : List RGoal). goals_in_turn (map f hs) env store n) here)

-- from the trace so far
pub goals_go_on : (whole : Partial State) (sofar : Trace) (f : RGoal → Action) (gs : List RGoal) (i : ℕ) (g : RGoal) (env : Env) (store : Store) (n : ℕ) (w v : Partial State)
    → whole ≡ after sofar (goals_in_turn (map f (drop i gs)) env store n) → i < length gs → g ≡ get_or gs i g → w ≡ f g env store n → w ≡ v
    → whole ≡ after sofar (then_go v (λ s m. goals_in_turn (map f (drop (i + 1) gs)) s.env s.store m))
goals_go_on whole sofar f gs i g env store n w v before inside is gives ends =
    before
    ∙ ap (λ (x : Partial State). after sofar x)
    (goals_turn f gs i g env store n inside is
    ∙ ap (λ (x : Partial State). then_go x (λ s m. goals_in_turn (map f (drop (i + 1) gs)) s.env s.store m)) (sym gives ∙ ends))

-- ---- a turn of a loop over rules

rules_turn : (c : Context) (calls : RelationCalls) (rules : List RRule) (i : ℕ) (r : RRule) (s : Called) (n : ℕ) → i < length rules → r ≡ get_or rules i r
    → try c calls (drop i rules) s n ≡ weighted_step c.step_weight (λ m. or_else (by_rule c calls r s m) (try c calls (drop (i + 1) rules) s)) n
rules_turn c calls rules i r s n inside is =
    let here : drop i rules ≡ r ∷ drop (suc i) rules = rw (drop-cons rules i r, ← is) refl in
    rw add-one (ap (λ (rs : List RRule). try c calls rs s n) here)

-- with no step left for the next rule
pub rules_stop : (c : Context) (calls : RelationCalls) (rules : List RRule) (i : ℕ) (r : RRule) (s : Called) (n : ℕ) → i < length rules → r ≡ get_or rules i r → n ≡ 0
    → try c calls (drop i rules) s n ≡ CutOff untraced
rules_stop c calls rules i r s n inside is none = rules_turn c calls rules i r s n inside is ∙ step_cut c.step_weight _ n none

-- from the trace so far, with a step for the rule and a copy of the store
pub rules_go_on : (whole : Partial Answer) (sofar begun step : Trace) (c : Context) (calls : RelationCalls) (rules : List RRule) (i : ℕ) (r : RRule) (vs : List Value) (store own : Store) (n : ℕ) (w v : Partial Answer)
    → whole ≡ after sofar (try c calls (drop i rules) (record { values = vs; store = store }) n) → i < length rules → r ≡ get_or rules i r → 0 < n → own ≡ store
    → step ≡ step_trace c.step_weight → begun ≡ joined sofar step
    → w ≡ by_rule c calls r (record { values = vs; store = own }) (n - 1) → w ≡ v
    → whole ≡ after begun (or_else v (try c calls (drop (i + 1) rules) (record { values = vs; store = store })))
rules_go_on whole sofar begun step c calls rules i r vs store own n w v before inside is some same weighs joins gives ends =
    let s : Called = record { values = vs; store = store } in
    let rest : ℕ → Partial Answer = try c calls (drop (i + 1) rules) s in
    let by : ℕ → Partial Answer = λ m. or_else (by_rule c calls r s m) rest in
    let tried : by_rule c calls r s (n - 1) ≡ v = ap (λ (b : Store). by_rule c calls r (record { values = vs; store = b }) (n - 1)) (sym same) ∙ sym gives ∙ ends in
    let stands : joined sofar (step_trace c.step_weight) ≡ begun = ap (λ (t : Trace). joined sofar t) (sym weighs) ∙ sym joins in
    before
    ∙ ap (λ (x : Partial Answer). after sofar x) (rules_turn c calls rules i r s n inside is ∙ step_more c.step_weight by n some)
    ∙ sym (after_joined sofar (step_trace c.step_weight) (by (n - 1)))
    ∙ ap (λ (t : Trace). after t (by (n - 1))) stands
    ∙ ap (λ (x : Partial Answer). after begun (or_else x rest)) tried

-- ---- a call at a depth

pub relations_to_some : (c : Context) (rules : Rules) (depth r : ℕ) (s : Called) (n : ℕ) → 0 < depth
    → relations_to c rules depth r s n ≡ try c (relations_to c rules (depth - 1)) (rules r) s n
relations_to_some c rules zero r s n h = absurd (omega arith)
relations_to_some c rules (suc depth) r s n h = let e : suc depth - 1 ≡ depth = omega arith in rw e refl

-- a call with n steps goes no deeper than n
pub call_by_steps : (c : Context) (rules : Rules) (r : ℕ) (s : Called) (n : ℕ) → call c (relations c rules) (Some r) s n ≡ call c (relations_to c rules n) (Some r) s n
call_by_steps c rules r s zero = refl
call_by_steps c rules r s (suc n) = refl
