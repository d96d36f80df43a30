-- Parts of a search put together of parts that are not Wrong are not Wrong: a lemma for each way to go on.
use Rattle.std.proofs.Common.{◌≡◌, ℕ, zero, suc, List, [], ◌∷◌, ◌++◌, map, Option, Some, None, refl, ap, ◌∙◌}
use Rattle.std.specs.Prelude.{IsSome}
use Rattle.rml_simulation.specs.declared.partial.Trace.{Trace}
use Rattle.rml_simulation.specs.declared.partial.Partial.{Partial}
use Rattle.rml_simulation.specs.declared.partial.Partial.TheVariants.{Yes, No, CutOff, GoneWrong}
use Rattle.rml_simulation.specs.Partial.{untraced, joined, after, then_go, or_else, unless}
use Rattle.rml_resolved.specs.declared.trees.RGoal.{RGoal}
use Rattle.rml_builtin.specs.Applied.{Store}
use Rattle.rml_terms.specs.Calling.{RelationCalls, with_value}
use Rattle.rml_terms.specs.Env.{Env}
use Rattle.rml_search.specs.declared.state.State.{State}
use Rattle.rml_search.specs.Context.{Context}
use Rattle.rml_search.specs.Search.{Action, goals_in_turn, going, going_all, step_trace, weighted_step}
use Rattle.rml_sound.specs.Safe.{Safe}

pub safe-more : {A : Type 0} (P Q : A → Type 0) (w : Partial A) → ((a : A) → P a → Q a) → Safe P w → Safe Q w
safe-more P Q (Yes a t n) f h = f a h
safe-more P Q (No t n) f h = tt
safe-more P Q (CutOff t) f h = tt
safe-more P Q (GoneWrong t) f h = absurd h

pub safe-after : {A : Type 0} (P : A → Type 0) (t : Trace) (w : Partial A) → Safe P w → Safe P (after t w)
safe-after P t (Yes a u n) h = h
safe-after P t (No u n) h = tt
safe-after P t (CutOff u) h = tt
safe-after P t (GoneWrong u) h = absurd h

-- what goes on from an answer may know that it is the answer
pub safe-then : {A C : Type 0} (P : A → Type 0) (Q : C → Type 0) (w : Partial A) (go : A → ℕ → Partial C) → Safe P w
    → ((a : A) (t : Trace) (n : ℕ) → w ≡ Yes a t n → P a → Safe Q (go a n)) → Safe Q (then_go w go)
safe-then P Q (Yes a t n) go h each = safe-after Q t (go a n) (each a t n refl h)
safe-then P Q (No t n) go h each = tt
safe-then P Q (CutOff t) go h each = tt
safe-then P Q (GoneWrong t) go h each = absurd h

pub safe-else : {A : Type 0} (P : A → Type 0) (w : Partial A) (go : ℕ → Partial A) → Safe P w → ((n : ℕ) → Safe P (go n)) → Safe P (or_else w go)
safe-else P (Yes a t n) go h each = h
safe-else P (No t n) go h each = safe-after P t (go n) (each n)
safe-else P (CutOff t) go h each = tt
safe-else P (GoneWrong t) go h each = absurd h

pub safe-unless : {A C : Type 0} (P : A → Type 0) (Q : C → Type 0) (w : Partial A) (go : ℕ → Partial C) → Safe P w → ((n : ℕ) → Safe Q (go n)) → Safe Q (unless w go)
safe-unless P Q (Yes a t n) go h each = tt
safe-unless P Q (No t n) go h each = safe-after Q t (go n) (each n)
safe-unless P Q (CutOff t) go h each = tt
safe-unless P Q (GoneWrong t) go h each = absurd h

pub safe-step : {A : Type 0} (P : A → Type 0) (weight : ℕ) (go : ℕ → Partial A) (n : ℕ) → ((m : ℕ) → Safe P (go m)) → Safe P (weighted_step weight go n)
safe-step P weight go zero each = tt
safe-step P weight go (suc n) each = safe-after P (step_trace weight) (go n) (each n)

pub safe-with : {A C : Type 0} (P : C → Type 0) (o : Option A) (go : A → ℕ → Partial C) (n : ℕ) → IsSome o → ((a : A) → o ≡ Some a → Safe P (go a n)) → Safe P (with_value o go n)
safe-with P None go n there each = absurd (cc)
safe-with P (Some a) go n there each = each a refl

-- ---- one goal more behind goals that gave an answer

after-yes : {A : Type 0} (t : Trace) (w : Partial A) (a : A) (u : Trace) (n : ℕ) → after t w ≡ Yes a u n → (v : Trace) × (w ≡ Yes a v n)
after-yes t (Yes b v m) a u n h = (v, cc)
after-yes t (No v m) a u n h = absurd (cc)
after-yes t (CutOff v) a u n h = absurd (cc)
after-yes t (GoneWrong v) a u n h = absurd (cc)

-- what goals lead to, where the first of them does this
in-turn-yes : (w : Partial State) (fs : List Action) (s : State) (t : Trace) (n : ℕ) → then_go w (λ s m. goals_in_turn fs s.env s.store m) ≡ Yes s t n
    → (a : State) × (u : Trace) × (m : ℕ) × (w ≡ Yes a u m) × (v : Trace) × (goals_in_turn fs a.env a.store m ≡ Yes s v n)
in-turn-yes (Yes a u m) fs s t n h = let rest = after-yes u (goals_in_turn fs a.env a.store m) s t n h in (a, u, m, refl, rest.0, rest.1)
in-turn-yes (No u m) fs s t n h = absurd (cc)
in-turn-yes (CutOff u) fs s t n h = absurd (cc)
in-turn-yes (GoneWrong u) fs s t n h = absurd (cc)

turn-more : (fs : List Action) (g : Action) (env : Env) (store : Store) (n : ℕ) (s : State) (t : Trace) (m : ℕ) (next : State) (told : Trace) (left : ℕ)
    → goals_in_turn fs env store n ≡ Yes s t m → g s.env s.store m ≡ Yes next told left → (u : Trace) × (goals_in_turn (fs ++ g ∷ []) env store n ≡ Yes next u left)
turn-more [] g env store n s t m next told left h k =
    let env-is : env ≡ s.env = ap (λ (w : Partial State). env-of env w) h in
    let store-is : store ≡ s.store = ap (λ (w : Partial State). store-of store w) h in
    let steps-are : n ≡ m = cc in
    let is : g env store n ≡ Yes next told left = rw (env-is, store-is, steps-are) k in
    (joined told untraced, ap (λ (w : Partial State). then_go w (λ s m. goals_in_turn [] s.env s.store m)) is)
  where
    env-of : Env → Partial State → Env
    env-of d (Yes s t m) = s.env
    env-of d _ = d

    store-of : Store → Partial State → Store
    store-of d (Yes s t m) = s.store
    store-of d _ = d
turn-more (f ∷ fs) g env store n s t m next told left h k =
    let first = in-turn-yes (f env store n) fs s t m h in
    let rest = turn-more fs g first.0.env first.0.store first.2 s first.4 m next told left first.5 k in (
      joined first.1 rest.0,
      ap (λ (w : Partial State). then_go w (λ s m. goals_in_turn (fs ++ g ∷ []) s.env s.store m)) first.3 ∙ ap (after first.1) rest.1,
    )

map-more : (f : RGoal → Action) (front : List RGoal) (g : RGoal) → map f (front ++ g ∷ []) ≡ map f front ++ f g ∷ []
map-more f [] g = refl
map-more f (x ∷ front) g = ap (λ (fs : List Action). f x ∷ fs) (map-more f front g)

pub goals-more : (c : Context) (calls : RelationCalls) (front : List RGoal) (g : RGoal) (env : Env) (store : Store) (n : ℕ) (s : State) (t : Trace) (m : ℕ) (next : State) (told : Trace) (left : ℕ)
    → going_all c calls front env store n ≡ Yes s t m → going c calls g s.env s.store m ≡ Yes next told left → (u : Trace) × (going_all c calls (front ++ g ∷ []) env store n ≡ Yes next u left)
goals-more c calls front g env store n s t m next told left h k =
    let more = turn-more (map (going c calls) front) (going c calls g) env store n s t m next told left h k in
    (more.0, ap (λ (fs : List Action). goals_in_turn fs env store n) (map-more (going c calls) front g) ∙ more.1)
