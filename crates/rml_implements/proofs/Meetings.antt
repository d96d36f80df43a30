-- What names stand for and a state meet again after a register was written, a name was given, or names of an earlier time were taken up.
use Rattle.std.proofs.Common.{◌≡◌, ◌≢◌, ℕ, suc, ◌<◌, ◌≤◌, ◌⊎◌, Bool, true, false, List, [], ◌∷◌, Option, Some, None, refl, sym, ap, ◌∙◌, subst, arith, inl, inr, length-set}
use Rattle.std.specs.Prelude.{if◌then◌else◌, ◌==◌}
use Rattle.std.proofs.lemmas.Bool.Decides.{eqb_tells}
use Rattle.std.proofs.lemmas.Bool.{eq-eqb, ne_eqb}
use Rattle.rml_base.specs.Run.{Rest}
use Rattle.rml_value.specs.declared.value.Value.{Value}
use Rattle.rml_builtin.specs.Applied.{Store}
use Rattle.rml_terms.specs.Env.{Env, bind, look}
use Rattle.rml_terms.proofs.Callers.{look_kept, look_new, look_other}
use Rattle.rml_fol.specs.Expressions.{Vals}
use Rattle.rml_fol.specs.Statements.{bind_all}
use Rattle.rml_cps.specs.declared.statements.Continuation.{Continuation}
use Rattle.rml_cps.specs.declared.statements.Continuation.TheVariants as continuation
use Rattle.rml_cps.specs.declared.statements.Stmt.{Stmt}
use Rattle.rml_cps.specs.Statements.{OnAnswer, Jump, RelationActs, Scope, is_named, with_success, with_failure, with_body, success_of, failure_of, body_of, block}
use Rattle.rml_heap.specs.declared.cell.Cell.{Cell}
use Rattle.rml_code.specs.declared.instructions.Instr.{Instr}
use Rattle.rml_code.specs.declared.state.State.{State}
use Rattle.rml_code.specs.Frames.{register, put}
use Rattle.rml_implements.specs.Layout.{Place, Places, with_entry, with_variables, AllNew, in_register, in_order, Pending, Joint, Delayed, Layout, with_places, binding, naming_success, naming_failure, naming_body, NotAmong, Before}
use Rattle.rml_implements.specs.World.{Later, Leads, Args, Sound, SuccessAt, Chain, Then, Within, Covers, IsPending, IsJoint, IsDelayed, Meets}
use Rattle.rml_implements.proofs.Values.{later-same, leads-later, stands-later}
use Rattle.rml_implements.proofs.Places.{some-same, none-some, AllAt, at-bound}
use Rattle.rml_implements.proofs.Frames.{success-at-later, chain-later, FromScope, from-within}

-- ---- tables

pub entry-same : {A : Type 0} → (x y : ℕ) (a : A) (table : ℕ → A) → x ≡ y → with_entry x a table y ≡ a
entry-same x y a table e = ap (λ b. if b then a else table y) (eq-eqb x y e)

pub entry-other : {A : Type 0} → (x y : ℕ) (a : A) (table : ℕ → A) → x ≢ y → with_entry x a table y ≡ table y
entry-other x y a table ne = ap (λ b. if b then a else table y) (ne_eqb x y ne)

-- a name that is taken, or one more
entry-none : (x y : ℕ) (table : ℕ → Bool) → with_entry x true table y ≡ false → (x ≢ y) × (table y ≡ false)
entry-none x y table e =
    elim (eqb_tells x y) [
      | inl same ↦ absurd (let d : true ≡ false = sym (entry-same x y true table same.1) ∙ e in cc)
      | inr other ↦ (other.1, sym (entry-other x y true table other.1) ∙ e)
    ]

named-is : (k : ℕ) (c : Continuation) → is_named k c ≡ true → c ≡ continuation.Named k
named-is k continuation.Own e = absurd (cc)
named-is k (continuation.Named m) e =
    elim (eqb_tells m k) [
      | inl same ↦ ap continuation.Named same.1
      | inr other ↦ absurd (let d : true ≡ false = sym e ∙ other.0 in cc)
    ]

named-other : (k : ℕ) (c : Continuation) → c ≢ continuation.Named k → is_named k c ≡ false
named-other k continuation.Own ne = refl
named-other k (continuation.Named m) ne = ne_eqb m k (λ e. ne (ap continuation.Named e))

named-same : (k : ℕ) → is_named k (continuation.Named k) ≡ true
named-same k = eq-eqb k k refl

-- a table of continuations with one more, which was not there
more-named : {A : Type 0} (k : ℕ) (does : A) (table : Continuation → Option A) → table (continuation.Named k) ≡ None → (c : Continuation) (go : A) → table c ≡ Some go → (if is_named k c then Some does else table c) ≡ Some go
more-named {A} k does table none c go e = pick (is_named k c) refl
  where
    pick : (b : Bool) → is_named k c ≡ b → (if b then Some does else table c) ≡ Some go
    pick true d = none-some _ (sym none ∙ ap table (sym (named-is k c d)) ∙ e)
    pick false d = e

pub less-named : {A : Type 0} (k : ℕ) (does : A) (table : Continuation → Option A) (c : Continuation) (go : A) → c ≢ continuation.Named k → (if is_named k c then Some does else table c) ≡ Some go → table c ≡ Some go
less-named k does table c go ne e = ap (λ b. if b then Some does else table c) (sym (named-other k c ne)) ∙ e

pub new-named : {A : Type 0} (k : ℕ) (does go : A) (table : Continuation → Option A) → (if is_named k (continuation.Named k) then Some does else table (continuation.Named k)) ≡ Some go → does ≡ go
new-named k does go table e = some-same (ap (λ b. if b then Some does else table (continuation.Named k)) (sym (named-same k)) ∙ e)

named-apart : (q k : ℕ) → k ≢ q → continuation.Named q ≢ continuation.Named k
named-apart q k ne e = ne (sym (number-of e))
  where
    number : Continuation → ℕ
    number continuation.Own = 0
    number (continuation.Named n) = n

    number-of : continuation.Named q ≡ continuation.Named k → q ≡ k
    number-of d = ap number d

pub within-same : (a : Then) → Within a a
within-same a = record { variables = λ x v e. e; successes = λ c go e. e; failures = λ c go e. e; bodies = λ j go e. e }

pub within-then : (a b c : Then) → Within a b → Within b c → Within a c
within-then a b c h k = record {
  variables = λ x v e. k.variables x v (h.variables x v e);
  successes = λ x go e. k.successes x go (h.successes x go e);
  failures = λ x go e. k.failures x go (h.failures x go e);
  bodies = λ j go e. k.bodies j go (h.bodies j go e);
}

module _ (vals : Vals) (calls : RelationActs) (rels registers : ℕ) (constants : ℕ → Option Value) (blocks : List (List Instr)) where
  abbrev M : ℕ → Layout → Scope → Env → Store → State → Type 0
  M = Meets vals calls rels registers constants blocks

  -- ---- a later state

  pub meets-next : (i : ℕ) (l : Layout) (ps : Places) (scope : Scope) (env : Env) (store store' : Store) (t t' : State) → Later t t' → t'.heap.frames ≡ t.heap.frames → t'.success ≡ t.success → t'.failure ≡ t.failure
      → Sound rels registers constants t' store' → AllAt rels t' (register t') env ps → ((q : ℕ) (p : Delayed) → l.delayed q ≡ Some p → store ≡ store') → M i l scope env store t → M i (with_places ps l) scope env store' t'
  meets-next i l ps scope env store store' t t' later frames success failure sound all still m =
      let S : OnAnswer → List Cell → ℕ → Type 0 = λ go fs n. SuccessAt rels registers constants blocks i fs n t' go in
      let C : List Cell → ℕ → Type 0 = λ fs n. Chain rels registers constants blocks i fs n t' l.failures scope.failure in
      record {
        sound = sound;
        covers = m.covers;
        places = all;
        success = λ k go e d.
            subst (λ fs. S go fs t'.success) (sym frames) (subst (λ n. S go t.heap.frames n) (sym success)
            (success-at-later rels registers constants blocks i i [] t.heap.frames t.success t t' go (omega arith) later (m.success k go e d)));
        failures =
            subst (λ fs. C fs t'.failure) (sym frames) (subst (λ n. C t.heap.frames n) (sym failure)
            (chain-later rels registers constants blocks i i [] t.heap.frames t.failure t t' l.failures scope.failure scope.failure (omega arith) later (from-within rels registers constants blocks scope.failure scope.failure l.failures (λ h go e. e)) m.failures));
        past = m.past;
        now = m.now;
        rising = m.rising;
        pending = m.pending;
        joints = m.joints;
        delayed = λ q p go e d. subst (λ s. IsDelayed vals calls p l.time (m.past p.time) s go) (still q p e) (m.delayed q p go e d);
      }

  pub sound-put : (t : State) (store : Store) (a : ℕ) (c : Cell) → Sound rels registers constants t store → Sound rels registers constants (put a c t) store
  sound-put t store a c h = record {
    binds = h.binds;
    entries = h.entries;
    few = h.few;
    fits = h.fits;
    narrow = h.narrow;
    success = h.success;
    failure = h.failure;
    registers_are = length-set t.registers a c ∙ h.registers_are;
    constants_are = λ i v e. stands-later rels t (put a c t) (later-put t a c) _ v (h.constants_are i v e);
    there = h.there;
  }
    where
      later-put : (t : State) (a : ℕ) (c : Cell) → Later t (put a c t)
      later-put t a c = let s = later-same t in record { future = s.future; more = s.more; names = s.names; constants = refl; limit = refl; registers = length-set t.registers a c }

  pub put-later : (t : State) (a : ℕ) (c : Cell) → Later t (put a c t)
  put-later t a c = let s = later-same t in record { future = s.future; more = s.more; names = s.names; constants = refl; limit = refl; registers = length-set t.registers a c }

  -- a register was written
  pub meets-put : (i : ℕ) (l : Layout) (ps : Places) (scope : Scope) (env : Env) (store : Store) (t : State) (a : ℕ) (c : Cell) → AllAt rels t (register (put a c t)) env ps → M i l scope env store t → M i (with_places ps l) scope env store (put a c t)
  meets-put i l ps scope env store t a c all m =
      meets-next i l ps scope env store store t (put a c t) (put-later t a c) refl refl refl (sound-put t store a c m.sound)
      (λ x p v h d. leads-later rels t (put a c t) (put-later t a c) v p.path (register (put a c t) p.register) (all x p v h d)) (λ q p e. refl) m

  -- ---- a variable more

  pub meets-bind : (i : ℕ) (l : Layout) (scope : Scope) (env : Env) (store : Store) (t : State) (x : ℕ) (p : Place) (v : Value) → l.names.variables x ≡ false → Leads rels t v p.path (register t p.register)
      → M i l scope env store t → M i (binding x p l.places l) scope (bind x v env) store t
  meets-bind i l scope env store t x p v fresh leads m =
      let new : look x env ≡ None = m.covers.variables x fresh in
      record {
        sound = m.sound;
        covers = record {
          bound = λ y e. known y e;
          variables = λ y e. let o = entry-none x y l.names.variables e in look_other y x v env (λ d. o.0 (sym d)) (m.covers.variables y o.1);
          successes = m.covers.successes;
          failures = m.covers.failures;
          bodies = m.covers.bodies;
        };
        places = at-bound rels t (register t) l.places env x p v new leads m.places;
        success = m.success;
        failures = m.failures;
        past = m.past;
        now = λ n lt.
            let w = m.now n lt in
            record { variables = λ y u e. look_kept y x v u env (w.variables y u e); successes = w.successes; failures = w.failures; bodies = w.bodies };
        rising = m.rising;
        pending = m.pending;
        joints = m.joints;
        delayed = m.delayed;
      }
    where
      known : (y : ℕ) → with_entry x true l.names.variables y ≡ true → (u : Value) × (look y (bind x v env) ≡ Some u)
      known y e =
          elim (eqb_tells x y) [
            | inl same ↦ (v, subst (λ z. look z (bind x v env) ≡ Some v) same.1 (look_new x v env (m.covers.variables x fresh)))
            | inr other ↦
                let o = m.covers.bound y (sym (entry-other x y true l.names.variables other.1) ∙ e) in
                (o.0, look_kept y x v o.0 env o.1)
          ]

  -- values that are received
  pub meets-received : (i j : ℕ) (params : List ℕ) (vs : List Value) (l : Layout) (scope : Scope) (env env' : Env) (store : Store) (t : State) → bind_all params vs env ≡ Some env' → AllNew params l.names → Args rels t j vs
      → M i l scope env store t → M i (record l { names = with_variables params l.names; places = in_order j params l.places }) scope env' store t
  meets-received i j [] [] l scope env env' store t e new args m = subst (λ z. M i l scope z store t) (some-same e) m
  meets-received i j [] (v ∷ vs) l scope env env' store t e new args m = none-some _ e
  meets-received i j (x ∷ xs) [] l scope env env' store t e new args m = none-some _ e
  meets-received i j (x ∷ xs) (v ∷ vs) l scope env env' store t e new args m =
      meets-received i (suc j) xs vs (binding x (in_register j) l.places l) scope (bind x v env) env' store t e new.1 args.1
      (meets-bind i l scope env store t x (in_register j) v new.0 args.0 m)

  -- ---- a name is given

  module _ (i : ℕ) (l : Layout) (scope : Scope) (env : Env) (store : Store) (t : State) (m : M i l scope env store t) where
    abbrev here : Then
    here = record { scope = scope; env = env }

    abbrev past' : ℕ → Then
    past' = with_entry l.time here m.past

    past-old : (n : ℕ) → n < l.time → past' n ≡ m.past n
    past-old n lt = entry-other l.time n here m.past (λ e. omega (arith, e, lt))

    past-new : (n : ℕ) → n ≡ l.time → past' n ≡ here
    past-new n e = entry-same l.time n here m.past (sym e)

    last : (n : ℕ) → n < suc l.time → (n ≡ l.time) ⊎ (n < l.time)
    last n lt = grind arith

    now' : (now : Then) → Within here now → (n : ℕ) → n < suc l.time → Within (past' n) now
    now' now w n lt =
        elim (last n lt) [
          | inl e ↦ subst (λ z. Within z now) (sym (past-new n e)) w
          | inr old ↦ subst (λ z. Within z now) (sym (past-old n old)) (within-then (m.past n) here now (m.now n old) w)
        ]

    rising' : (k n : ℕ) → k ≤ n → n < suc l.time → Within (past' k) (past' n)
    rising' k n le lt =
        elim (last n lt) [
          | inl e ↦ subst (λ z. Within (past' k) z) (sym (past-new n e)) (now' here (within-same here) k (omega (arith, le, lt)))
          | inr old ↦
              let low : k < l.time = omega (arith, le, old) in
              subst (λ z. Within z (past' n)) (sym (past-old k low)) (subst (λ z. Within (m.past k) z) (sym (past-old n old)) (m.rising k n le old))
        ]

    pending-on : (p : Pending) (go : OnAnswer) → IsPending vals calls p l.time (m.past p.time) go → IsPending vals calls p (suc l.time) (past' p.time) go
    pending-on p go o =
        let lt = o.earlier in
        let z : IsPending vals calls p (suc l.time) (m.past p.time) go = record { is = o.is; covers = o.covers; earlier = omega (arith, lt) } in
        subst (λ a. IsPending vals calls p (suc l.time) a go) (sym (past-old p.time lt)) z

    joint-on : (p : Joint) (go : Jump) → IsJoint vals calls p l.time (m.past p.time) go → IsJoint vals calls p (suc l.time) (past' p.time) go
    joint-on p go o =
        let lt = o.earlier in
        let z : IsJoint vals calls p (suc l.time) (m.past p.time) go = record { is = o.is; covers = o.covers; earlier = omega (arith, lt) } in
        subst (λ a. IsJoint vals calls p (suc l.time) a go) (sym (past-old p.time lt)) z

    delayed-on : (p : Delayed) (go : Rest) → IsDelayed vals calls p l.time (m.past p.time) store go → IsDelayed vals calls p (suc l.time) (past' p.time) store go
    delayed-on p go o =
        let lt = o.earlier in
        let z : IsDelayed vals calls p (suc l.time) (m.past p.time) store go = record { is = o.is; covers = o.covers; earlier = omega (arith, lt) } in
        subst (λ a. IsDelayed vals calls p (suc l.time) a store go) (sym (past-old p.time lt)) z

    pub meets-success : (k : ℕ) (params : List ℕ) (body : List Stmt) → l.names.successes k ≡ false → l.success ≢ Some (continuation.Named k)
        → M i (naming_success k (record { params = params; body = body; names = l.names; time = l.time }) l) (with_success k (success_of params (block vals calls body) scope env) scope) env store t
    meets-success k params body fresh other = record {
      sound = m.sound;
      covers = record {
        bound = m.covers.bound;
        variables = m.covers.variables;
        successes = λ q e. let o = entry-none k q l.names.successes e in ap (λ b. if b then Some does else scope.success (continuation.Named q)) (named-other k (continuation.Named q) (named-apart q k o.0)) ∙ m.covers.successes q o.1;
        failures = m.covers.failures;
        bodies = m.covers.bodies;
      };
      places = m.places;
      success = λ c go e d. m.success c go e (less-named k does scope.success c go (λ is. other (e ∙ ap Some is)) d);
      failures = m.failures;
      past = past';
      now = now' (record { scope = with_success k does scope; env = env }) (record { variables = λ x v e. e; successes = more-named k does scope.success (m.covers.successes k fresh); failures = λ c go e. e; bodies = λ j go e. e });
      rising = rising';
      pending = pending;
      joints = λ q o go e d. joint-on o go (m.joints q o go e d);
      delayed = λ q o go e d. delayed-on o go (m.delayed q o go e d);
    }
      where
        does : OnAnswer
        does = success_of params (block vals calls body) scope env

        p : Pending
        p = record { params = params; body = body; names = l.names; time = l.time }

        pending : (q : ℕ) (o : Pending) (go : OnAnswer) → with_entry k (Some p) l.pending q ≡ Some o → (with_success k does scope).success (continuation.Named q) ≡ Some go → IsPending vals calls o (suc l.time) (past' o.time) go
        pending q o go e d =
            elim (eqb_tells k q) [
              | inl same ↦
                  let is : p ≡ o = some-same (sym (entry-same k q (Some p) l.pending same.1) ∙ e) in
                  let d' : (with_success k does scope).success (continuation.Named k) ≡ Some go = ap (λ z. (with_success k does scope).success (continuation.Named z)) same.1 ∙ d in
                  let so : does ≡ go = new-named k does go scope.success d' in
                  let z : IsPending vals calls p (suc l.time) here does = record { is = refl; covers = m.covers; earlier = omega arith } in
                  subst (λ y. IsPending vals calls y (suc l.time) (past' y.time) go) is
                  (subst (λ y. IsPending vals calls p (suc l.time) (past' l.time) y) so (subst (λ y. IsPending vals calls p (suc l.time) y does) (sym (past-new l.time refl)) z))
              | inr ne ↦
                  pending-on o go (m.pending q o go (sym (entry-other k q (Some p) l.pending ne.1) ∙ e) (less-named k does scope.success (continuation.Named q) go (named-apart q k ne.1) d))
            ]

    -- failures of the chain that are not this one
    others : (h : ℕ) (does : Rest) (fs : List (Option Continuation)) → NotAmong (continuation.Named h) fs → FromScope rels registers constants blocks scope.failure (with_failure h does scope).failure fs
    others h does [] ne = tt
    others h does (f ∷ fs) ne = (λ c go e d. less-named h does scope.failure c go (λ is. ne.0 (e ∙ ap Some is)) d, others h does fs ne.1)

    pub meets-failure : (h : ℕ) (body : List Stmt) → l.names.failures h ≡ false → NotAmong (continuation.Named h) l.failures
        → M i (naming_failure h (record { body = body; names = l.names; time = l.time }) l) (with_failure h (failure_of (block vals calls body) scope env store) scope) env store t
    meets-failure h body fresh other = record {
      sound = m.sound;
      covers = record {
        bound = m.covers.bound;
        variables = m.covers.variables;
        successes = m.covers.successes;
        failures = λ q e. let o = entry-none h q l.names.failures e in ap (λ b. if b then Some does else scope.failure (continuation.Named q)) (named-other h (continuation.Named q) (named-apart q h o.0)) ∙ m.covers.failures q o.1;
        bodies = m.covers.bodies;
      };
      places = m.places;
      success = m.success;
      failures = chain-later rels registers constants blocks i i [] t.heap.frames t.failure t t l.failures scope.failure (with_failure h does scope).failure (omega arith) (later-same t) (others h does l.failures other) m.failures;
      past = past';
      now = now' (record { scope = with_failure h does scope; env = env }) (record { variables = λ x v e. e; successes = λ c go e. e; failures = more-named h does scope.failure (m.covers.failures h fresh); bodies = λ j go e. e });
      rising = rising';
      pending = λ q o go e d. pending-on o go (m.pending q o go e d);
      joints = λ q o go e d. joint-on o go (m.joints q o go e d);
      delayed = delayed;
    }
      where
        does : Rest
        does = failure_of (block vals calls body) scope env store

        p : Delayed
        p = record { body = body; names = l.names; time = l.time }

        delayed : (q : ℕ) (o : Delayed) (go : Rest) → with_entry h (Some p) l.delayed q ≡ Some o → (with_failure h does scope).failure (continuation.Named q) ≡ Some go → IsDelayed vals calls o (suc l.time) (past' o.time) store go
        delayed q o go e d =
            elim (eqb_tells h q) [
              | inl same ↦
                  let is : p ≡ o = some-same (sym (entry-same h q (Some p) l.delayed same.1) ∙ e) in
                  let d' : (with_failure h does scope).failure (continuation.Named h) ≡ Some go = ap (λ z. (with_failure h does scope).failure (continuation.Named z)) same.1 ∙ d in
                  let so : does ≡ go = new-named h does go scope.failure d' in
                  let z : IsDelayed vals calls p (suc l.time) here store does = record { is = refl; covers = m.covers; earlier = omega arith } in
                  subst (λ y. IsDelayed vals calls y (suc l.time) (past' y.time) store go) is
                  (subst (λ y. IsDelayed vals calls p (suc l.time) (past' l.time) store y) so (subst (λ y. IsDelayed vals calls p (suc l.time) y store does) (sym (past-new l.time refl)) z))
              | inr ne ↦
                  delayed-on o go (m.delayed q o go (sym (entry-other h q (Some p) l.delayed ne.1) ∙ e) (less-named h does scope.failure (continuation.Named q) go (named-apart q h ne.1) d))
            ]

    pub meets-body : (j : ℕ) (params : List ℕ) (h : ℕ) (body : List Stmt) → l.names.bodies j ≡ false
        → M i (naming_body j (record { params = params; handed = h; body = body; names = l.names; time = l.time }) l) (with_body j (body_of params h (block vals calls body) scope env) scope) env store t
    meets-body j params h body fresh = record {
      sound = m.sound;
      covers = record {
        bound = m.covers.bound;
        variables = m.covers.variables;
        successes = m.covers.successes;
        failures = m.covers.failures;
        bodies = λ q e. let o = entry-none j q l.names.bodies e in ap (λ b. if b then Some does else scope.body q) (ne_eqb q j (λ is. o.0 (sym is))) ∙ m.covers.bodies q o.1;
      };
      places = m.places;
      success = m.success;
      failures = m.failures;
      past = past';
      now = now' (record { scope = with_body j does scope; env = env }) (record { variables = λ x v e. e; successes = λ c go e. e; failures = λ c go e. e; bodies = more });
      rising = rising';
      pending = λ q o go e d. pending-on o go (m.pending q o go e d);
      joints = joints;
      delayed = λ q o go e d. delayed-on o go (m.delayed q o go e d);
    }
      where
        does : Jump
        does = body_of params h (block vals calls body) scope env

        p : Joint
        p = record { params = params; handed = h; body = body; names = l.names; time = l.time }

        more : (q : ℕ) (go : Jump) → scope.body q ≡ Some go → (if q == j then Some does else scope.body q) ≡ Some go
        more q go e =
            elim (eqb_tells q j) [
              | inl same ↦ none-some _ (sym (m.covers.bodies j fresh) ∙ ap scope.body (sym same.1) ∙ e)
              | inr ne ↦ ap (λ b. if b then Some does else scope.body q) ne.0 ∙ e
            ]

        joints : (q : ℕ) (o : Joint) (go : Jump) → with_entry j (Some p) l.joints q ≡ Some o → (with_body j does scope).body q ≡ Some go → IsJoint vals calls o (suc l.time) (past' o.time) go
        joints q o go e d =
            elim (eqb_tells q j) [
              | inl same ↦
                  let is : p ≡ o = some-same (sym (entry-same j q (Some p) l.joints (sym same.1)) ∙ e) in
                  let so : does ≡ go = some-same (ap (λ b. if b then Some does else scope.body q) (sym same.0) ∙ d) in
                  let z : IsJoint vals calls p (suc l.time) here does = record { is = refl; covers = m.covers; earlier = omega arith } in
                  subst (λ y. IsJoint vals calls y (suc l.time) (past' y.time) go) is
                  (subst (λ y. IsJoint vals calls p (suc l.time) (past' l.time) y) so (subst (λ y. IsJoint vals calls p (suc l.time) y does) (sym (past-new l.time refl)) z))
              | inr ne ↦
                  joint-on o go (m.joints q o go (sym (entry-other j q (Some p) l.joints (λ is. ne.1 (sym is))) ∙ e) (ap (λ b. if b then Some does else scope.body q) (sym ne.0) ∙ d))
            ]

    -- ---- names of an earlier time are taken up, in a state in which the frames are those of now

    pub meets-back : (n : ℕ) (when : ℕ) (inner : Layout) (t' : State) (store' : Store) → n ≤ i → when < l.time → Later t t' → t'.heap.frames ≡ t.heap.frames → t'.success ≡ t.success
        → Sound rels registers constants t' store' → Covers inner.names (m.past when) → Before l when inner
        → Chain rels registers constants blocks n t'.heap.frames t'.failure t' inner.failures (m.past when).scope.failure
        → AllAt rels t' (register t') (m.past when).env inner.places
        → ((q : ℕ) (p : Delayed) → inner.delayed q ≡ Some p → (l.delayed q ≡ Some p) × (p.time < when) × (store ≡ store'))
        → M n inner (m.past when).scope (m.past when).env store' t'
    meets-back n when inner t' store' le early later frames success sound covers before chain all still =
        let w : Within (m.past when) here = m.now when early in
        let at : inner.time ≡ when = before.time in
        let S : OnAnswer → List Cell → ℕ → Type 0 = λ go fs k. SuccessAt rels registers constants blocks n fs k t' go in
        record {
          sound = sound;
          covers = covers;
          places = all;
          success = λ k go e d.
              subst (λ fs. S go fs t'.success) (sym frames) (subst (λ k. S go t.heap.frames k) (sym success)
              (success-at-later rels registers constants blocks i n [] t.heap.frames t.success t t' go le later (m.success k go (before.success k e) (w.successes k go d))));
          failures = chain;
          past = m.past;
          now = λ k lt. m.rising k when (omega (arith, lt, at)) early;
          rising = λ k o low lt. m.rising k o low (omega (arith, lt, at, early));
          pending = λ q p go e d.
              let a = before.pending q p e in
              let o = m.pending q p go a.0 (w.successes (continuation.Named q) go d) in
              record { is = o.is; covers = o.covers; earlier = let lt = a.1 in omega (arith, lt, at) };
          joints = λ q p go e d.
              let a = before.joints q p e in
              let o = m.joints q p go a.0 (w.bodies q go d) in
              record { is = o.is; covers = o.covers; earlier = let lt = a.1 in omega (arith, lt, at) };
          delayed = λ q p go e d.
              let a = still q p e in
              let o = m.delayed q p go a.0 (w.failures (continuation.Named q) go d) in
              let z : IsDelayed vals calls p inner.time (m.past p.time) store go = record { is = o.is; covers = o.covers; earlier = let lt = a.1 in omega (arith, lt, at) } in
              subst (λ s. IsDelayed vals calls p inner.time (m.past p.time) s go) a.2 z;
        }

  -- the failure that a `goto` hands on has a name more
  pub meets-handed : (i : ℕ) (l : Layout) (scope : Scope) (env : Env) (store : Store) (t : State) (h : ℕ) (f : Rest) (fs : List (Option Continuation)) → l.names.failures h ≡ false → ((q : ℕ) → l.delayed q ≡ None)
      → Chain rels registers constants blocks i t.heap.frames t.failure t fs (with_failure h f scope).failure
      → M i l scope env store t → M i (record l { names = record l.names { failures = with_entry h true l.names.failures }; failures = fs }) (with_failure h f scope) env store t
  meets-handed i l scope env store t h f fs fresh none chain m = record {
    sound = m.sound;
    covers = record {
      bound = m.covers.bound;
      variables = m.covers.variables;
      successes = m.covers.successes;
      failures = λ q e. let o = entry-none h q l.names.failures e in ap (λ b. if b then Some f else scope.failure (continuation.Named q)) (named-other h (continuation.Named q) (named-apart q h o.0)) ∙ m.covers.failures q o.1;
      bodies = m.covers.bodies;
    };
    places = m.places;
    success = m.success;
    failures = chain;
    past = m.past;
    now = λ n lt.
        let w = m.now n lt in
        record { variables = w.variables; successes = w.successes; failures = λ c go e. more-named h f scope.failure (m.covers.failures h fresh) c go (w.failures c go e); bodies = w.bodies };
    rising = m.rising;
    pending = m.pending;
    joints = m.joints;
    delayed = λ q p go e d. none-some _ (sym (none q) ∙ e);
  }
