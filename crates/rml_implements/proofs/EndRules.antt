-- The rules of the ends of a block.
use Rattle.std.proofs.Common.{◌≡◌, ℕ, suc, ◌+◌, ◌<◌, ◌≤◌, true, List, [], ◌∷◌, length, Option, Some, None, refl, sym, ap, ◌∙◌, subst, arith}
use Rattle.std.specs.Prelude.{option_map}
use Rattle.rml_base.specs.Run.{Rest, step}
use Rattle.rml_simulation.specs.Simulates.{Simulates}
use Rattle.rml_simulation.proofs.Callers.{old_weigh}
use Rattle.rml_value.specs.declared.value.Value.{Value}
use Rattle.rml_builtin.specs.Applied.{Store}
use Rattle.rml_terms.specs.Env.{Env, look, values_in}
use Rattle.rml_terms.specs.declared.state.Binding.{Binding}
use Rattle.rml_terms.specs.Evaluating.{with_first}
use Rattle.rml_fol.specs.declared.statements.Callee.TheVariants as callee
use Rattle.rml_fol.specs.Expressions.{Vals}
use Rattle.rml_fol.specs.Statements.{bindings_of, values_of, bind_all, relation_of}
use Rattle.rml_cps.specs.declared.statements.Continuation.{Continuation}
use Rattle.rml_cps.specs.declared.statements.Continuation.TheVariants as continuation
use Rattle.rml_cps.specs.declared.statements.Stmt.TheVariants as stmt
use Rattle.rml_cps.specs.Weights.{goto_weight}
use Rattle.rml_cps.specs.Statements.{OnAnswer, Jump, RelationActs, Scope, with_known, own_failure, with_failure, call, block}
use Rattle.rml_heap.specs.declared.cell.Cell.{Cell}
use Rattle.rml_code.specs.declared.instructions.Instr.{Instr}
use Rattle.rml_code.specs.declared.instructions.Instr.TheVariants as instr
use Rattle.rml_code.specs.declared.state.State.{State}
use Rattle.rml_code.specs.Frames.{register}
use Rattle.rml_code.specs.Remaining.{remains, at_block, at_turn}
use Rattle.rml_code.proofs.Callers.{by-Goto, by-Call, by-Answer, by-Fail}
use Rattle.rml_implements.specs.Layout.{Places, in_register, in_order, Ready, Names, with_entry, with_variables, Joint, Layout, NotAmong, Before, Handed}
use Rattle.rml_implements.specs.World.{credit, Args, FailureStands, Chain, Then, Within, Covers, Meets}
use Rattle.rml_implements.specs.Implements.{Called}
use Rattle.rml_implements.specs.Rules as rule
use Rattle.rml_implements.proofs.Runs.{along, along-new, along-old, turn-there, jump-there}
use Rattle.rml_implements.proofs.Values.{later-same}
use Rattle.rml_implements.proofs.Places.{some-same, none-some, AllAt}
use Rattle.rml_implements.proofs.Frames.{failure-later, success-at-later, chain-later, FromScope, success-label-there, failure-label-there}
use Rattle.rml_implements.proofs.Meetings.{less-named, new-named, meets-back, meets-handed, meets-received}
use Rattle.rml_implements.proofs.Lines.{known, line-Call, line-Answer, line-Fail, line-Goto}

-- ---- what is handed on is in registers

module _ (rels : ℕ) (t : State) (env : Env) (ps : Places) (all : AllAt rels t (register t) env ps) where
  bound-args : (j : ℕ) (xs : List ℕ) (g : Env) → Ready j xs ps → bindings_of xs env ≡ Some g → Args rels t j (values_in g)
  bound-args j [] g ready e = subst (λ (z : Env). Args rels t j (values_in z)) (some-same e) tt
  bound-args j (x ∷ xs) g ready e = pick (look x env) refl (bindings_of xs env) refl (λ g f. bound-args (suc j) xs g ready.1 f) e
    where
      one : Value → Binding
      one v = record { var = x; value = v }

      pick : (o : Option Value) → look x env ≡ o → (r : Option Env) → bindings_of xs env ≡ r → ((g : Env) → bindings_of xs env ≡ Some g → Args rels t (suc j) (values_in g)) → with_first (option_map one o) r ≡ Some g → Args rels t j (values_in g)
      pick None d r f go h = none-some _ h
      pick (Some v) d None f go h = none-some _ h
      pick (Some v) d (Some rest) f go h = subst (λ (z : Env). Args rels t j (values_in z)) (some-same h) (all x (in_register j) v ready.0 d, go rest f)

  pub values-args : (xs : List ℕ) (vs : List Value) → Ready 0 xs ps → values_of xs env ≡ Some vs → Args rels t 0 vs
  values-args xs vs ready e = pick (bindings_of xs env) refl e
    where
      pick : (o : Option Env) → bindings_of xs env ≡ o → option_map values_in o ≡ Some vs → Args rels t 0 vs
      pick None d h = none-some _ h
      pick (Some g) d h = subst (λ z. Args rels t 0 z) (some-same h) (bound-args 0 xs g ready d)

module _ (vals : Vals) (calls : RelationActs) (rels registers : ℕ) (constants : ℕ → Option Value) (blocks : List (List Instr)) where
  abbrev M : ℕ → Layout → Scope → Env → Store → State → Type 0
  M = Meets vals calls rels registers constants blocks

  abbrev Ch : ℕ → List Cell → ℕ → State → List (Option Continuation) → (Continuation → Option Rest) → Type 0
  Ch = Chain rels registers constants blocks

  -- the last failure has another name
  pub renamed-chain : (i j : ℕ) (frames : List Cell) (address : ℕ) (t : State) (h q : Continuation) (fs fs' : List (Option Continuation)) (scope scope' : Continuation → Option Rest) (other : Rest) → j ≤ i → scope h ≡ Some other
      → ((go : Rest) → scope' q ≡ Some go → other ≡ go) → ((frame : List Cell) (at : ℕ) → Ch i frame at t fs scope → Ch j frame at t fs' scope') → Ch i frames address t (Some h ∷ fs) scope → Ch j frames address t (Some q ∷ fs') scope'
  renamed-chain i j frames address t h q fs fs' scope scope' other le is same tail c =
      let a = c.1 in (
        c.0,
        record {
          above = a.above;
          is = a.is;
          address_is = a.address_is;
          label = a.label;
          labelled = a.labelled;
          kept = a.kept;
          keeps = a.keeps;
          before = a.before;
          stands = λ r go e d.
              let named : q ≡ r = some-same e in
              let so : other ≡ go = same go (ap scope' named ∙ d) in
              subst (λ (z : Rest). FailureStands rels registers constants blocks j c.0 a.label t z) so
              (failure-later rels registers constants blocks i j c.0 a.label t t other le (later-same t) (a.stands h other refl is));
        },
        tail c.0 a.kept.failure c.2,
      )

  -- ---- an answer, a failure, a call

  pub answer-rule : rule.AnswerRule vals calls rels registers constants blocks
  answer-rule at l spare is k xs rest ready ek = record {
    by = λ i called n le scope env store t m.
        let new : Rest = remains blocks n (instr.Answer ∷ is) t in
        let over : List Value → OnAnswer → Rest = λ vs go. step (go (record { values = vs; store = store })) in
        along-old i (credit spare) _ (block vals calls (stmt.Answer k xs ∷ rest) scope env store) new (λ s. line-Answer vals calls rest scope env store s k xs)
        (known i (credit spare) (values_of xs env) (λ vs. with_known (scope.success k) (over vs)) new
        (λ vs e. known i (credit spare) (scope.success k) (over vs) new
        (λ go d.
        let a = m.success k go ek d in
        let fits = m.sound.fits in
        along-new i (credit spare) (over vs go) (at_turn blocks a.stands.label t) new
        (λ s. by-Answer blocks n is t s a.stands.label (success-label-there rels registers constants blocks i t go (omega (arith, fits)) a))
        (turn-there blocks i spare (go (record { values = vs; store = store })) a.stands.label t
        (λ j lt. a.stands.by j lt t store (later-same t) m.sound a.above a.is a.address_is vs (values-args rels t env l.places m.places xs vs ready e))))));
  }

  -- the last failure frame stands for what follows
  pub fail-there : (i : ℕ) (l : Layout) (spare n : ℕ) (is : List Instr) (h : Continuation) (fs : List (Option Continuation)) (scope : Scope) (env : Env) (store : Store) (t : State) (go : Rest) → l.failures ≡ Some h ∷ fs → scope.failure h ≡ Some go
      → M i l scope env store t → Simulates i (credit spare) (step go) (remains blocks n (instr.Fail ∷ is) t)
  fail-there i l spare n is h fs scope env store t go eh d m =
      let c : Ch i t.heap.frames t.failure t (Some h ∷ fs) scope.failure = subst (λ z. Ch i t.heap.frames t.failure t z scope.failure) eh m.failures in
      let a = c.1 in
      let fits = m.sound.fits in
      let st : FailureStands rels registers constants blocks i c.0 a.label t go = a.stands h go refl d in
      along-new i (credit spare) (step go) (at_turn blocks a.label t) (remains blocks n (instr.Fail ∷ is) t)
      (λ s. by-Fail blocks n is t s a.label (failure-label-there rels registers constants blocks i t (Some h) scope.failure c.0 (omega (arith, fits)) a))
      (turn-there blocks i spare go a.label t (λ j lt. st.by j lt t store (later-same t) m.sound a.above a.is a.address_is))

  pub fail-rule : rule.FailRule vals calls rels registers constants blocks
  fail-rule at l spare is h fs rest eh = record {
    by = λ i called n le scope env store t m.
        let new : Rest = remains blocks n (instr.Fail ∷ is) t in
        along-old i (credit spare) (with_known (scope.failure h) step) (block vals calls (stmt.Fail h ∷ rest) scope env store) new (λ s. line-Fail vals calls rest scope env store s h)
        (known i (credit spare) (scope.failure h) step new (λ go d. fail-there i l spare n is h fs scope env store t go eh d m));
  }

  -- a relation is called, by its number
  pub called-there : (i : ℕ) (l : Layout) (spare f : ℕ) (k h : Continuation) (fs : List (Option Continuation)) (vs : List Value) (scope : Scope) (env : Env) (store : Store) (t : State) (go : OnAnswer) (other : Rest) → f < rels
      → l.success ≡ Some k → l.failures ≡ Some h ∷ fs → scope.success k ≡ Some go → scope.failure h ≡ Some other → Args rels t 0 vs → Called vals calls rels registers constants blocks i → M i l scope env store t
      → Simulates i (credit spare) (step (calls f go other (record { values = vs; store = store }))) (at_turn blocks (2 + f) t)
  called-there i l spare f k h fs vs scope env store t go other small ek eh d e args called m =
      let c : Ch i t.heap.frames t.failure t (Some h ∷ fs) scope.failure = subst (λ z. Ch i t.heap.frames t.failure t z scope.failure) eh m.failures in
      turn-there blocks i spare (calls f go other (record { values = vs; store = store })) (2 + f) t
      (λ j lt.
      called.by f j small lt vs store go other t m.sound args
      (success-at-later rels registers constants blocks i j [] t.heap.frames t.success t t go (omega arith) (later-same t) (m.success k go ek d))
      (renamed-chain i j t.heap.frames t.failure t h continuation.Own fs [] scope.failure (own_failure other) other (omega arith) e (λ z is. some-same is) (λ frame at z. tt) c))

  pub call-rule : rule.CallRule vals calls rels registers constants blocks
  call-rule at l spare is f xs k h fs rest small ready ek eh = record {
    by = λ i called n le scope env store t m.
        let new : Rest = remains blocks n (instr.Call (2 + f) ∷ is) t in
        let last : List Value → OnAnswer → Rest → Rest = λ vs go other. call calls (relation_of (callee.Rel f) env) go other (record { values = vs; store = store }) in
        let middle : List Value → OnAnswer → Rest = λ vs go. with_known (scope.failure h) (last vs go) in
        along i (credit spare) _ (block vals calls (stmt.Call (callee.Rel f) xs k h ∷ rest) scope env store) (at_turn blocks (2 + f) t) new
        (λ s. line-Call vals calls rest scope env store s (callee.Rel f) xs k h) (λ s. by-Call blocks n is t s (2 + f))
        (known i (credit spare) (values_of xs env) (λ vs. with_known (scope.success k) (middle vs)) (at_turn blocks (2 + f) t)
        (λ vs e. known i (credit spare) (scope.success k) (middle vs) (at_turn blocks (2 + f) t)
        (λ go d. known i (credit spare) (scope.failure h) (last vs go) (at_turn blocks (2 + f) t)
        (λ other o. called-there i l spare f k h fs vs scope env store t go other small ek eh d o (values-args rels t env l.places m.places xs vs ready e) called m))));
  }

  -- ---- a jump to a body

  no-others : (scope : Scope) (was : Scope) (q : ℕ) (does : Rest) (fs : List (Option Continuation)) → ((c : Continuation) (go : Rest) → was.failure c ≡ Some go → scope.failure c ≡ Some go) → NotAmong (continuation.Named q) fs
      → FromScope rels registers constants blocks scope.failure (with_failure q does was).failure fs
  no-others scope was q does [] w ne = tt
  no-others scope was q does (f ∷ fs) w ne = (λ c go e d. w c go (less-named q does was.failure c go (λ z. ne.0 (e ∙ ap Some z)) d), no-others scope was q does fs w ne.1)

  handed-meets : (i : ℕ) (l inner : Layout) (p : Joint) (xs : List ℕ) (h : Continuation) (fs : List (Option Continuation)) (vs : List Value) (scope : Scope) (env env' : Env) (store : Store) (t : State) (other : Rest) → (m : M i l scope env store t) → Handed l p xs fs inner → p.time < l.time → Covers p.names (m.past p.time)
      → l.failures ≡ Some h ∷ fs → scope.failure h ≡ Some other → Args rels t 0 vs → bind_all p.params vs (m.past p.time).env ≡ Some env'
      → M i inner (with_failure p.handed other (m.past p.time).scope) env' store t
  handed-meets i l inner p xs h fs vs scope env env' store t other m hd early covers eh d args e =
      let was : Then = m.past p.time in
      let w : Within was (record { scope = scope; env = env }) = m.now p.time early in
      let c : Ch i t.heap.frames t.failure t (Some h ∷ fs) scope.failure = subst (λ z. Ch i t.heap.frames t.failure t z scope.failure) eh m.failures in
      let now : Scope = with_failure p.handed other was.scope in
      let top : List (Option Continuation) = Some (continuation.Named p.handed) ∷ fs in
      let first : Layout = record inner { names = p.names; places = hd.old_places; failures = [] } in
      let b : Before l p.time first = record { time = hd.before.time; success = hd.before.success; pending = hd.before.pending; joints = hd.before.joints } in
      let m0 : M i first was.scope was.env store t =
      meets-back vals calls rels registers constants blocks i l scope env store t m i p.time first t store (omega arith) early (later-same t) refl refl m.sound covers b tt
      (λ x q v has z. m.places x q v (hd.old x q has) (w.variables x v z)) (λ q o z. none-some _ (sym (hd.delayed q) ∙ z))
      in
      let chain : Ch i t.heap.frames t.failure t top now.failure =
      renamed-chain i i t.heap.frames t.failure t h (continuation.Named p.handed) fs fs scope.failure now.failure other (omega arith) d (λ go z. new-named p.handed other go was.scope.failure z)
      (λ frame at z. chain-later rels registers constants blocks i i [] frame at t t fs scope.failure now.failure (omega arith) (later-same t) (no-others scope was.scope p.handed other fs w.failures hd.others) z) c
      in
      let more : Names = record p.names { failures = with_entry p.handed true p.names.failures } in
      let m1 : M i (record first { names = more; failures = top }) now was.env store t =
      meets-handed vals calls rels registers constants blocks i first was.scope was.env store t p.handed other top hd.new_failure hd.delayed chain m0
      in
      let m2 : M i (record inner { names = with_variables p.params more; places = in_order 0 p.params hd.old_places; failures = top }) now env' store t =
      meets-received vals calls rels registers constants blocks i 0 p.params vs (record first { names = more; failures = top }) now was.env env' store t e hd.fresh args m1
      in
      subst (λ (z : List (Option Continuation)). M i (record inner { failures = z }) now env' store t) (sym hd.failures)
      (subst (λ (z : Places). M i (record inner { places = z; failures = top }) now env' store t) (sym hd.places)
      (subst (λ (z : Names). M i (record inner { names = z; places = in_order 0 p.params hd.old_places; failures = top }) now env' store t) (sym hd.names) m2))

  pub hand-rule : rule.HandRule vals calls rels registers constants blocks
  hand-rule at l spare is j xs h fs p to code inner rest ej eh lt there hd next = record {
    by = λ i called n le scope env store t m.
        let new : Rest = at_block blocks n to t in
        let w : ℕ = goto_weight (length xs) in
        let last : List Value → Jump → Rest → Rest = λ vs does failed. does (record { values = vs; store = store }) failed in
        let middle : List Value → Jump → Rest = λ vs does. with_known (scope.failure h) (last vs does) in
        let start : List Value → Rest = λ vs. with_known (scope.body j) (middle vs) in
        along i (credit spare) _ (block vals calls (stmt.Goto j xs h ∷ rest) scope env store) new (remains blocks n (instr.Goto to ∷ is) t)
        (λ s. line-Goto vals calls rest scope env store s j xs h) (λ s. by-Goto blocks n is t s to)
        (old_weigh i (credit spare) w (with_known (values_of xs env) start) new
        (known i (credit (w + spare)) (values_of xs env) start new
        (λ vs e. known i (credit (w + spare)) (scope.body j) (middle vs) new
        (λ does d. known i (credit (w + spare)) (scope.failure h) (last vs does) new
        (λ other o.
        let q = m.joints j p does ej d in
        let was : Then = m.past p.time in
        let now : Scope = with_failure p.handed other was.scope in
        let go : Env → Rest = λ env'. block vals calls p.body now env' store in
        subst (λ (f : Jump). Simulates i (credit (w + spare)) (f (record { values = vs; store = store }) other) new) (sym q.is)
        (known i (credit (w + spare)) (bind_all p.params vs was.env) go new
        (λ env' b. jump-there blocks i (credit (w + spare)) (go env') n at to code t le lt there
        (λ less more. next.by i called less more now env' store t
        (handed-meets i l inner p xs h fs vs scope env env' store t other m hd q.earlier q.covers eh o (values-args rels t env l.places m.places xs vs hd.ready e) b)))))))));
  }
