-- The rules of frames: one is pushed, and its label takes up what was saved.
use Rattle.std.proofs.Common.{◌≡◌, ◌≢◌, ℕ, suc, ◌+◌, ◌-◌, ◌<◌, ◌≤◌, true, List, [], ◌∷◌, ◌++◌, length, drop, Option, Some, None, refl, sym, ap, ◌∙◌, subst, arith, inl, inr, length-append}
use Rattle.std.specs.Prelude.{◌^◌, nat_le, if◌then◌else◌, option_and_then}
use Rattle.std.specs.List.{AllByRecursion}
use Rattle.std.proofs.lemmas.Bool.{le-leb}
use Rattle.std.proofs.lemmas.Bool.Decides.{eqb_tells}
use Rattle.std.proofs.lemmas.List.{length-map}
use Rattle.std.proofs.Math.Seq.{drop-append_seam}
use Rattle.rml_base.specs.Run.{Rest}
use Rattle.rml_simulation.specs.Simulates.{nothing, Simulates}
use Rattle.rml_value.specs.declared.value.Value.{Value}
use Rattle.rml_builtin.specs.Applied.{Store}
use Rattle.rml_terms.specs.Env.{Env, bind}
use Rattle.rml_fol.specs.Expressions.{Vals}
use Rattle.rml_fol.specs.Statements.{bind_all}
use Rattle.rml_cps.specs.declared.statements.Continuation.TheVariants as continuation
use Rattle.rml_cps.specs.Weights.{entry_weight}
use Rattle.rml_cps.specs.Statements.{OnAnswer, RelationActs, Scope, with_known, block}
use Rattle.rml_heap.specs.declared.cell.Cell.{Cell}
use Rattle.rml_code.specs.declared.instructions.Instr.{Instr}
use Rattle.rml_code.specs.declared.instructions.Instr.TheVariants as instr
use Rattle.rml_code.specs.declared.state.State.{State}
use Rattle.rml_code.specs.Frames.{register, registers_of, loaded, success_frame, success_at}
use Rattle.rml_code.specs.Effects.{saves, resumed}
use Rattle.rml_code.specs.Remaining.{remains, at_block, weigh_if_room}
use Rattle.rml_code.proofs.Callers.{by-Save, by-Resume, success-there}
use Rattle.rml_implements.specs.Layout.{Places, Names, with_variables, in_order, saved_as, from_frame, Pending, Layout, Before, Resumed}
use Rattle.rml_implements.specs.World.{credit, Later, StandsFor, Args, Sound, SuccessStands, Chain, Then, Within, Covers, IsPending, Meets}
use Rattle.rml_implements.specs.Implements.{Called}
use Rattle.rml_implements.specs.Rules as rule
use Rattle.rml_implements.proofs.Runs.{along-new, room-there, entry-weighs, block-there}
use Rattle.rml_implements.proofs.Values.{later-same, later-then, stands-later, leads-later}
use Rattle.rml_implements.proofs.Places.{some-same, none-some, AllAt, loaded-length, loaded-none, at-moved, at-frame}
use Rattle.rml_implements.proofs.Frames.{chain-later, from-within}
use Rattle.rml_implements.proofs.Meetings.{meets-back, meets-received}
use Rattle.rml_implements.proofs.Reframed.{later-reframed, meets-reframed}
use Rattle.rml_implements.proofs.Lines.{known}

-- ---- registers of a frame

pub loaded-small : (registers : ℕ) (rs ss : List ℕ) (r : ℕ) → AllByRecursion (λ x. x < registers) rs → saved_as rs ss r ≢ None → r < registers
loaded-small registers [] ss r all some = absurd (some refl)
loaded-small registers (x ∷ rs) [] r all some = absurd (some refl)
loaded-small registers (x ∷ rs) (s ∷ ss) r all some =
    elim (eqb_tells x r) [
      | inl same ↦ subst (λ z. z < registers) same.1 all.0
      | inr other ↦ loaded-small registers rs ss r all.1 (λ e. some (ap (λ b. if b then Some s else saved_as rs ss r) other.0 ∙ e))
    ]

bound-count : (xs : List ℕ) (vs : List Value) (env env' : Env) → bind_all xs vs env ≡ Some env' → length xs ≡ length vs
bound-count [] [] env env' e = refl
bound-count [] (v ∷ vs) env env' e = none-some _ e
bound-count (x ∷ xs) [] env env' e = none-some _ e
bound-count (x ∷ xs) (v ∷ vs) env env' e = ap suc (bound-count xs vs (bind x v env) env' e)

args-kept : (rels : ℕ) (s t : State) → Later s t → (j : ℕ) (vs : List Value) → ((x : ℕ) → x < j + length vs → register t x ≡ register s x) → Args rels s j vs → Args rels t j vs
args-kept rels s t h j [] same e = tt
args-kept rels s t h j (v ∷ vs) same e = (
  subst (λ c. StandsFor rels t c v) (sym (same j (omega arith))) (stands-later rels s t h (register s j) v e.0),
  args-kept rels s t h (suc j) vs (λ x lt. same x (omega (arith, lt))) e.1,
)

pub saved-length : (ss : List ℕ) (t : State) → length (registers_of ss t) ≡ length ss
saved-length ss t = length-map ss (register t)

-- the state behind a label
abbrev taken_up : List ℕ → List Cell → List Cell → State → State → State
taken_up rs saved frames s t = record t {
  registers = loaded rs saved t.registers;
  heap = record t.heap { frames = frames };
  success = s.success;
  failure = s.failure;
}

module _ (vals : Vals) (calls : RelationActs) (rels registers : ℕ) (constants : ℕ → Option Value) (blocks : List (List Instr)) where
  abbrev M : ℕ → Layout → Scope → Env → Store → State → Type 0
  M = Meets vals calls rels registers constants blocks

  pub called-below : (i j : ℕ) → j ≤ i → Called vals calls rels registers constants blocks i → Called vals calls rels registers constants blocks j
  called-below i j le c = record { by = λ f m small lt. c.by f m small (omega (arith, le, lt)) }

  -- ---- what was taken up of a success frame, that was pushed in state t, in a later state v

  module _ (ss rs : List ℕ) (t v : State) (store' : Store) (later : Later t v) (sound : Sound rels registers constants v store') where
    abbrev saved : List Cell
    saved = registers_of ss t ++ t.heap.frames

    abbrev up : State
    up = taken_up rs saved t.heap.frames t v

    up-later : Later v up
    up-later = let s = later-same v in record { future = s.future; more = s.more; names = s.names; constants = refl; limit = refl; registers = loaded-length rs saved v.registers }

    up-sound : length v.heap.values + length t.heap.frames ≤ v.heap.limit → t.success ≤ t.heap.limit → t.failure ≤ t.heap.limit → Sound rels registers constants up store'
    up-sound fits k f = record {
      binds = sound.binds;
      entries = sound.entries;
      few = sound.few;
      fits = fits;
      narrow = sound.narrow;
      success = let e = later.limit in omega (arith, k, e);
      failure = let e = later.limit in omega (arith, f, e);
      registers_are = loaded-length rs saved v.registers ∙ sound.registers_are;
      constants_are = λ i u e. stands-later rels v up up-later _ u (sound.constants_are i u e);
      there = sound.there;
    }

    -- the instruction leads there
    resume-there : (label : ℕ) (above : List Cell) → length rs ≡ length ss → t.success ≤ t.heap.limit → t.failure ≤ t.heap.limit → t.heap.limit < 2 ^ 32
        → v.heap.frames ≡ above ++ (success_frame label (registers_of ss t) t ++ t.heap.frames) → v.success ≡ v.heap.limit - length (success_frame label (registers_of ss t) t ++ t.heap.frames)
        → option_and_then (resumed rs v) (success_at v.success v.heap) ≡ Some up
    resume-there label above same k f narrow is at =
        let fits = sound.fits in
        let frame : success_at v.success v.heap ≡ Some (record { success = t.success; failure = t.failure; rest = saved }) =
        ap (λ n. success_at n v.heap) at ∙ success-there v.heap above (registers_of ss t) t.heap.frames label t (omega (arith, k, narrow)) (omega (arith, f, narrow)) is (omega (arith, fits))
        in
        let long : length saved ≡ length (registers_of ss t) + length t.heap.frames = length-append (registers_of ss t) t.heap.frames in
        let count : length (registers_of ss t) ≡ length ss = saved-length ss t in
        let enough : nat_le (length rs) (length saved) ≡ true = le-leb (length rs) (length saved) (omega (arith, long, count, same)) in
        let size : length rs ≡ length (registers_of ss t) = same ∙ sym count in
        let rest : drop (length rs) saved ≡ t.heap.frames = ap (λ n. drop n saved) size ∙ drop-append_seam (registers_of ss t) t.heap.frames in
        ap (λ o. option_and_then (resumed rs v) o) frame ∙ ap (λ b. if b then Some (taken_up rs saved (drop (length rs) saved) t v) else None) enough ∙ ap (λ fr. Some (taken_up rs saved fr t v)) rest

  resumed-meets : (i j : ℕ) (l inner : Layout) (p : Pending) (rs ss : List ℕ) (scope : Scope) (env env' : Env) (store store' : Store) (t v : State) (vs : List Value) → j ≤ i → (m : M i l scope env store t) → Resumed l p rs ss inner → AllByRecursion (λ r. r < registers) rs
      → p.time < l.time → Covers p.names (m.past p.time) → (later : Later t v) → (sound : Sound rels registers constants v store') → length v.heap.values + length t.heap.frames ≤ v.heap.limit → Args rels v 0 vs → bind_all p.params vs (m.past p.time).env ≡ Some env'
      → M j inner (m.past p.time).scope env' store' (taken_up rs (registers_of ss t ++ t.heap.frames) t.heap.frames t v)
  resumed-meets i j l inner p rs ss scope env env' store store' t v vs le m rd small early covers later sound fits args e =
      let was : Then = m.past p.time in
      let w : Within was (record { scope = scope; env = env }) = m.now p.time early in
      let u : State = taken_up rs (registers_of ss t ++ t.heap.frames) t.heap.frames t v in
      let on : Later v u = up-later ss rs t v store' later sound in
      let over : Later t u = later-then t v u later on in
      let good : Sound rels registers constants u store' = up-sound ss rs t v store' later sound fits m.sound.success m.sound.failure in
      let first : Layout = record inner { names = p.names; places = rd.old_places } in
      let b : Before l p.time first = record { time = rd.before.time; success = rd.before.success; pending = rd.before.pending; joints = rd.before.joints } in
      let count = sound.registers_are in
      let chain : Chain rels registers constants blocks j t.heap.frames t.failure u inner.failures was.scope.failure =
      subst (λ fs. Chain rels registers constants blocks j t.heap.frames t.failure u fs was.scope.failure) (sym rd.failures)
      (chain-later rels registers constants blocks i j [] t.heap.frames t.failure t u l.failures scope.failure was.scope.failure le over (from-within rels registers constants blocks scope.failure was.scope.failure l.failures w.failures) m.failures)
      in
      let places : AllAt rels u (register u) was.env rd.old_places =
      at-moved rels u (from_frame rs ss) l.places rd.old_places was.env (register t) (register u)
      (λ x a q h d. at-frame rels u (register t) rs ss t.heap.frames v.registers x a q rd.apart (λ r some. let z = loaded-small registers rs ss r small some in omega (arith, z, count)) h d) rd.moved
      (λ x q y has d. leads-later rels t u over y q.path (register t q.register) (m.places x q y has (w.variables x y d)))
      in
      let m0 : M j first was.scope was.env store' u =
      meets-back vals calls rels registers constants blocks i l scope env store t m j p.time first u store' le early over refl refl good covers b chain places (λ q o z. none-some _ (sym (rd.delayed q) ∙ z))
      in
      let n : length p.params ≡ length vs = bound-count p.params vs was.env env' e in
      let there : Args rels u 0 vs = args-kept rels v u on 0 vs (λ x lt. loaded-none (register t) rs ss t.heap.frames v.registers x rd.lengths (rd.results x (omega (arith, lt, n)))) args in
      let m1 : M j (record inner { names = with_variables p.params p.names; places = in_order 0 p.params rd.old_places }) was.scope env' store' u =
      meets-received vals calls rels registers constants blocks j 0 p.params vs first was.scope was.env env' store' u e rd.fresh there m0
      in
      subst (λ (z : Places). M j (record inner { places = z }) was.scope env' store' u) (sym rd.places)
      (subst (λ (z : Names). M j (record inner { names = z; places = in_order 0 p.params rd.old_places }) was.scope env' store' u) (sym rd.names) m1)

  pub save-rule : rule.SaveRule vals calls rels registers constants blocks
  save-rule at l spare is body k p label rs ss inner code ep paid there small rd inside next = record {
    by = λ i called n le scope env store t m.
        let cells : List Cell = success_frame label (registers_of ss t) t in
        let frames : List Cell = cells ++ t.heap.frames in
        let u : State = saves cells t in
        let count : length (registers_of ss t) ≡ length ss = saved-length ss t in
        let long : length frames ≡ suc (suc (suc (length (registers_of ss t)))) + length t.heap.frames = length-append cells t.heap.frames in
        along-new i (credit spare) (block vals calls body scope env store) (λ s. weigh_if_room (3 + length ss) t (remains blocks n is u s)) (remains blocks n (instr.Save label ss ∷ is) t)
        (λ s. by-Save blocks n is t s label ss)
        (room-there (3 + length ss) t i spare (block vals calls body scope env store) (remains blocks n is u) paid
        (λ room.
        next.by i called n le scope env store u
        (meets-reframed vals calls rels registers constants blocks i l (Some (continuation.Named k)) l.failures scope env store frames (t.heap.limit - length frames) t.failure t (omega (arith, room, long, count)) (omega arith) m.sound.failure
        (λ c go e d.
        let d' : scope.success (continuation.Named k) ≡ Some go = ap scope.success (some-same e) ∙ d in
        record { above = []; frame = frames; is = refl; address_is = refl; stands = pushed i called scope env store t m go (m.pending k p go ep d') })
        (chain-later rels registers constants blocks i i cells t.heap.frames t.failure t u l.failures scope.failure scope.failure (omega arith) (later-reframed frames (t.heap.limit - length frames) t.failure t)
        (from-within rels registers constants blocks scope.failure scope.failure l.failures (λ h go e. e)) m.failures) m)));
  }
    where
      pushed : (i : ℕ) → Called vals calls rels registers constants blocks i → (scope : Scope) (env : Env) (store : Store) (t : State) → (m : M i l scope env store t) → (go : OnAnswer) → IsPending vals calls p l.time (m.past p.time) go
          → SuccessStands rels registers constants blocks i (success_frame label (registers_of ss t) t ++ t.heap.frames) (saves (success_frame label (registers_of ss t) t) t) go
      pushed i called scope env store t m go o = record {
        label = label;
        labelled = refl;
        by = λ j lt v store' after sound above is' height vs args.
            let frames : List Cell = success_frame label (registers_of ss t) t ++ t.heap.frames in
            let was : Then = m.past p.time in
            let later : Later t v = later-then t (saves (success_frame label (registers_of ss t) t) t) v (later-reframed frames (t.heap.limit - length frames) t.failure t) after in
            let new : Rest = at_block blocks (length blocks) label v in
            let tail : Env → Rest = λ next. block vals calls p.body was.scope next store' in
            let fits = sound.fits in
            let whole : length v.heap.frames ≡ length above + length frames = ap length is' ∙ length-append above frames in
            let long : length frames ≡ length (success_frame label (registers_of ss t) t) + length t.heap.frames = length-append (success_frame label (registers_of ss t) t) t.heap.frames in
            subst (λ (f : OnAnswer). Simulates j nothing (f (record { values = vs; store = store' })) new) (sym o.is)
            (entry-weighs j (entry_weight (length p.params)) (with_known (bind_all p.params vs was.env) tail) new
            (known j (credit (entry_weight (length p.params))) (bind_all p.params vs was.env) tail new
            (λ env' e.
            let r : State = taken_up rs (registers_of ss t ++ t.heap.frames) t.heap.frames t v in
            block-there blocks j (credit (entry_weight (length p.params))) (tail env') label (instr.Resume rs ∷ code) v there
            (λ n le.
            along-new j (credit (entry_weight (length p.params))) (tail env') (remains blocks n code r) (remains blocks n (instr.Resume rs ∷ code) v)
            (λ s. by-Resume blocks n code v s rs r (resume-there ss rs t v store' later sound label above rd.lengths m.sound.success m.sound.failure m.sound.narrow is' height))
            (inside.by j (called-below i j (omega (arith, lt)) called) n le was.scope env' store' r
            (resumed-meets i j l inner p rs ss scope env env' store store' t v vs (omega (arith, lt)) m rd small o.earlier o.covers later sound (omega (arith, fits, whole, long)) args e))))));
      }
