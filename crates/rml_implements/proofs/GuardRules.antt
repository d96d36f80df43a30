-- The rule of failure frames: one is pushed, and its label goes back to what was there.
use Rattle.std.proofs.Common.{◌≡◌, ℕ, suc, ◌+◌, ◌-◌, ◌<◌, ◌≤◌, Bool, true, false, List, [], ◌∷◌, ◌++◌, length, take, drop, Option, Some, None, refl, sym, ap, ◌∙◌, subst, arith, length-append, append-nil}
use Rattle.std.specs.Prelude.{pos, ◌^◌, ◌&&◌, nat_le, nat_lt, if◌then◌else◌, option_and_then, slice_index_or}
use Rattle.std.specs.List.{AllByRecursion, list_all}
use Rattle.std.proofs.lemmas.Bool.{le-leb, lt-ltb}
use Rattle.std.proofs.Math.Seq.{drop-append_seam}
use Rattle.rml_base.specs.Run.{Rest}
use Rattle.rml_simulation.specs.Simulates.{nothing, Simulates}
use Rattle.rml_value.specs.declared.value.Value.{Value}
use Rattle.rml_builtin.specs.Applied.{Store}
use Rattle.rml_terms.specs.Env.{Env}
use Rattle.rml_fol.specs.Expressions.{Vals}
use Rattle.rml_cps.specs.declared.statements.Continuation.TheVariants as continuation
use Rattle.rml_cps.specs.Weights.{entry_weight}
use Rattle.rml_cps.specs.Statements.{RelationActs, Scope, block}
use Rattle.rml_heap.specs.declared.cell.Cell.{Cell}
use Rattle.rml_heap.specs.HeapState.{free_cell}
use Rattle.rml_heap.specs.Form.{address}
use Rattle.rml_code.specs.declared.instructions.Instr.{Instr}
use Rattle.rml_code.specs.declared.instructions.Instr.TheVariants as instr
use Rattle.rml_code.specs.declared.state.State.{State}
use Rattle.rml_code.specs.Frames.{register, registers_of, loaded, failure_frame, Failure, failure_at}
use Rattle.rml_code.specs.Effects.{guards, retried, is_before}
use Rattle.rml_code.specs.Remaining.{remains, at_block, weigh_if_room}
use Rattle.rml_code.proofs.Callers.{by-Guard, by-Retry, failure-there}
use Rattle.rml_trail.proofs.Callers.{future-restored, future-same}
use Rattle.rml_trail.specs.TrailState.{unset_all}
use Rattle.rml_implements.specs.Layout.{from_frame, Delayed, Layout, Retried}
use Rattle.rml_implements.specs.World.{credit, names_at, set_in, moment, Later, StandsFor, Sound, FailureStands, Chain, Then, Within, Covers, IsDelayed, Meets}
use Rattle.rml_implements.specs.Implements.{Called}
use Rattle.rml_implements.specs.Rules as rule
use Rattle.rml_implements.proofs.Runs.{along-new, room-there, entry-weighs, block-there}
use Rattle.rml_implements.proofs.Values.{later-then, later-longer, stands-later, leads-later}
use Rattle.rml_implements.proofs.Places.{some-same, loaded-length, at-moved, at-frame}
use Rattle.rml_implements.proofs.Frames.{success-at-later, chain-later, from-within}
use Rattle.rml_implements.proofs.Meetings.{meets-back}
use Rattle.rml_implements.proofs.Reframed.{later-reframed, meets-reframed}
use Rattle.rml_implements.proofs.FrameRules.{loaded-small, saved-length, called-below}
use Rattle.rml_heap.specs.Form.{form_of}
use Rattle.rml_implements.specs.Given.{lvars_from, is_lvar}

address-is : (n : ℕ) → n < 2 ^ 32 → address (pos n) ≡ n
address-is n small = ap (λ b. if b then n else 4_294_967_295) (lt-ltb n (2 ^ 32) small)

all-below : (n : ℕ) (es : List ℕ) → AllByRecursion (λ e. e < n) es → list_all (λ e. nat_lt e n) es ≡ true
all-below n [] all = refl
all-below n (e ∷ es) all = ap (λ b. b && list_all (λ x. nat_lt x n) es) (lt-ltb e n all.0) ∙ all-below n es all.1

set-count : (store : Store) → set_in store ≤ length store
set-count [] = omega arith
set-count (None ∷ store) = let h = set-count store in omega (arith, h)
set-count (Some v ∷ store) = let h = set-count store in omega (arith, h)

lvars-count : (at : ℕ) (cells : List Cell) → length (lvars_from at cells) ≤ length cells
lvars-count at [] = omega arith
lvars-count at (c ∷ cells) = pick (is_lvar (form_of c)) (lvars-count (suc at) cells)
  where
    pick : (b : Bool) → length (lvars_from (suc at) cells) ≤ length cells → length (if b then at ∷ lvars_from (suc at) cells else lvars_from (suc at) cells) ≤ suc (length cells)
    pick true h = omega (arith, h)
    pick false h = omega (arith, h)

-- the state behind a label, with these values and entries
abbrev gone_back : List ℕ → List Cell → List Cell → List ℕ → List Cell → State → State → State
gone_back rs saved values entries frames s t = record t {
  registers = loaded rs saved t.registers;
  heap = record t.heap { values = values; frames = frames };
  trail = record t.trail { entries = entries };
  success = s.success;
  failure = s.failure;
}

module _ (vals : Vals) (calls : RelationActs) (rels registers : ℕ) (constants : ℕ → Option Value) (blocks : List (List Instr)) where
  abbrev M : ℕ → Layout → Scope → Env → Store → State → Type 0
  M = Meets vals calls rels registers constants blocks

  module _ (ss rs : List ℕ) (t v : State) (store : Store) (later : Later t v) (sound : Sound rels registers constants t store) where
    abbrev saved : List Cell
    saved = registers_of ss t ++ t.heap.frames

    abbrev back : State
    back = gone_back rs saved t.heap.values t.trail.entries t.heap.frames t v

    back-later : Later t back
    back-later = record { future = future-same (moment t); more = []; names = sym (append-nil (names_at t)); constants = later.constants; limit = later.limit; registers = loaded-length rs saved v.registers ∙ later.registers }

    back-sound : Sound rels registers constants back store
    back-sound = record {
      binds = sound.binds;
      entries = sound.entries;
      few = sound.few;
      fits = let e = later.limit in let h = sound.fits in omega (arith, e, h);
      narrow = let e = later.limit in let h = sound.narrow in omega (arith, e, h);
      success = let e = later.limit in let h = sound.success in omega (arith, e, h);
      failure = let e = later.limit in let h = sound.failure in omega (arith, e, h);
      registers_are = loaded-length rs saved v.registers ∙ later.registers ∙ sound.registers_are;
      constants_are = λ i u e. subst (λ (cs : List Cell). StandsFor rels back (slice_index_or cs i free_cell) u) (sym later.constants) (stands-later rels t back back-later _ u (sound.constants_are i u e));
      there = sound.there;
    }

    -- how many entries there are
    entries-few : length t.trail.entries ≤ length t.heap.values
    entries-few =
        let a = sound.few in
        let b = set-count store in
        let c = sound.binds.long in
        let d = lvars-count 0 t.heap.values in
        omega (arith, a, b, c, d)

    retry-there : (label : ℕ) (above : List Cell) → length rs ≡ length ss → length v.heap.frames ≤ v.heap.limit
        → v.heap.frames ≡ above ++ (failure_frame label (registers_of ss t) t ++ t.heap.frames) → v.failure ≡ v.heap.limit - length (failure_frame label (registers_of ss t) t ++ t.heap.frames)
        → option_and_then (retried rs v) (failure_at v.failure v.heap) ≡ Some back
    retry-there label above same fits is at =
        let mark : ℕ = length t.trail.entries in
        let top : ℕ = length t.heap.values in
        let kept : Failure = record { mark = mark; top = top; success = t.success; failure = t.failure; rest = saved } in
        let h = sound.fits in
        let narrow = sound.narrow in
        let k = sound.success in
        let f = sound.failure in
        let n = entries-few in
        let frame : failure_at v.failure v.heap ≡ Some kept =
        ap (λ z. failure_at z v.heap) at ∙ failure-there v.heap above (registers_of ss t) t.heap.frames label t (omega (arith, n, h, narrow)) (omega (arith, h, narrow)) (omega (arith, k, narrow)) (omega (arith, f, narrow)) is fits
        in
        let long : length saved ≡ length (registers_of ss t) + length t.heap.frames = length-append (registers_of ss t) t.heap.frames in
        let count : length (registers_of ss t) ≡ length ss = saved-length ss t in
        let enough : nat_le (length rs) (length saved) ≡ true = le-leb (length rs) (length saved) (omega (arith, long, count, same)) in
        let size : length rs ≡ length (registers_of ss t) = same ∙ sym count in
        let rest : drop (length rs) saved ≡ t.heap.frames = ap (λ z. drop z saved) size ∙ drop-append_seam (registers_of ss t) t.heap.frames in
        let restored = future-restored (moment t) (moment v) later.future in
        let entries : take mark v.trail.entries ≡ t.trail.entries = restored.0 in
        let values : take top (unset_all (drop mark v.trail.entries) v.heap.values) ≡ t.heap.values = restored.1 in
        let more : length v.trail.entries ≡ mark + length later.future.more = ap length later.future.entries ∙ length-append t.trail.entries later.future.more in
        let longer = later-longer t v later in
        let one : nat_le mark (length v.trail.entries) ≡ true = le-leb mark (length v.trail.entries) (omega (arith, more)) in
        let two : nat_le top (length v.heap.values) ≡ true = le-leb top (length v.heap.values) longer in
        let three : list_all (λ e. nat_lt e top) (take mark v.trail.entries) ≡ true = ap (λ es. list_all (λ e. nat_lt e top) es) entries ∙ all-below top t.trail.entries sound.entries in
        let before : is_before kept v ≡ true =
        ap (λ b. b && nat_le top (length v.heap.values) && list_all (λ e. nat_lt e top) (take mark v.trail.entries)) one ∙ ap (λ b. true && b && list_all (λ e. nat_lt e top) (take mark v.trail.entries)) two ∙ three
        in
        let now : List Cell = take top (unset_all (drop mark v.trail.entries) v.heap.values) in
        let set : List ℕ = take mark v.trail.entries in
        let cut : List Cell = drop (length rs) saved in
        ap (λ o. option_and_then (retried rs v) o) frame
        ∙ ap (λ b. if b then (if is_before kept v then Some (gone_back rs saved now set cut t v) else None) else None) enough
        ∙ ap (λ b. if b then Some (gone_back rs saved now set cut t v) else None) before
        ∙ ap (λ z. Some (gone_back rs saved z set cut t v)) values ∙ ap (λ z. Some (gone_back rs saved t.heap.values z cut t v)) entries ∙ ap (λ z. Some (gone_back rs saved t.heap.values t.trail.entries z t v)) rest

  retried-meets : (i j : ℕ) (l inner : Layout) (p : Delayed) (rs ss : List ℕ) (scope : Scope) (env : Env) (store : Store) (t v : State) → j ≤ i → (m : M i l scope env store t) → Retried l p rs ss inner → AllByRecursion (λ r. r < registers) rs
      → p.time < l.time → Covers p.names (m.past p.time) → Later t v → M j inner (m.past p.time).scope (m.past p.time).env store (gone_back rs (registers_of ss t ++ t.heap.frames) t.heap.values t.trail.entries t.heap.frames t v)
  retried-meets i j l inner p rs ss scope env store t v le m rd small early covers later =
      let was : Then = m.past p.time in
      let w : Within was (record { scope = scope; env = env }) = m.now p.time early in
      let u : State = gone_back rs (registers_of ss t ++ t.heap.frames) t.heap.values t.trail.entries t.heap.frames t v in
      let over : Later t u = back-later ss rs t v store later m.sound in
      let count = m.sound.registers_are in
      let same = later.registers in
      meets-back vals calls rels registers constants blocks i l scope env store t m j p.time inner u store le early over refl refl (back-sound ss rs t v store later m.sound)
      (subst (λ n. Covers n was) (sym rd.names) covers) rd.before
      (subst (λ fs. Chain rels registers constants blocks j t.heap.frames t.failure u fs was.scope.failure) (sym rd.failures)
      (chain-later rels registers constants blocks i j [] t.heap.frames t.failure t u l.failures scope.failure was.scope.failure le over (from-within rels registers constants blocks scope.failure was.scope.failure l.failures w.failures) m.failures))
      (at-moved rels u (from_frame rs ss) l.places inner.places was.env (register t) (register u)
      (λ x a q h d. at-frame rels u (register t) rs ss t.heap.frames v.registers x a q rd.apart (λ r some. let z = loaded-small registers rs ss r small some in omega (arith, z, count, same)) h d) rd.moved
      (λ x q y has d. leads-later rels t u over y q.path (register t q.register) (m.places x q y has (w.variables x y d))))
      (λ q o z. let a = rd.delayed q o z in (a.0, a.1, refl))

  pub guard-rule : rule.GuardRule vals calls rels registers constants blocks
  guard-rule at l spare is body h p label rs ss inner code eh paid there small rd inside next = record {
    by = λ i called n le scope env store t m.
        let cells : List Cell = failure_frame label (registers_of ss t) t in
        let frames : List Cell = cells ++ t.heap.frames in
        let u : State = guards cells t in
        let place : ℕ = t.heap.limit - length frames in
        let later : Later t u = later-reframed frames t.success place t in
        let count : length (registers_of ss t) ≡ length ss = saved-length ss t in
        let long : length frames ≡ suc (suc (suc (suc (suc (length (registers_of ss t)))))) + length t.heap.frames = length-append cells t.heap.frames in
        let low = m.sound.failure in
        let narrow = m.sound.narrow in
        let same : address (pos t.failure) ≡ t.failure = address-is t.failure (omega (arith, low, narrow)) in
        along-new i (credit spare) (block vals calls body scope env store) (λ s. weigh_if_room (5 + length ss) t (remains blocks n is u s)) (remains blocks n (instr.Guard label ss ∷ is) t)
        (λ s. by-Guard blocks n is t s label ss)
        (room-there (5 + length ss) t i spare (block vals calls body scope env store) (remains blocks n is u) paid
        (λ room.
        next.by i called n le scope env store u
        (meets-reframed vals calls rels registers constants blocks i l l.success (Some (continuation.Named h) ∷ l.failures) scope env store frames t.success place t (omega (arith, room, long, count)) m.sound.success (omega arith)
        (λ c go e d. success-at-later rels registers constants blocks i i cells t.heap.frames t.success t u go (omega arith) later (m.success c go e d)) (
          frames,
          record {
            above = [];
            is = refl;
            address_is = refl;
            label = label;
            labelled = refl;
            kept = record { mark = address (pos (length t.trail.entries)); top = address (pos (length t.heap.values)); success = address (pos t.success); failure = address (pos t.failure); rest = registers_of ss t ++ t.heap.frames };
            keeps = refl;
            before = omega (arith, same, low);
            stands = λ c go e d. pushed i called scope env store t m go (m.delayed h p go eh (ap scope.failure (some-same e) ∙ d));
          },
          subst (λ z. Chain rels registers constants blocks i frames z u l.failures scope.failure) (sym same)
              (chain-later rels registers constants blocks i i cells t.heap.frames t.failure t u l.failures scope.failure scope.failure (omega arith) later
              (from-within rels registers constants blocks scope.failure scope.failure l.failures (λ q go e. e)) m.failures),
        ) m)));
  }
    where
      pushed : (i : ℕ) → Called vals calls rels registers constants blocks i → (scope : Scope) (env : Env) (store : Store) (t : State) → (m : M i l scope env store t) → (go : Rest) → IsDelayed vals calls p l.time (m.past p.time) store go
          → FailureStands rels registers constants blocks i (failure_frame label (registers_of ss t) t ++ t.heap.frames) label (guards (failure_frame label (registers_of ss t) t) t) go
      pushed i called scope env store t m go o = record {
        by = λ j lt v store' after sound above is' height.
            let frames : List Cell = failure_frame label (registers_of ss t) t ++ t.heap.frames in
            let was : Then = m.past p.time in
            let later : Later t v = later-then t (guards (failure_frame label (registers_of ss t) t) t) v (later-reframed frames t.success (t.heap.limit - length frames) t) after in
            let new : Rest = at_block blocks (length blocks) label v in
            let tail : Rest = block vals calls p.body was.scope was.env store in
            let fits = sound.fits in
            let r : State = gone_back rs (registers_of ss t ++ t.heap.frames) t.heap.values t.trail.entries t.heap.frames t v in
            subst (λ (f : Rest). Simulates j nothing f new) (sym o.is)
            (entry-weighs j (entry_weight 0) tail new
            (block-there blocks j (credit (entry_weight 0)) tail label (instr.Retry rs ∷ code) v there
            (λ n le.
            along-new j (credit (entry_weight 0)) tail (remains blocks n code r) (remains blocks n (instr.Retry rs ∷ code) v)
            (λ s. by-Retry blocks n code v s rs r (retry-there ss rs t v store later m.sound label above rd.lengths (omega (arith, fits)) is' height))
            (inside.by j (called-below vals calls rels registers constants blocks i j (omega (arith, lt)) called) n le was.scope was.env store r
            (retried-meets i j l inner p rs ss scope env store t v (omega (arith, lt)) m rd small o.earlier o.covers later)))));
      }
