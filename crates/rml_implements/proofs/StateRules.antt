-- The rules of instructions alone.
use Rattle.std.proofs.Common.{ℕ, ◌+◌, List, [], ◌∷◌, Option, sym, subst, arith}
use Rattle.rml_value.specs.declared.value.Value.{Value}
use Rattle.rml_builtin.specs.Applied.{Store}
use Rattle.rml_terms.specs.Env.{Env}
use Rattle.rml_fol.specs.Expressions.{Vals}
use Rattle.rml_cps.specs.Statements.{RelationActs, Scope, block}
use Rattle.rml_heap.specs.declared.cell.Cell.{Cell}
use Rattle.rml_heap.specs.Reading.{look as look_at}
use Rattle.rml_code.specs.declared.instructions.Instr.{Instr}
use Rattle.rml_code.specs.declared.instructions.Instr.TheVariants as instr
use Rattle.rml_code.specs.declared.state.State.{State}
use Rattle.rml_code.specs.Frames.{register, put}
use Rattle.rml_code.specs.Remaining.{remains, at_block}
use Rattle.rml_code.proofs.Callers.{by-Move, by-Field, by-Drop, by-Goto}
use Rattle.rml_implements.specs.Layout.{Layout, moved, taken}
use Rattle.rml_implements.specs.World.{credit, Leads, Chain, Covers, Meets}
use Rattle.rml_implements.specs.Rules as rule
use Rattle.rml_implements.proofs.Runs.{along-new, jump-there, spend}
use Rattle.rml_implements.proofs.Values.{part-there}
use Rattle.rml_implements.proofs.Places.{at-moved, at-move, at-taken}
use Rattle.rml_implements.proofs.Frames.{chain-later, from-within, success-at-later, failure-kept-there}
use Rattle.rml_implements.proofs.Reframed.{reframed, later-reframed, meets-reframed}
use Rattle.rml_implements.proofs.Meetings.{meets-put}

module _ (vals : Vals) (calls : RelationActs) (rels registers : ℕ) (constants : ℕ → Option Value) (blocks : List (List Instr)) where
  abbrev M : ℕ → Layout → Scope → Env → Store → State → Type 0
  M = Meets vals calls rels registers constants blocks

  pub goto-rule : rule.GotoRule vals calls rels registers constants blocks
  goto-rule at l spare is body to code lt there next = record {
    by = λ i called k le scope env store t m.
        along-new i (credit spare) (block vals calls body scope env store) (at_block blocks k to t) (remains blocks k (instr.Goto to ∷ is) t) (λ n. by-Goto blocks k is t n to)
        (jump-there blocks i (credit spare) (block vals calls body scope env store) k at to code t le lt there (λ less more. next.by i called less more scope env store t m));
  }

  pub move-rule : rule.MoveRule vals calls rels registers constants blocks
  move-rule at l spare is body a b new small mv next = record {
    by = λ i called k le scope env store t m.
        let u : State = put a (register t b) t in
        let size = m.sound.registers_are in
        along-new i (credit spare) (block vals calls body scope env store) (remains blocks k is u) (remains blocks k (instr.Move a b ∷ is) t) (λ n. by-Move blocks k is t n a b)
        (next.by i called k le scope env store u
        (meets-put vals calls rels registers constants blocks i l new scope env store t a (register t b)
        (at-moved rels t (moved a b) l.places new env (register t) (register u) (λ v p q e h. at-move rels t t.registers a b v p q (omega (arith, small, size)) e h) mv m.places) m));
  }

  pub load-rule : rule.LoadRule vals calls rels registers constants blocks
  load-rule at l spare is body x a b i path new small taken_is has mv next = record {
    by = λ j called k le scope env store t m.
        let size = m.sound.registers_are in
        let known = m.covers.bound x taken_is in
        let leads : Leads rels t known.0 (i ∷ path) (register t b) = m.places x (record { register = b; path = i ∷ path }) known.0 has known.1 in
        let c : Cell = look_at t.heap.values (leads.0 + i) in
        let u : State = put a c t in
        along-new j (credit spare) (block vals calls body scope env store) (remains blocks k is u) (remains blocks k (instr.Field a b i ∷ is) t)
        (λ n. by-Field blocks k is t n a b i c (part-there rels t known.0 i path (register t b) leads))
        (next.by j called k le scope env store u
        (meets-put vals calls rels registers constants blocks j l new scope env store t a c
        (at-moved rels t (taken a b i) l.places new env (register t) (register u) (λ v p q e h. at-taken rels t t.registers a b i leads.0 leads.1 v p q (omega (arith, small, size)) e h) mv m.places) m));
  }

  pub fewer-rule : rule.FewerRule vals calls rels registers constants blocks
  fewer-rule at l new spare less is body le few next = record {
    by = λ i called k more scope env store t m.
        spend i i spare less (block vals calls body scope env store) (remains blocks k is t) (omega arith) le (next.by i called k more scope env store t (fewer i scope env store t m));
  }
    where
      fewer : (i : ℕ) (scope : Scope) (env : Env) (store : Store) (t : State) → M i l scope env store t → M i new scope env store t
      fewer i scope env store t m = record {
        sound = m.sound;
        covers = subst (λ n. Covers n (record { scope = scope; env = env })) (sym few.names) m.covers;
        places = λ x p v h e. m.places x p v (few.places x p h) e;
        success = λ k go e d. m.success k go (few.success k e) d;
        failures = subst (λ fs. Chain rels registers constants blocks i t.heap.frames t.failure t fs scope.failure) (sym few.failures) m.failures;
        past = m.past;
        now = λ n lt. let e = few.time in m.now n (omega (arith, lt, e));
        rising = λ n o low lt. let e = few.time in m.rising n o low (omega (arith, lt, e));
        pending = λ q p go e d. let o = m.pending q p go (few.pending q p e) d in let lt = o.earlier in let s = few.time in record { is = o.is; covers = o.covers; earlier = omega (arith, lt, s) };
        joints = λ q p go e d. let o = m.joints q p go (few.joints q p e) d in let lt = o.earlier in let s = few.time in record { is = o.is; covers = o.covers; earlier = omega (arith, lt, s) };
        delayed = λ q p go e d. let o = m.delayed q p go (few.delayed q p e) d in let lt = o.earlier in let s = few.time in record { is = o.is; covers = o.covers; earlier = omega (arith, lt, s) };
      }

  pub drop-rule : rule.DropRule vals calls rels registers constants blocks
  drop-rule at l spare is body f fs e next = record {
    by = λ i called k le scope env store t m.
        let c : Chain rels registers constants blocks i t.heap.frames t.failure t (f ∷ fs) scope.failure = subst (λ z. Chain rels registers constants blocks i t.heap.frames t.failure t z scope.failure) e m.failures in
        let a = c.1 in
        let fits = m.sound.fits in
        let u : State = reframed t.heap.frames t.success a.kept.failure t in
        let later = later-reframed t.heap.frames t.success a.kept.failure t in
        along-new i (credit spare) (block vals calls body scope env store) (remains blocks k is u) (remains blocks k (instr.Drop ∷ is) t)
        (λ n. by-Drop blocks k is t n a.kept (failure-kept-there rels registers constants blocks i t f scope.failure c.0 (omega (arith, fits)) a))
        (next.by i called k le scope env store u
        (meets-reframed vals calls rels registers constants blocks i l l.success fs scope env store t.heap.frames t.success a.kept.failure t fits m.sound.success a.before
        (λ c go d h. success-at-later rels registers constants blocks i i [] t.heap.frames t.success t u go (omega arith) later (m.success c go d h))
        (subst (λ fr. Chain rels registers constants blocks i fr a.kept.failure u fs scope.failure) (sym a.is)
        (chain-later rels registers constants blocks i i a.above c.0 a.kept.failure t u fs scope.failure scope.failure (omega arith) later (from-within rels registers constants blocks scope.failure scope.failure fs (λ h go d. d)) c.2)) m));
  }
