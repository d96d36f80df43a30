-- A state whose frames, and the addresses of the last ones, changed, and values did not.
use Rattle.std.proofs.Common.{◌≡◌, ℕ, ◌+◌, ◌≤◌, List, length, Option, Some, refl}
use Rattle.rml_value.specs.declared.value.Value.{Value}
use Rattle.rml_builtin.specs.Applied.{Store}
use Rattle.rml_terms.specs.Env.{Env}
use Rattle.rml_fol.specs.Expressions.{Vals}
use Rattle.rml_cps.specs.declared.statements.Continuation.{Continuation}
use Rattle.rml_cps.specs.Statements.{OnAnswer, RelationActs, Scope}
use Rattle.rml_heap.specs.declared.cell.Cell.{Cell}
use Rattle.rml_code.specs.declared.instructions.Instr.{Instr}
use Rattle.rml_code.specs.declared.state.State.{State}
use Rattle.rml_code.specs.Frames.{register}
use Rattle.rml_implements.specs.Layout.{Layout}
use Rattle.rml_implements.specs.World.{Later, Sound, SuccessAt, Chain, Meets}
use Rattle.rml_implements.proofs.Values.{later-same, leads-later, stands-later}

abbrev pub reframed : List Cell → ℕ → ℕ → State → State
reframed frames success failure t = record t { heap = record t.heap { frames = frames }; success = success; failure = failure }

pub later-reframed : (frames : List Cell) (success failure : ℕ) (t : State) → Later t (reframed frames success failure t)
later-reframed frames success failure t = let s = later-same t in record { future = s.future; more = s.more; names = s.names; constants = refl; limit = refl; registers = refl }

module _ (vals : Vals) (calls : RelationActs) (rels registers : ℕ) (constants : ℕ → Option Value) (blocks : List (List Instr)) where
  pub sound-reframed : (frames : List Cell) (success failure : ℕ) (t : State) (store : Store) → length t.heap.values + length frames ≤ t.heap.limit → success ≤ t.heap.limit → failure ≤ t.heap.limit
      → Sound rels registers constants t store → Sound rels registers constants (reframed frames success failure t) store
  sound-reframed frames success failure t store fits k f h = record {
    binds = h.binds;
    entries = h.entries;
    few = h.few;
    fits = fits;
    narrow = h.narrow;
    success = k;
    failure = f;
    registers_are = h.registers_are;
    constants_are = λ i v e. stands-later rels t (reframed frames success failure t) (later-reframed frames success failure t) _ v (h.constants_are i v e);
    there = h.there;
  }

  pub meets-reframed : (i : ℕ) (l : Layout) (k : Option Continuation) (fs : List (Option Continuation)) (scope : Scope) (env : Env) (store : Store) (frames : List Cell) (success failure : ℕ) (t : State)
      → length t.heap.values + length frames ≤ t.heap.limit → success ≤ t.heap.limit → failure ≤ t.heap.limit
      → ((c : Continuation) (go : OnAnswer) → k ≡ Some c → scope.success c ≡ Some go → SuccessAt rels registers constants blocks i frames success (reframed frames success failure t) go)
      → Chain rels registers constants blocks i frames failure (reframed frames success failure t) fs scope.failure
      → Meets vals calls rels registers constants blocks i l scope env store t → Meets vals calls rels registers constants blocks i (record l { success = k; failures = fs }) scope env store (reframed frames success failure t)
  meets-reframed i l k fs scope env store frames success failure t fits small low answers chain m = record {
    sound = sound-reframed frames success failure t store fits small low m.sound;
    covers = m.covers;
    places = λ x p v h e. leads-later rels t (reframed frames success failure t) (later-reframed frames success failure t) v p.path (register t p.register) (m.places x p v h e);
    success = answers;
    failures = chain;
    past = m.past;
    now = m.now;
    rising = m.rising;
    pending = m.pending;
    joints = m.joints;
    delayed = m.delayed;
  }
