-- What stands for what in a state of flat code, and what stays so. A continuation is the part of the stack that its frame begins. It is said
-- of that part alone, so nothing that was pushed later matters, and to cut the stack is free. What it needs of the values is said by
-- `Later`: all cells of then are as they were, once the trail is undone.
use Rattle.std.specs.Prelude.{◌≡◌, ℕ, suc, ◌+◌, ◌-◌, ◌^◌, ◌<◌, ◌≤◌, true, false, List, [], ◌∷◌, ◌++◌, length, Option, Some, None}
use Rattle.std.specs.List.{AllByRecursion}
use Rattle.rml_base.specs.Run.{Rest}
use Rattle.rml_simulation.specs.Simulates.{Credit, nothing, Simulates}
use Rattle.rml_value.specs.declared.value.Value.{Value}
use Rattle.rml_value.specs.declared.value.Value.TheVariants as value
use Rattle.rml_builtin.specs.Applied.{Store}
use Rattle.rml_terms.specs.Env.{Env, look}
use Rattle.rml_fol.specs.Expressions.{Vals}
use Rattle.rml_cps.specs.declared.statements.Continuation.{Continuation}
use Rattle.rml_cps.specs.declared.statements.Continuation.TheVariants as continuation
use Rattle.rml_cps.specs.Statements.{OnAnswer, Jump, RelationActs, Scope, success_of, failure_of, body_of, block}
use Rattle.rml_heap.specs.declared.cell.Cell.{Cell}
use Rattle.rml_heap.specs.Form as form
use Rattle.rml_heap.specs.Form.{Form, form_of}
use Rattle.rml_heap.specs.Reading.{cell_at, look as look_at, Stands}
use Rattle.rml_trail.specs.Future.{Store as Moment, Future}
use Rattle.rml_prims.specs.Binds.{Binds}
use Rattle.rml_code.specs.declared.instructions.Instr.{Instr}
use Rattle.rml_code.specs.declared.state.State.{State}
use Rattle.rml_code.specs.Frames.{register, constant, label_in, Failure, failure_in}
use Rattle.rml_code.specs.Effects.{parts_in}
use Rattle.rml_code.specs.Remaining.{at_block}
use Rattle.rml_implements.specs.Given.{lvars_in}
use Rattle.rml_implements.specs.Layout.{Place, Has, Names, Pending, Joint, Delayed, Layout}

abbrev pub credit : ℕ → Credit
credit w = record { steps = 0; made = 0; weighed = w }

-- ---- later states

-- the addresses of the logical variables, in the order of their numbers
abbrev pub names_at : State → List ℕ
names_at t = lvars_in t.heap.values

abbrev pub moment : State → Moment
moment t = record { cells = t.heap.values; entries = t.trail.entries }

pub record Later (s t : State) : Type 0 where
  pub future : Future (moment s) (moment t)
  pub more : List ℕ
  pub names : names_at t ≡ names_at s ++ more
  pub constants : t.constants ≡ s.constants
  pub limit : t.heap.limit ≡ s.heap.limit
  pub registers : length t.registers ≡ length s.registers

-- ---- values of one cell

abbrev pub word_value : Form → Option Value
word_value (form.Int i) = Some (value.Int i)
word_value (form.Char c) = Some (value.Char c)
word_value (form.Rel r) = Some (value.Rel r)
word_value (form.Con c) = Some (value.Con c [])
word_value _ = None

-- ---- values, where there are so many relations

-- the entries of a store that are set
abbrev pub set_in : Store → ℕ
set_in [] = 0
set_in (None ∷ store) = set_in store
set_in (Some v ∷ store) = suc (set_in store)

module _ (rels : ℕ) where
  -- a relation that it names is there
  abbrev pub IsThere : Cell → Type 0
  IsThere c = (r : ℕ) → form_of c ≡ form.Rel r → r < rels

  pub record StandsFor (t : State) (c : Cell) (v : Value) : Type 0 where
    pub stands : Stands t.heap.values (names_at t) (length t.heap.values) c v
    pub there : IsThere c

  -- the block at an address has this part, from 1
  pub record HasPart (t : State) (at i : ℕ) : Type 0 where
    pub first : 1 ≤ i
    pub last : i ≤ parts_in (form_of (look_at t.heap.values at))
    pub inside : at + i < length t.heap.values

  -- what a cell leads to along a path stands for a value
  abbrev pub Leads : State → Value → List ℕ → Cell → Type 0
  Leads t v [] c = StandsFor t c v
  Leads t v (i ∷ path) c = (at : ℕ) × (form_of c ≡ form.Block at) × HasPart t at i × Leads t v path (look_at t.heap.values (at + i))

  -- the registers from this one on stand for values
  abbrev pub Args : State → ℕ → List Value → Type 0
  Args t j [] = Unit {0}
  Args t j (v ∷ vs) = StandsFor t (register t j) v × Args t (suc j) vs

  -- The cells of a state stand for a store, the trail is of these cells, cells fit, and constants stand for what they are.
  pub record Sound (registers : ℕ) (constants : ℕ → Option Value) (t : State) (store : Store) : Type 0 where
    pub binds : Binds t.heap.values (names_at t) store
    pub entries : AllByRecursion (λ e. e < length t.heap.values) t.trail.entries
    pub few : length t.trail.entries ≤ set_in store
    pub fits : length t.heap.values + length t.heap.frames ≤ t.heap.limit
    pub narrow : t.heap.limit < 2 ^ 32
    pub success : t.success ≤ t.heap.limit
    pub failure : t.failure ≤ t.heap.limit
    pub registers_are : length t.registers ≡ registers
    pub constants_are : (i : ℕ) (v : Value) → constants i ≡ Some v → StandsFor t (constant t i) v
    pub there : (at : ℕ) → IsThere (cell_at t.heap.values at)

  -- ---- frames

  module _ (registers : ℕ) (constants : ℕ → Option Value) (blocks : List (List Instr)) where
    -- a frame, with all that was pushed before it, stands for what follows an answer, below i steps of the code
    pub record SuccessStands (i : ℕ) (frame : List Cell) (s : State) (go : OnAnswer) : Type 0 where
      pub label : ℕ
      pub labelled : label_in frame ≡ Some label
      pub by : (j : ℕ) → j < i → (t : State) (store : Store) → Later s t → Sound registers constants t store → (above : List Cell) → t.heap.frames ≡ above ++ frame → t.success ≡ t.heap.limit - length frame → (vs : List Value) → Args t 0 vs
          → Simulates j nothing (go (record { values = vs; store = store })) (at_block blocks (length blocks) label t)

    -- and for what follows a failure
    pub record FailureStands (i : ℕ) (frame : List Cell) (label : ℕ) (s : State) (go : Rest) : Type 0 where
      pub by : (j : ℕ) → j < i → (t : State) (store : Store) → Later s t → Sound registers constants t store → (above : List Cell) → t.heap.frames ≡ above ++ frame → t.failure ≡ t.heap.limit - length frame
          → Simulates j nothing go (at_block blocks (length blocks) label t)

    -- the frame at an address
    pub record SuccessAt (i : ℕ) (frames : List Cell) (address : ℕ) (s : State) (go : OnAnswer) : Type 0 where
      pub above : List Cell
      pub frame : List Cell
      pub is : frames ≡ above ++ frame
      pub address_is : address ≡ s.heap.limit - length frame
      pub stands : SuccessStands i frame s go

    pub record FailureAt (i : ℕ) (frames : List Cell) (address : ℕ) (s : State) (f : Option Continuation) (scope : Continuation → Option Rest) (frame : List Cell) : Type 0 where
      pub above : List Cell
      pub is : frames ≡ above ++ frame
      pub address_is : address ≡ s.heap.limit - length frame
      pub label : ℕ
      pub labelled : label_in frame ≡ Some label
      pub kept : Failure
      pub keeps : failure_in frame ≡ Some kept
      pub before : kept.failure ≤ s.heap.limit
      pub stands : (h : Continuation) (go : Rest) → f ≡ Some h → scope h ≡ Some go → FailureStands i frame label s go

    -- the last failure frame, the one that stood before it, and so on, as far as is known
    abbrev pub Chain : ℕ → List Cell → ℕ → State → List (Option Continuation) → (Continuation → Option Rest) → Type 0
    Chain i frames address s [] scope = Unit {0}
    Chain i frames address s (f ∷ fs) scope = (frame : List Cell) × (a : FailureAt i frames address s f scope frame) × Chain i frame a.kept.failure s fs scope

-- ---- what names stand for

-- what names stood for at some time
pub record Then : Type 0 where
  pub scope : Scope
  pub env : Env

-- what stands for something then stands for the same now
pub record Within (a b : Then) : Type 0 where
  pub variables : (x : ℕ) (v : Value) → look x a.env ≡ Some v → look x b.env ≡ Some v
  pub successes : (c : Continuation) (go : OnAnswer) → a.scope.success c ≡ Some go → b.scope.success c ≡ Some go
  pub failures : (c : Continuation) (go : Rest) → a.scope.failure c ≡ Some go → b.scope.failure c ≡ Some go
  pub bodies : (j : ℕ) (go : Jump) → a.scope.body j ≡ Some go → b.scope.body j ≡ Some go

-- what is taken of variables stands for a value, and what is not taken stands for nothing
pub record Covers (n : Names) (a : Then) : Type 0 where
  pub bound : (x : ℕ) → n.variables x ≡ true → (v : Value) × (look x a.env ≡ Some v)
  pub variables : (x : ℕ) → n.variables x ≡ false → look x a.env ≡ None
  pub successes : (k : ℕ) → n.successes k ≡ false → a.scope.success (continuation.Named k) ≡ None
  pub failures : (h : ℕ) → n.failures h ≡ false → a.scope.failure (continuation.Named h) ≡ None
  pub bodies : (j : ℕ) → n.bodies j ≡ false → a.scope.body j ≡ None

module _ (vals : Vals) (calls : RelationActs) where
  -- a success is its block over what names stood for where it was named; and so is a body, and a failure, which goes back to its store
  pub record IsPending (p : Pending) (time : ℕ) (then_was : Then) (go : OnAnswer) : Type 0 where
    pub is : go ≡ success_of p.params (block vals calls p.body) then_was.scope then_was.env
    pub covers : Covers p.names then_was
    pub earlier : p.time < time

  pub record IsJoint (p : Joint) (time : ℕ) (then_was : Then) (go : Jump) : Type 0 where
    pub is : go ≡ body_of p.params p.handed (block vals calls p.body) then_was.scope then_was.env
    pub covers : Covers p.names then_was
    pub earlier : p.time < time

  pub record IsDelayed (p : Delayed) (time : ℕ) (then_was : Then) (store : Store) (go : Rest) : Type 0 where
    pub is : go ≡ failure_of (block vals calls p.body) then_was.scope then_was.env store
    pub covers : Covers p.names then_was
    pub earlier : p.time < time

  module _ (rels registers : ℕ) (constants : ℕ → Option Value) (blocks : List (List Instr)) where
    -- what names stand for, and a state of the code, meet as the layout says
    pub record Meets (i : ℕ) (l : Layout) (scope : Scope) (env : Env) (store : Store) (t : State) : Type 0 where
      pub sound : Sound rels registers constants t store
      pub covers : Covers l.names (record { scope = scope; env = env })
      pub places : (x : ℕ) (p : Place) (v : Value) → Has l.places x p → look x env ≡ Some v → Leads rels t v p.path (register t p.register)
      pub success : (k : Continuation) (go : OnAnswer) → l.success ≡ Some k → scope.success k ≡ Some go → SuccessAt rels registers constants blocks i t.heap.frames t.success t go
      pub failures : Chain rels registers constants blocks i t.heap.frames t.failure t l.failures scope.failure
      -- what names stood for at each time so far
      pub past : ℕ → Then
      pub now : (n : ℕ) → n < l.time → Within (past n) (record { scope = scope; env = env })
      pub rising : (m n : ℕ) → m ≤ n → n < l.time → Within (past m) (past n)
      pub pending : (q : ℕ) (p : Pending) (go : OnAnswer) → l.pending q ≡ Some p → scope.success (continuation.Named q) ≡ Some go → IsPending p l.time (past p.time) go
      pub joints : (q : ℕ) (p : Joint) (go : Jump) → l.joints q ≡ Some p → scope.body q ≡ Some go → IsJoint p l.time (past p.time) go
      pub delayed : (q : ℕ) (p : Delayed) (go : Rest) → l.delayed q ≡ Some p → scope.failure (continuation.Named q) ≡ Some go → IsDelayed p l.time (past p.time) store go
