-- The limit of cells: no instruction changes it, and a run has no greater one than `MOST_CELLS`.
use Rattle.std.specs.Prelude.{ℕ, zero, suc, ◌≡◌, ◌+◌, ◌≤◌, ◌==◌, min, Bool, true, false, nat_le, if◌then◌else◌, List, [], ◌∷◌, ◌++◌, length, drop, Option, Some, None, Ok, Err, slice_get, option_and_then}
use Rattle.std.proofs.Common.{refl, ap, sym, ◌∙◌}
use Rattle.std.proofs.Math.Nat.{min-eq_left, min-eq_right}
use Rattle.rml_value.specs.Same.{same}
use Rattle.rml_builtin.specs.declared.row.TheConstants.{ROWS}
use Rattle.rml_builtin.specs.declared.row.Row.{Row}
use Rattle.rml_builtin.specs.declared.applied.Applied.{Applied}
use Rattle.rml_builtin.specs.declared.applied.Applied.TheVariants as applied
use Rattle.rml_builtin.specs.BuiltIns.{apply}
use Rattle.rml_heap.specs.declared.cell.Cell.{Cell}
use Rattle.rml_heap.specs.declared.heap.Full.{Full as Filled}
use Rattle.rml_heap.specs.declared.heap.TheConstants.{MOST_CELLS}
use Rattle.rml_heap.specs.HeapState.{HeapState, cells_used}
use Rattle.rml_heap.specs.Form.{form_of}
use Rattle.rml_heap.specs.Reading.{word_of}
use Rattle.rml_heap.specs.Text.{text_cells}
use Rattle.rml_prims.specs.Shapes.{block_cell, cons_head}
use Rattle.rml_prims.specs.Standing.{value_in, values_in, store_in}
use Rattle.rml_prims.specs.Taken.{cells_taken}
use Rattle.rml_prims.specs.Laid.{Results, results_laid}
use Rattle.rml_code.specs.declared.constants.Constant.{Constant}
use Rattle.rml_code.specs.declared.instructions.Else.{Else}
use Rattle.rml_code.specs.declared.instructions.Else.TheVariants as else
use Rattle.rml_code.specs.declared.instructions.Case.{Case}
use Rattle.rml_code.specs.declared.instructions.Halt.{Halt}
use Rattle.rml_code.specs.declared.instructions.Halt.TheVariants as halt
use Rattle.rml_code.specs.declared.instructions.Instr.{Instr}
use Rattle.rml_code.specs.declared.instructions.Instr.TheVariants as instr
use Rattle.rml_code.specs.declared.listing.Listing.{Listing}
use Rattle.rml_code.specs.declared.state.State.{State}
use Rattle.rml_code.specs.Frames.{register, put, registers_of, loaded, with_frame, success_frame, failure_frame, Success, Failure, success_at, failure_at, label_at}
use Rattle.rml_code.specs.Seen.{Seen, seen_in, asked, is_same, is_alike}
use Rattle.rml_code.specs.Stretch.{Next, Behind, Jump, Turn, Stop, Stretch, Answer as Answered, Full, goes, wrong, with_known, jump_at, turn_at, behind_at}
use Rattle.rml_code.specs.Effects.{behind, if_room, behind_with, otherwise, con_head, tuple_head, with_block, builds, part_of, saves, guards, resumed, taken_up, undone, is_before, retried, answered, ends_with, runs_row, chosen, switches, entry_in, effect}
use Rattle.rml_code.specs.Turns.{exec, enters, hops, turn, turns}
use Rattle.rml_code.specs.Opening.{Placing, then_place, if_fits, Placed, place, push, first_success, first_failure, first_frames, place_onto, place_arguments, constant_cells, Known, place_constants, started, opening}
use Rattle.rml_code.specs.Runs.{machine, run_of, runs_of}

-- ---- effects

-- a stretch ends with this limit
Keeps : ℕ → Stretch → Type 0
Keeps limit a = a.state.heap.limit ≡ limit

-- a state that may be there has it
HasLimit : ℕ → Option State → Type 0
HasLimit limit None = Unit {0}
HasLimit limit (Some t) = t.heap.limit ≡ limit

known-keeps : {A : Type 0} (o : Option A) (go : A → Stretch) (s : State) → ((x : A) → Keeps s.heap.limit (go x)) → Keeps s.heap.limit (with_known o go s)
unfolding Keeps
known-keeps None go s each = refl
known-keeps (Some x) go s each = each x

test-keeps : (limit : ℕ) (b : Bool) (x y : Stretch) → Keeps limit x → Keeps limit y → Keeps limit (if b then x else y)
test-keeps limit true x y h k = h
test-keeps limit false x y h k = k

room-keeps : (n : ℕ) (s : State) (x : Stretch) → Keeps s.heap.limit x → Keeps s.heap.limit (if_room n s x)
unfolding Keeps
room-keeps n s x h = test-keeps s.heap.limit (nat_le (cells_used s.heap + n) s.heap.limit) x (goes (Stop (Full (cells_used s.heap) n)) s) h refl

label-keeps : (address : ℕ) (s : State) → Keeps s.heap.limit (with_known (label_at address s.heap) (λ b. goes (Turn b) s) s)
unfolding Keeps
label-keeps address s = known-keeps (label_at address s.heap) (λ b. goes (Turn b) s) s (λ b. refl)

else-keeps : (e : Else) (s : State) → Keeps s.heap.limit (otherwise e s)
unfolding Keeps
else-keeps else.Fail s = label-keeps s.failure s
else-keeps (else.Block b) s = refl

-- a state that was taken up
taken-keeps : (o : Option State) (s : State) → HasLimit s.heap.limit o → Keeps s.heap.limit (with_known o behind s)
unfolding Keeps HasLimit
taken-keeps None s h = refl
taken-keeps (Some t) s h = h

test-has : (limit : ℕ) (b : Bool) (o : Option State) → HasLimit limit o → HasLimit limit (if b then o else None)
unfolding HasLimit
test-has limit true o h = h
test-has limit false o h = tt

resumed-has : (rs : List ℕ) (s : State) (o : Option Success) → HasLimit s.heap.limit (option_and_then (resumed rs s) o)
unfolding HasLimit
resumed-has rs s None = tt
resumed-has rs s (Some kept) =
    let t : State = record s { registers = loaded rs kept.rest s.registers; heap = record s.heap { frames = drop (length rs) kept.rest }; success = kept.success; failure = kept.failure } in
    test-has s.heap.limit (nat_le (length rs) (length kept.rest)) (Some t) refl

retried-has : (rs : List ℕ) (s : State) (o : Option Failure) → HasLimit s.heap.limit (option_and_then (retried rs s) o)
unfolding HasLimit
retried-has rs s None = tt
retried-has rs s (Some kept) =
    let t : State = taken_up rs kept (undone kept s) in
    test-has s.heap.limit (nat_le (length rs) (length kept.rest)) (if is_before kept s then Some t else None) (test-has s.heap.limit (is_before kept s) (Some t) refl)

-- built-ins
row-keeps : (ys : List ℕ) (row : Row) (inputs : List Cell) (e : Else) (a : Applied) (s : State) → Keeps s.heap.limit (ends_with ys row inputs e a s)
unfolding Keeps
row-keeps ys row inputs e (applied.Yes answer text) s =
    let laid : Results = results_laid row s.heap.values inputs answer.values in
    let gives : Stretch = answered ys row inputs answer text laid s in
    test-keeps s.heap.limit (length ys == length laid.cells) (if_room (cells_taken row answer.values) s gives) (wrong s) (room-keeps (cells_taken row answer.values) s gives refl) refl
row-keeps ys row inputs e applied.No s = else-keeps e s
row-keeps ys row inputs e applied.Wrong s = refl

-- choices
chosen-keeps : (seen : Seen) (cases : List Case) (e : Else) (s : State) → Keeps s.heap.limit (chosen seen cases e s)
unfolding Keeps
chosen-keeps seen [] e s = else-keeps e s
chosen-keeps seen (k ∷ cases) e s = test-keeps s.heap.limit (is_same seen (asked s k.tag)) (goes (Jump k.block) s) (chosen seen cases e s) refl (chosen-keeps seen cases e s)

switch-keeps : (cases : List Case) (e : Else) (s : State) (seen : Seen) → Keeps s.heap.limit (switches cases e s seen)
unfolding Keeps
switch-keeps [] e s seen = else-keeps e s
switch-keeps (k ∷ cases) e s seen = test-keeps s.heap.limit (is_alike seen (asked s k.tag)) (chosen seen (k ∷ cases) e s) (wrong s) (chosen-keeps seen (k ∷ cases) e s) refl

halt-keeps : (h : Halt) (s : State) → Keeps s.heap.limit (effect (instr.Halt h) s)
unfolding Keeps
halt-keeps halt.Yes s = refl
halt-keeps halt.Integer s = known-keeps (word_of (register s 0)) (λ i. goes (Stop (Answered (Some i))) s) s (λ i. refl)
halt-keeps halt.No s = refl

build-keeps : (a : ℕ) (cells : List Cell) (s : State) → Keeps s.heap.limit (builds a cells s)
unfolding Keeps
build-keeps a cells s = room-keeps (length cells) s (behind_with (length cells) (with_block a cells s)) refl

effect-keeps : (i : Instr) (s : State) → Keeps s.heap.limit (effect i s)
unfolding Keeps
effect-keeps (instr.Move a b) s = refl
effect-keeps (instr.Word a w) s = refl
effect-keeps (instr.Const a i) s = refl
effect-keeps (instr.Field a b i) s = known-keeps (part_of s.heap.values i (register s b)) (λ c. behind (put a c s)) s (λ c. refl)
effect-keeps (instr.Con a c rs) s = build-keeps a (con_head c (length rs) ∷ registers_of rs s) s
effect-keeps (instr.Tuple a rs) s = build-keeps a (tuple_head (length rs) ∷ registers_of rs s) s
effect-keeps (instr.Cons a b c) s = build-keeps a (cons_head ∷ register s b ∷ register s c ∷ []) s
effect-keeps (instr.Save b rs) s = room-keeps (3 + length rs) s (behind_with (3 + length rs) (saves (success_frame b (registers_of rs s) s) s)) refl
effect-keeps (instr.Guard b rs) s = room-keeps (5 + length rs) s (behind_with (5 + length rs) (guards (failure_frame b (registers_of rs s) s) s)) refl
effect-keeps (instr.Resume rs) s = taken-keeps (option_and_then (resumed rs s) (success_at s.success s.heap)) s (resumed-has rs s (success_at s.success s.heap))
effect-keeps (instr.Retry rs) s = taken-keeps (option_and_then (retried rs s) (failure_at s.failure s.heap)) s (retried-has rs s (failure_at s.failure s.heap))
effect-keeps instr.Drop s = known-keeps (failure_at s.failure s.heap) (λ (kept : Failure). behind (record s { failure = kept.failure })) s (λ kept. refl)
effect-keeps (instr.Builtin k rs ys e) s =
    let given : List Cell = registers_of rs s in
    known-keeps (slice_get ROWS k) (runs_row ys given e s) s (λ row.
    known-keeps (values_in s.heap.values given) (λ vs. with_known (store_in s.heap.values) (λ store. ends_with ys row given e (apply row vs store) s) s) s (λ vs.
    known-keeps (store_in s.heap.values) (λ store. ends_with ys row given e (apply row vs store) s) s (λ store.
    row-keeps ys row given e (apply row vs store) s)))
effect-keeps (instr.Equal a b e) s =
    known-keeps (value_in s.heap.values (register s a)) (λ v. with_known (value_in s.heap.values (register s b)) (λ w. if same v w then behind s else otherwise e s) s) s (λ v.
    known-keeps (value_in s.heap.values (register s b)) (λ w. if same v w then behind s else otherwise e s) s (λ w.
    test-keeps s.heap.limit (same v w) (behind s) (otherwise e s) refl (else-keeps e s)))
effect-keeps (instr.Switch a cases e) s = known-keeps (seen_in s.heap.values (register s a)) (switches cases e s) s (switch-keeps cases e s)
effect-keeps (instr.Goto b) s = refl
effect-keeps (instr.Call b) s = refl
effect-keeps (instr.CallRegister a) s = known-keeps (entry_in (form_of (register s a))) (λ b. goes (Turn b) s) s (λ b. refl)
effect-keeps instr.Answer s = label-keeps s.success s
effect-keeps instr.Fail s = label-keeps s.failure s
effect-keeps (instr.Halt h) s = halt-keeps h s

-- ---- turns

behind-keeps : (limit : ℕ) (next : Next) (a : Stretch) (go : State → Stretch) → Keeps limit a → ((s : State) → s.heap.limit ≡ limit → Keeps limit (go s)) → Keeps limit (behind_at next a go)
unfolding Keeps
behind-keeps limit Behind a go h each = each a.state h
behind-keeps limit (Jump b) a go h each = h
behind-keeps limit (Turn b) a go h each = h
behind-keeps limit (Stop e) a go h each = h

jump-keeps : (limit : ℕ) (next : Next) (a : Stretch) (go : ℕ → State → Stretch) → Keeps limit a → ((b : ℕ) (s : State) → s.heap.limit ≡ limit → Keeps limit (go b s)) → Keeps limit (jump_at next a go)
unfolding Keeps
jump-keeps limit Behind a go h each = h
jump-keeps limit (Jump b) a go h each = each b a.state h
jump-keeps limit (Turn b) a go h each = h
jump-keeps limit (Stop e) a go h each = h

turn-keeps : (limit : ℕ) (next : Next) (a : Stretch) (go : ℕ → State → Stretch) → Keeps limit a → ((b : ℕ) (s : State) → s.heap.limit ≡ limit → Keeps limit (go b s)) → Keeps limit (turn_at next a go)
unfolding Keeps
turn-keeps limit Behind a go h each = h
turn-keeps limit (Jump b) a go h each = h
turn-keeps limit (Turn b) a go h each = each b a.state h
turn-keeps limit (Stop e) a go h each = h

exec-keeps : (limit : ℕ) (instrs : List Instr) (s : State) → s.heap.limit ≡ limit → Keeps limit (exec instrs s)
unfolding Keeps
exec-keeps limit [] s h = h
exec-keeps limit (i ∷ rest) s h = behind-keeps limit (effect i s).next (effect i s) (exec rest) (effect-keeps i s ∙ h) (λ t k. exec-keeps limit rest t k)

enters-keeps : (limit : ℕ) (o : Option (List Instr)) (s : State) → s.heap.limit ≡ limit → Keeps limit (with_known o (λ instrs. exec instrs s) s)
unfolding Keeps
enters-keeps limit None s h = h
enters-keeps limit (Some instrs) s h = exec-keeps limit instrs s h

hops-keep : (limit : ℕ) (blocks : List (List Instr)) (n b : ℕ) (s : State) → s.heap.limit ≡ limit → Keeps limit (hops blocks n b s)
unfolding Keeps
hops-keep limit blocks zero b s h = h
hops-keep limit blocks (suc n) b s h = jump-keeps limit (enters blocks b s).next (enters blocks b s) (hops blocks n) (enters-keeps limit (slice_get blocks b) s h) (hops-keep limit blocks n)

turns-keep : (limit : ℕ) (blocks : List (List Instr)) (n b : ℕ) (s : State) → s.heap.limit ≡ limit → Keeps limit (turns blocks n b s)
unfolding Keeps
turns-keep limit blocks zero b s h = h
turns-keep limit blocks (suc n) b s h = turn-keeps limit (turn blocks b s).next (turn blocks b s) (turns blocks n) (hops-keep limit blocks (length blocks) b s h) (turns-keep limit blocks n)

pub limit-stays : (blocks : List (List Instr)) (n b : ℕ) (s : State) → (turns blocks n b s).state.heap.limit ≡ s.heap.limit
unfolding Keeps
limit-stays blocks n b s = turns-keep s.heap.limit blocks n b s refl

-- ---- the opening

-- what is placed, if it is, stands in cells of this limit
PlacedWithin : {A : Type 0} → (A → HeapState) → ℕ → Placing A → Type 0
PlacedWithin heap_of limit (Ok x) = (heap_of x).limit ≡ limit
PlacedWithin heap_of limit (Err full) = Unit {0}

then-within : {A B : Type 0} (p : A → HeapState) (q : B → HeapState) (limit : ℕ) (o : Placing A) (go : A → Placing B) → PlacedWithin p limit o → ((x : A) → (p x).limit ≡ limit → PlacedWithin q limit (go x)) → PlacedWithin q limit (then_place o go)
unfolding PlacedWithin
then-within p q limit (Ok x) go h each = each x h
then-within p q limit (Err full) go h each = tt

test-within : {A : Type 0} (p : A → HeapState) (limit : ℕ) (b : Bool) (x : A) (full : Filled) → (p x).limit ≡ limit → PlacedWithin p limit (if b then Ok x else Err full)
unfolding PlacedWithin
test-within p limit true x full h = h
test-within p limit false x full h = tt

fits-within : {A : Type 0} (p : A → HeapState) (limit n : ℕ) (heap : HeapState) (x : A) → (p x).limit ≡ limit → PlacedWithin p limit (if_fits n heap x)
fits-within p limit n heap x h = test-within p limit (nat_le (cells_used heap + n) heap.limit) x (record { used = cells_used heap; need = n }) h

heap_of : Placed → HeapState
heap_of p = p.heap

place-within : (limit : ℕ) (cells : List Cell) (heap : HeapState) → heap.limit ≡ limit → PlacedWithin heap_of limit (place cells heap)
unfolding heap_of
place-within limit cells heap h = fits-within heap_of limit (length cells) heap (record { heap = record heap { values = heap.values ++ cells }; cell = block_cell (length heap.values) }) h

onto-within : (limit : ℕ) (bytes : List ℕ) (tail : Placed) → tail.heap.limit ≡ limit → PlacedWithin heap_of limit (place_onto bytes tail)
unfolding heap_of
onto-within limit bytes tail h =
    then-within heap_of heap_of limit (place (text_cells bytes) tail.heap) (λ (text : Placed). place (cons_head ∷ text.cell ∷ tail.cell ∷ []) text.heap) (place-within limit (text_cells bytes) tail.heap h)
    (λ text k. place-within limit (cons_head ∷ text.cell ∷ tail.cell ∷ []) text.heap k)

arguments-within : (limit : ℕ) (args : List (List ℕ)) (heap : HeapState) → heap.limit ≡ limit → PlacedWithin heap_of limit (place_arguments args heap)
unfolding heap_of PlacedWithin
arguments-within limit [] heap h = h
arguments-within limit (bytes ∷ rest) heap h = then-within heap_of heap_of limit (place_arguments rest heap) (place_onto bytes) (arguments-within limit rest heap h) (onto-within limit bytes)

known_of : Known → HeapState
known_of k = k.heap

constants-within : (limit : ℕ) (ks : List Constant) (known : Known) → known.heap.limit ≡ limit → PlacedWithin known_of limit (place_constants ks known)
unfolding known_of heap_of PlacedWithin
constants-within limit [] known h = h
constants-within limit (k ∷ ks) known h =
    then-within heap_of known_of limit (place (constant_cells known.constants k) known.heap) (λ (placed : Placed). place_constants ks (record { heap = placed.heap; constants = known.constants ++ placed.cell ∷ [] })) (place-within limit (constant_cells known.constants k) known.heap h)
    (λ placed e. constants-within limit ks (record { heap = placed.heap; constants = known.constants ++ placed.cell ∷ [] }) e)

itself : HeapState → HeapState
itself heap = heap

push-within : (limit : ℕ) (cells : List Cell) (heap : HeapState) → heap.limit ≡ limit → PlacedWithin itself limit (push cells heap)
unfolding itself
push-within limit cells heap h = fits-within itself limit (length cells) heap (with_frame cells heap) h

frames-within : (limit : ℕ) → PlacedWithin itself limit (first_frames limit)
unfolding itself
frames-within limit =
    let empty : HeapState = record { values = []; frames = []; limit = limit } in
    then-within itself itself limit (push (first_success limit) empty) (push (first_failure limit)) (push-within limit (first_success limit) empty refl) (push-within limit (first_failure limit))

state_of : State → HeapState
state_of s = s.heap

opening-within : (l : Listing) (args : List (List ℕ)) (limit : ℕ) → PlacedWithin state_of limit (opening l args limit)
unfolding itself heap_of known_of state_of PlacedWithin
opening-within l args limit =
    then-within itself state_of limit (first_frames limit) (λ (heap : HeapState).
    then_place (place_arguments args heap) (λ (list : Placed).
    then_place (place_constants l.constants (record { heap = list.heap; constants = [] })) (λ (known : Known).
    Ok (started l.registers list.cell known)))) (frames-within limit) (λ heap h.
    then-within heap_of state_of limit (place_arguments args heap) (λ (list : Placed).
    then_place (place_constants l.constants (record { heap = list.heap; constants = [] })) (λ (known : Known).
    Ok (started l.registers list.cell known))) (arguments-within limit args heap h) (λ list i.
    then-within known_of state_of limit (place_constants l.constants (record { heap = list.heap; constants = [] })) (λ (known : Known).
    Ok (started l.registers list.cell known)) (constants-within limit l.constants (record { heap = list.heap; constants = [] }) i) (λ known k. k)))

opened : (limit : ℕ) (o : Placing State) (s : State) → PlacedWithin state_of limit o → o ≡ Ok s → s.heap.limit ≡ limit
unfolding PlacedWithin state_of
opened limit (Ok t) s h is = let same_state : t ≡ s = cc in ap (λ (x : State). x.heap.limit) (sym same_state) ∙ h
opened limit (Err full) s h is = absurd (cc)

pub limit-given : (l : Listing) (args : List (List ℕ)) (limit : ℕ) (s : State) → opening l args limit ≡ Ok s → s.heap.limit ≡ limit
limit-given l args limit s is = opened limit (opening l args limit) s (opening-within l args limit) is

-- ---- runs

pub runs-within : (l : Listing) (args : List (List ℕ)) (limit n : ℕ) → limit ≤ MOST_CELLS → runs_of l args limit n ≡ run_of (machine l args limit n)
runs-within l args limit n few = let e : min limit MOST_CELLS ≡ limit = min-eq_left few in ap (λ k. run_of (machine l args k n)) e

pub runs-beyond : (l : Listing) (args : List (List ℕ)) (limit n : ℕ) → MOST_CELLS ≤ limit → runs_of l args limit n ≡ runs_of l args MOST_CELLS n
runs-beyond l args limit n many = let e : min limit MOST_CELLS ≡ MOST_CELLS = min-eq_right many in ap (λ k. run_of (machine l args k n)) e
