-- What is read of the last frames.
use Rattle.std.specs.Prelude.{ℕ, ◌≡◌, ◌+◌, ◌-◌, ◌<◌, ◌≤◌, true, ◌&&◌, nat_le, nat_lt, if◌then◌else◌, List, [], ◌∷◌, length, take, drop, Some, None, slice_index_or}
use Rattle.std.specs.Option.{option_and_then}
use Rattle.std.specs.List.{AllByRecursion, list_all}
use Rattle.std.proofs.Common.{ap, sym, subst, ◌∙◌, arith}
use Rattle.std.proofs.lemmas.Bool.{leb-true, ltb-true}
use Rattle.std.proofs.lemmas.List.{get_or-drop, length-drop, drop-drop}
use Rattle.rml_heap.specs.declared.cell.Cell.{Cell}
use Rattle.rml_heap.specs.HeapState.{HeapState, bottom_of, IsInFrames, unset_cell}
use Rattle.rml_heap.specs.Form.{address, or_zero}
use Rattle.rml_heap.proofs.Callers.{then-some}
use Rattle.rml_trail.specs.TrailState.{TrailState, Fits, unset_all}
use Rattle.rml_trail.proofs.Callers.{fits-frames, fits-taken_back}
use Rattle.rml_code.specs.declared.instructions.Instr.TheVariants as instr
use Rattle.rml_code.specs.declared.state.State.{State}
use Rattle.rml_code.specs.Frames.{loaded, frames_from, Success, success_in, success_at, Failure, failure_in, failure_at, label_in, label_at}
use Rattle.rml_code.specs.Stretch.{Stretch, Turn, goes}
use Rattle.rml_code.specs.Effects.{behind, resumed, retried, is_before, undone, taken_up, effect, to_label}
use Rattle.rml_acts.specs.Did.{IsRight}
use Rattle.rml_acts.proofs.Effects.{some-is, known-right, known-is, both-some, both-true, if-some}

-- the cell of frames at an address
abbrev pub framed : HeapState → ℕ → Cell
framed heap at = slice_index_or heap.frames (at - bottom_of heap) unset_cell

-- the cells of frames from an address on
record AreFramed (heap : HeapState) (at : ℕ) (fs : List Cell) : Type 0 where
  pub low : bottom_of heap ≤ at
  pub is : fs ≡ drop (at - bottom_of heap) heap.frames
  pub high : at + length fs ≡ heap.limit

framed-some : (at : ℕ) (heap : HeapState) (fs : List Cell) → length heap.frames ≤ heap.limit → frames_from at heap ≡ Some fs → AreFramed heap at fs
framed-some at heap fs fits h =
    let told = both-some (nat_le (bottom_of heap) at) (nat_le at heap.limit) (drop (at - bottom_of heap) heap.frames) fs h in
    let low : bottom_of heap ≤ at = leb-true (bottom_of heap) at told.0 in
    let high : at ≤ heap.limit = leb-true at heap.limit told.1 in
    let long : length fs ≡ length heap.frames - (at - bottom_of heap) = ap length (sym told.2) ∙ length-drop (at - bottom_of heap) heap.frames in
    record { low = low; is = sym told.2; high = omega (arith, low, high, long, fits) }

framed-at : (heap : HeapState) (at : ℕ) (fs : List Cell) (i : ℕ) → AreFramed heap at fs → framed heap (at + i) ≡ slice_index_or fs i unset_cell
framed-at heap at fs i h =
    let low : bottom_of heap ≤ at = h.low in
    let place : at + i - bottom_of heap ≡ at - bottom_of heap + i = omega (arith, low) in
    ap (λ n. slice_index_or heap.frames n unset_cell) place ∙ sym (get_or-drop (at - bottom_of heap) heap.frames i unset_cell) ∙ ap (λ (xs : List Cell). slice_index_or xs i unset_cell) (sym h.is)

framed-rest : (heap : HeapState) (at : ℕ) (fs : List Cell) (i : ℕ) → AreFramed heap at fs → drop (at + i - bottom_of heap) heap.frames ≡ drop i fs
framed-rest heap at fs i h =
    let low : bottom_of heap ≤ at = h.low in
    let place : at + i - bottom_of heap ≡ at - bottom_of heap + i = omega (arith, low) in
    ap (λ n. drop n heap.frames) place ∙ sym (drop-drop i (at - bottom_of heap) heap.frames) ∙ ap (drop i) (sym h.is)

-- ---- success frames

record SuccessIn (fs : List Cell) (kept : Success) : Type 0 where
  pub long : length fs ≡ 3 + length kept.rest
  pub success : address (slice_index_or fs 1 unset_cell).number ≡ kept.success
  pub failure : address (slice_index_or fs 2 unset_cell).number ≡ kept.failure
  pub rest : drop 3 fs ≡ kept.rest

success-in : (fs : List Cell) (kept : Success) → success_in fs ≡ Some kept → SuccessIn fs kept
success-in [] kept h = absurd (cc)
success-in (l ∷ []) kept h = absurd (cc)
success-in (l ∷ k ∷ []) kept h = absurd (cc)
success-in (l ∷ k ∷ f ∷ rest) kept h =
    let is : record { success = address k.number; failure = address f.number; rest = rest } ≡ kept = some-is _ _ h in
    record {
      long = omega (arith, ap (λ (x : Success). 3 + length x.rest) is);
      success = ap (λ (x : Success). x.success) is;
      failure = ap (λ (x : Success). x.failure) is;
      rest = ap (λ (x : Success). x.rest) is;
    }

-- what it takes to take up the last success frame
pub record Resumes (rs : List ℕ) (s : State) : Type 0 where
  pub one : IsInFrames s.heap (s.success + 1)
  pub two : IsInFrames s.heap (s.success + 2)
  pub low : bottom_of s.heap ≤ s.success + 3
  pub high : s.success + 3 + length rs ≤ s.heap.limit
  pub does : behind (record s {
    registers = loaded rs (drop (s.success + 3 - bottom_of s.heap) s.heap.frames) s.registers;
    heap = record s.heap { frames = drop (s.success + 3 + length rs - bottom_of s.heap) s.heap.frames };
    success = address (framed s.heap (s.success + 1)).number;
    failure = address (framed s.heap (s.success + 2)).number;
  }) ≡ effect (instr.Resume rs) s

pub resumes : (rs : List ℕ) (s : State) → length s.heap.frames ≤ s.heap.limit → IsRight (effect (instr.Resume rs) s) → Resumes rs s
resumes rs s fits right =
    let there = known-right (option_and_then (resumed rs s) (success_at s.success s.heap)) behind s right in
    let t : State = there.0 in
    let found = then-some (resumed rs s) (success_at s.success s.heap) t there.1 in
    let kept : Success = found.0 in
    let frames = then-some success_in (frames_from s.success s.heap) kept found.1 in
    let fs : List Cell = frames.0 in
    let at = framed-some s.success s.heap fs fits frames.1 in
    let read = success-in fs kept frames.2 in
    let after : State = record s {
      registers = loaded rs kept.rest s.registers;
      heap = record s.heap { frames = drop (length rs) kept.rest };
      success = kept.success;
      failure = kept.failure;
    } in
    let saved = if-some (nat_le (length rs) (length kept.rest)) (Some after) t found.2 in
    let enough : length rs ≤ length kept.rest = leb-true (length rs) (length kept.rest) saved.0 in
    let low : bottom_of s.heap ≤ s.success = at.low in
    let high : s.success + length fs ≡ s.heap.limit = at.high in
    let long : length fs ≡ 3 + length kept.rest = read.long in
    let rest : drop (s.success + 3 - bottom_of s.heap) s.heap.frames ≡ kept.rest = framed-rest s.heap s.success fs 3 at ∙ read.rest in
    let left : drop (s.success + 3 + length rs - bottom_of s.heap) s.heap.frames ≡ drop (length rs) kept.rest =
    ap (λ n. drop (n - bottom_of s.heap) s.heap.frames) (omega arith) ∙ framed-rest s.heap s.success fs (3 + length rs) at ∙ sym (drop-drop (length rs) 3 fs) ∙ ap (drop (length rs)) read.rest
    in
    let success : address (framed s.heap (s.success + 1)).number ≡ kept.success = ap (λ (c : Cell). address c.number) (framed-at s.heap s.success fs 1 at) ∙ read.success in
    let failure : address (framed s.heap (s.success + 2)).number ≡ kept.failure = ap (λ (c : Cell). address c.number) (framed-at s.heap s.success fs 2 at) ∙ read.failure in
    record {
      one = record { low = omega (arith, low); high = omega (arith, high, long) };
      two = record { low = omega (arith, low); high = omega (arith, high, long) };
      low = omega (arith, low);
      high = omega (arith, high, long, enough);
      does = ap behind (is-resumed s rs _ _ _ _ _ _ _ _ rest left success failure) ∙ ap behind (some-is after t saved.1) ∙ sym (known-is (option_and_then (resumed rs s) (success_at s.success s.heap)) behind s t there.1);
    }
  where
    is-resumed : (s : State) (rs : List ℕ) (xs ys us vs : List Cell) (k l f g : ℕ) → xs ≡ ys → us ≡ vs → k ≡ l → f ≡ g
        → record s { registers = loaded rs xs s.registers; heap = record s.heap { frames = us }; success = k; failure = f } ≡ record s { registers = loaded rs ys s.registers; heap = record s.heap { frames = vs }; success = l; failure = g }
    is-resumed s rs xs ys us vs k l f g a b c d = cc

-- ---- failure frames

record FailureIn (fs : List Cell) (kept : Failure) : Type 0 where
  pub long : length fs ≡ 5 + length kept.rest
  pub mark : address (slice_index_or fs 1 unset_cell).number ≡ kept.mark
  pub top : address (slice_index_or fs 2 unset_cell).number ≡ kept.top
  pub success : address (slice_index_or fs 3 unset_cell).number ≡ kept.success
  pub failure : address (slice_index_or fs 4 unset_cell).number ≡ kept.failure
  pub rest : drop 5 fs ≡ kept.rest

failure-in : (fs : List Cell) (kept : Failure) → failure_in fs ≡ Some kept → FailureIn fs kept
failure-in [] kept h = absurd (cc)
failure-in (l ∷ []) kept h = absurd (cc)
failure-in (l ∷ m ∷ []) kept h = absurd (cc)
failure-in (l ∷ m ∷ t ∷ []) kept h = absurd (cc)
failure-in (l ∷ m ∷ t ∷ k ∷ []) kept h = absurd (cc)
failure-in (l ∷ m ∷ t ∷ k ∷ f ∷ rest) kept h =
    let is : record { mark = address m.number; top = address t.number; success = address k.number; failure = address f.number; rest = rest } ≡ kept = some-is _ _ h in
    record {
      long = omega (arith, ap (λ (x : Failure). 5 + length x.rest) is);
      mark = ap (λ (x : Failure). x.mark) is;
      top = ap (λ (x : Failure). x.top) is;
      success = ap (λ (x : Failure). x.success) is;
      failure = ap (λ (x : Failure). x.failure) is;
      rest = ap (λ (x : Failure). x.rest) is;
    }

pub all-below : (top : ℕ) (es : List ℕ) → list_all (λ e. nat_lt e top) es ≡ true → AllByRecursion (λ e. e < top) es
all-below top [] h = tt
all-below top (e ∷ es) h =
    let both = both-true (nat_lt e top) (list_all (λ e. nat_lt e top) es) h in
    (ltb-true e top both.0, all-below top es both.1)

-- what it takes to take up the last failure frame
pub record Retries (rs : List ℕ) (s : State) : Type 0 where
  pub one : IsInFrames s.heap (s.failure + 1)
  pub two : IsInFrames s.heap (s.failure + 2)
  pub three : IsInFrames s.heap (s.failure + 3)
  pub four : IsInFrames s.heap (s.failure + 4)
  pub low : bottom_of s.heap ≤ s.failure + 5
  pub high : s.failure + 5 + length rs ≤ s.heap.limit
  pub mark : address (framed s.heap (s.failure + 1)).number ≤ length s.trail.entries
  pub top : address (framed s.heap (s.failure + 2)).number ≤ length s.heap.values
  pub below : AllByRecursion (λ e. e < address (framed s.heap (s.failure + 2)).number) (take (address (framed s.heap (s.failure + 1)).number) s.trail.entries)
  pub does : behind (record s {
    registers = loaded rs (drop (s.failure + 5 - bottom_of s.heap) s.heap.frames) s.registers;
    heap = record s.heap {
      values = take (address (framed s.heap (s.failure + 2)).number) (unset_all (drop (address (framed s.heap (s.failure + 1)).number) s.trail.entries) s.heap.values);
      frames = drop (s.failure + 5 + length rs - bottom_of s.heap) s.heap.frames;
    };
    trail = record s.trail { entries = take (address (framed s.heap (s.failure + 1)).number) s.trail.entries };
    success = address (framed s.heap (s.failure + 3)).number;
    failure = address (framed s.heap (s.failure + 4)).number;
  }) ≡ effect (instr.Retry rs) s

is-retried : (s : State) (rs : List ℕ) (xs ys us vs : List Cell) (k l f g m n a b : ℕ) → xs ≡ ys → us ≡ vs → k ≡ l → f ≡ g → m ≡ n → a ≡ b
    → record s { registers = loaded rs xs s.registers; heap = record s.heap { values = take a (unset_all (drop m s.trail.entries) s.heap.values); frames = us }; trail = record s.trail { entries = take m s.trail.entries }; success = k; failure = f }
    ≡ record s { registers = loaded rs ys s.registers; heap = record s.heap { values = take b (unset_all (drop n s.trail.entries) s.heap.values); frames = vs }; trail = record s.trail { entries = take n s.trail.entries }; success = l; failure = g }
is-retried s rs xs ys us vs k l f g m n a b p q r t u v = cc

pub retries : (rs : List ℕ) (s : State) → length s.heap.frames ≤ s.heap.limit → IsRight (effect (instr.Retry rs) s) → Retries rs s
retries rs s fits right =
    let there = known-right (option_and_then (retried rs s) (failure_at s.failure s.heap)) behind s right in
    let t : State = there.0 in
    let found = then-some (retried rs s) (failure_at s.failure s.heap) t there.1 in
    let kept : Failure = found.0 in
    let frames = then-some failure_in (frames_from s.failure s.heap) kept found.1 in
    let fs : List Cell = frames.0 in
    let at = framed-some s.failure s.heap fs fits frames.1 in
    let read = failure-in fs kept frames.2 in
    let after : State = taken_up rs kept (undone kept s) in
    let saved = if-some (nat_le (length rs) (length kept.rest)) (if is_before kept s then Some after else None) t found.2 in
    let before = if-some (is_before kept s) (Some after) t saved.1 in
    let all = both-true (nat_le kept.mark (length s.trail.entries) && nat_le kept.top (length s.heap.values)) (list_all (λ e. nat_lt e kept.top) (take kept.mark s.trail.entries)) before.0 in
    let two = both-true (nat_le kept.mark (length s.trail.entries)) (nat_le kept.top (length s.heap.values)) all.0 in
    let enough : length rs ≤ length kept.rest = leb-true (length rs) (length kept.rest) saved.0 in
    let low : bottom_of s.heap ≤ s.failure = at.low in
    let high : s.failure + length fs ≡ s.heap.limit = at.high in
    let long : length fs ≡ 5 + length kept.rest = read.long in
    let rest : drop (s.failure + 5 - bottom_of s.heap) s.heap.frames ≡ kept.rest = framed-rest s.heap s.failure fs 5 at ∙ read.rest in
    let left : drop (s.failure + 5 + length rs - bottom_of s.heap) s.heap.frames ≡ drop (length rs) kept.rest =
    ap (λ n. drop (n - bottom_of s.heap) s.heap.frames) (omega arith) ∙ framed-rest s.heap s.failure fs (5 + length rs) at ∙ sym (drop-drop (length rs) 5 fs) ∙ ap (drop (length rs)) read.rest
    in
    let number : (i n : ℕ) → address (slice_index_or fs i unset_cell).number ≡ n → address (framed s.heap (s.failure + i)).number ≡ n = λ i n e. ap (λ (c : Cell). address c.number) (framed-at s.heap s.failure fs i at) ∙ e in
    let mark : address (framed s.heap (s.failure + 1)).number ≡ kept.mark = number 1 kept.mark read.mark in
    let top : address (framed s.heap (s.failure + 2)).number ≡ kept.top = number 2 kept.top read.top in
    let success : address (framed s.heap (s.failure + 3)).number ≡ kept.success = number 3 kept.success read.success in
    let failure : address (framed s.heap (s.failure + 4)).number ≡ kept.failure = number 4 kept.failure read.failure in
    record {
      one = record { low = omega (arith, low); high = omega (arith, high, long) };
      two = record { low = omega (arith, low); high = omega (arith, high, long) };
      three = record { low = omega (arith, low); high = omega (arith, high, long) };
      four = record { low = omega (arith, low); high = omega (arith, high, long) };
      low = omega (arith, low);
      high = omega (arith, high, long, enough);
      mark = rw mark (leb-true kept.mark (length s.trail.entries) two.0);
      top = rw top (leb-true kept.top (length s.heap.values) two.1);
      below = rw (mark, top) (all-below kept.top (take kept.mark s.trail.entries) all.1);
      does = ap behind (is-retried s rs _ _ _ _ _ _ _ _ _ _ _ _ rest left success failure mark top) ∙ ap behind (some-is after t before.1) ∙ sym (known-is (option_and_then (retried rs s) (failure_at s.failure s.heap)) behind s t there.1);
    }

-- what it takes to forget it
pub record Forgets (s : State) : Type 0 where
  pub four : IsInFrames s.heap (s.failure + 4)
  pub does : behind (record s { failure = address (framed s.heap (s.failure + 4)).number }) ≡ effect instr.Drop s

pub forgets : (s : State) → length s.heap.frames ≤ s.heap.limit → IsRight (effect instr.Drop s) → Forgets s
forgets s fits right =
    let go : Failure → Stretch = λ (kept : Failure). behind (record s { failure = kept.failure }) in
    let there = known-right (failure_at s.failure s.heap) go s right in
    let kept : Failure = there.0 in
    let frames = then-some failure_in (frames_from s.failure s.heap) kept there.1 in
    let fs : List Cell = frames.0 in
    let at = framed-some s.failure s.heap fs fits frames.1 in
    let read = failure-in fs kept frames.2 in
    let low : bottom_of s.heap ≤ s.failure = at.low in
    let high : s.failure + length fs ≡ s.heap.limit = at.high in
    let long : length fs ≡ 5 + length kept.rest = read.long in
    let failure : address (framed s.heap (s.failure + 4)).number ≡ kept.failure = ap (λ (c : Cell). address c.number) (framed-at s.heap s.failure fs 4 at) ∙ read.failure in
    record {
      four = record { low = omega (arith, low); high = omega (arith, high, long) };
      does = ap (λ n. behind (record s { failure = n })) failure ∙ sym (known-is (failure_at s.failure s.heap) go s kept there.1);
    }

-- ---- labels

pub record Enters (at : ℕ) (s : State) : Type 0 where
  pub here : IsInFrames s.heap (at + 0)
  pub does : goes (Turn (or_zero (framed s.heap (at + 0)).number)) s ≡ to_label at s

label-is : (fs : List Cell) (b : ℕ) → label_in fs ≡ Some b → (0 < length fs) × (or_zero (slice_index_or fs 0 unset_cell).number ≡ b)
label-is [] b h = absurd (cc)
label-is (l ∷ fs) b h = (omega arith, some-is _ _ h)

pub enters : (at : ℕ) (s : State) → length s.heap.frames ≤ s.heap.limit → IsRight (to_label at s) → Enters at s
enters at s fits right =
    let go : ℕ → Stretch = λ b. goes (Turn b) s in
    let there = known-right (label_at at s.heap) go s right in
    let b : ℕ = there.0 in
    let frames = then-some label_in (frames_from at s.heap) b there.1 in
    let fs : List Cell = frames.0 in
    let is = framed-some at s.heap fs fits frames.1 in
    let label = label-is fs b frames.2 in
    let low : bottom_of s.heap ≤ at = is.low in
    let high : at + length fs ≡ s.heap.limit = is.high in
    let some : 0 < length fs = label.0 in
    let here : framed s.heap (at + 0) ≡ slice_index_or fs 0 unset_cell = framed-at s.heap at fs 0 is in
    record {
      here = record { low = omega (arith, low); high = omega (arith, high, some) };
      does = ap (λ (c : Cell). goes (Turn (or_zero c.number)) s) here ∙ ap go label.1 ∙ sym (known-is (label_at at s.heap) go s b there.1);
    }

-- ---- what code comes to, which takes up frames step by step

pub resumed-as : (rs : List ℕ) (s : State) (registers : List Cell) (heap : HeapState) (k f : ℕ) → Resumes rs s
    → registers ≡ loaded rs (drop (s.success + 3 - bottom_of s.heap) s.heap.frames) s.registers
    → heap ≡ record s.heap { frames = drop (s.success + 3 + length rs - bottom_of s.heap) s.heap.frames }
    → k ≡ address (framed s.heap (s.success + 1)).number → f ≡ address (framed s.heap (s.success + 2)).number
    → behind (record s { registers = registers; heap = heap; success = k; failure = f }) ≡ effect (instr.Resume rs) s
resumed-as rs s registers heap k f r a b c d = rw (a, b, c, d) r.does

-- the heap and the trail while a failure frame is taken up
pub record Undoes (s : State) (mark top : ℕ) (trail : TrailState) (undone_heap reset_heap : HeapState) : Type 0 where
  pub mark_is : mark ≡ address (framed s.heap (s.failure + 1)).number
  pub top_is : top ≡ address (framed s.heap (s.failure + 2)).number
  pub trail_is : trail ≡ record s.trail { entries = take mark s.trail.entries }
  pub undone_is : undone_heap ≡ record s.heap { values = unset_all (drop mark s.trail.entries) s.heap.values }
  pub reset_is : reset_heap ≡ record undone_heap { values = take top undone_heap.values }

pub undoes-frames : (s : State) (mark top : ℕ) (trail : TrailState) (one two : HeapState) → Undoes s mark top trail one two → (two.frames ≡ s.heap.frames) × (two.limit ≡ s.heap.limit)
undoes-frames s mark top trail one two u =
    (ap (λ (h : HeapState). h.frames) u.reset_is ∙ ap (λ (h : HeapState). h.frames) u.undone_is, ap (λ (h : HeapState). h.limit) u.reset_is ∙ ap (λ (h : HeapState). h.limit) u.undone_is)

pub retried-as : (rs : List ℕ) (s : State) (mark top : ℕ) (trail : TrailState) (one two three : HeapState) (registers : List Cell) (k f : ℕ) → Retries rs s → Undoes s mark top trail one two
    → registers ≡ loaded rs (drop (s.failure + 5 - bottom_of two) two.frames) s.registers
    → three ≡ record two { frames = drop (s.failure + 5 + length rs - bottom_of two) two.frames }
    → k ≡ address (framed s.heap (s.failure + 3)).number → f ≡ address (framed s.heap (s.failure + 4)).number
    → behind (record s { registers = registers; heap = three; trail = trail; success = k; failure = f }) ≡ effect (instr.Retry rs) s
retried-as rs s mark top trail one two three registers k f r u a b c d = rw (a, b, c, d, u.trail_is, u.reset_is, u.undone_is, u.mark_is, u.top_is) r.does

pub retried-fits : (rs : List ℕ) (s : State) (mark top : ℕ) (trail : TrailState) (one two : HeapState) (frames : List Cell) → Retries rs s → Undoes s mark top trail one two → Fits trail one → Fits trail (record two { frames = frames })
retried-fits rs s mark top trail one two frames r u fits =
    let entries : trail.entries ≡ take mark s.trail.entries = ap (λ (t : TrailState). t.entries) u.trail_is in
    let below : AllByRecursion (λ e. e < top) trail.entries = rw (entries, u.mark_is, u.top_is) r.below in
    let back : Fits trail (record one { values = take top one.values }) = fits-taken_back trail one top below fits in
    let P : HeapState → Type 0 = λ h. Fits trail h in
    fits-frames trail two frames (subst P (sym u.reset_is) back)
