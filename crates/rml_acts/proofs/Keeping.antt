-- What an instruction keeps that prints nothing.
use Rattle.std.specs.Prelude.{ℕ, ◌≡◌, ◌+◌, ◌<◌, Bool, true, false, ◌&&◌, nat_le, nat_lt, if◌then◌else◌, List, [], ◌∷◌, length, take, drop, Option, Some, None, slice_set}
use Rattle.std.specs.Option.{option_and_then}
use Rattle.std.specs.List.{AllByRecursion, list_all}
use Rattle.std.proofs.Common.{refl, ap, ◌∙◌, subst, length-set}
use Rattle.rml_value.specs.declared.value.Value.{Value}
use Rattle.rml_value.specs.Same.{same}
use Rattle.rml_heap.specs.declared.cell.Cell.{Cell}
use Rattle.rml_heap.specs.HeapState.{HeapState, cells_used}
use Rattle.rml_heap.specs.Form.{form_of}
use Rattle.rml_heap.specs.Reading.{word_of}
use Rattle.rml_heap.proofs.Callers.{then-some}
use Rattle.rml_trail.specs.TrailState.{Fits, unset_all}
use Rattle.rml_trail.proofs.Callers.{fits-added, fits-frames, fits-taken_back, fits-undone}
use Rattle.rml_prims.specs.Shapes.{cons_head}
use Rattle.rml_code.specs.declared.instructions.Else.{Else}
use Rattle.rml_code.specs.declared.instructions.Else.TheVariants as else
use Rattle.rml_code.specs.declared.instructions.Case.{Case}
use Rattle.rml_code.specs.declared.instructions.Halt.TheVariants as halt
use Rattle.rml_code.specs.declared.instructions.Instr.{Instr}
use Rattle.rml_code.specs.declared.instructions.Instr.TheVariants as instr
use Rattle.rml_code.specs.declared.state.State.{State}
use Rattle.rml_code.specs.Frames.{register, registers_of, loaded, success_frame, failure_frame, Success, success_at, Failure, failure_at, label_at}
use Rattle.rml_prims.specs.Standing.{value_in}
use Rattle.rml_code.specs.Seen.{Seen, seen_in, asked, is_same, is_alike}
use Rattle.rml_code.specs.Stretch as stretch
use Rattle.rml_code.specs.Stretch.{Stretch, Full, Jump, Turn, Stop, goes, wrong, with_known}
use Rattle.rml_code.specs.Effects.{behind, behind_with, if_room, builds, with_block, con_head, tuple_head, part_of, saves, guards, resumed, retried, is_before, undone, taken_up, entry_in, otherwise, to_label, chosen, switches, effect}
use Rattle.rml_acts.specs.Kept.{Kept, IsQuiet, IsPlain}
use Rattle.rml_acts.proofs.Effects.{some-is, both-true, if-some}
use Rattle.rml_acts.proofs.Framed.{all-below}

-- the state stays
stays : (s : State) → Fits s.trail s.heap → Kept s s
stays s h = record { fits = h; registers = refl; constants = refl; limit = refl }

plain-goes : (next : stretch.Next) (s t : State) → Kept s t → IsPlain s (goes next t)
plain-goes next s t kept = record { kept = kept; text = refl; cells = refl; turns = refl }

plain-here : (next : stretch.Next) (s : State) → Fits s.trail s.heap → IsPlain s (goes next s)
plain-here next s h = plain-goes next s s (stays s h)

plain-known : {A : Type 0} (o : Option A) (go : A → Stretch) (s : State) → Fits s.trail s.heap → ((x : A) → o ≡ Some x → IsPlain s (go x)) → IsPlain s (with_known o go s)
plain-known None go s h each = plain-here (Stop stretch.Wrong) s h
plain-known (Some x) go s h each = each x refl

plain-if : (b : Bool) (s : State) (x y : Stretch) → IsPlain s x → IsPlain s y → IsPlain s (if b then x else y)
plain-if true s x y h i = h
plain-if false s x y h i = i

plain-room : (n : ℕ) (s : State) (t : State) → Fits s.trail s.heap → Kept s t → IsPlain s (if_room n s (behind_with n t))
plain-room n s t h kept =
    plain-if (nat_le (cells_used s.heap + n) s.heap.limit) s (behind_with n t) (goes (Stop (Full (cells_used s.heap) n)) s) (record { kept = kept; text = refl; cells = refl; turns = refl }) (plain-here (Stop (Full (cells_used s.heap) n)) s h)

plain-builds : (a : ℕ) (cells : List Cell) (s : State) → Fits s.trail s.heap → IsPlain s (builds a cells s)
plain-builds a cells s h =
    plain-room (length cells) s (with_block a cells s) h
    (record { fits = fits-added s.trail s.heap cells h; registers = length-set s.registers a _; constants = refl; limit = refl })

plain-label : (at : ℕ) (s : State) → Fits s.trail s.heap → IsPlain s (to_label at s)
plain-label at s h = plain-known (label_at at s.heap) (λ b. goes (Turn b) s) s h (λ b _. plain-here (Turn b) s h)

plain-otherwise : (e : Else) (s : State) → Fits s.trail s.heap → IsPlain s (otherwise e s)
plain-otherwise else.Fail s h = plain-label s.failure s h
plain-otherwise (else.Block b) s h = plain-here (Jump b) s h

pub length-loaded : (rs : List ℕ) (cells registers : List Cell) → length (loaded rs cells registers) ≡ length registers
length-loaded [] cells registers = refl
length-loaded (r ∷ rs) [] registers = refl
length-loaded (r ∷ rs) (c ∷ cells) registers = length-loaded rs cells (slice_set registers r c) ∙ length-set registers r c

kept-frames : (s t : State) (frames : List Cell) → Fits s.trail s.heap → t.trail ≡ s.trail → t.heap ≡ record s.heap { frames = frames } → length t.registers ≡ length s.registers → t.constants ≡ s.constants → Kept s t
kept-frames s t frames h trail heap registers constants =
    let fits : Fits s.trail (record s.heap { frames = frames }) = fits-frames s.trail s.heap frames h in
    record { fits = rw (trail, heap) fits; registers = registers; constants = constants; limit = ap (λ (x : HeapState). x.limit) heap }

kept-resumed : (rs : List ℕ) (s t : State) → Fits s.trail s.heap → option_and_then (resumed rs s) (success_at s.success s.heap) ≡ Some t → Kept s t
kept-resumed rs s t h is =
    let found = then-some (resumed rs s) (success_at s.success s.heap) t is in
    let kept : Success = found.0 in
    let after : State = record s {
      registers = loaded rs kept.rest s.registers;
      heap = record s.heap { frames = drop (length rs) kept.rest };
      success = kept.success;
      failure = kept.failure;
    } in
    let saved = if-some (nat_le (length rs) (length kept.rest)) (Some after) t found.2 in
    subst (Kept s) (some-is after t saved.1) (kept-frames s after (drop (length rs) kept.rest) h refl refl (length-loaded rs kept.rest s.registers) refl)

kept-retried : (rs : List ℕ) (s t : State) → Fits s.trail s.heap → option_and_then (retried rs s) (failure_at s.failure s.heap) ≡ Some t → Kept s t
kept-retried rs s t h is =
    let found = then-some (retried rs s) (failure_at s.failure s.heap) t is in
    let kept : Failure = found.0 in
    let after : State = taken_up rs kept (undone kept s) in
    let saved = if-some (nat_le (length rs) (length kept.rest)) (if is_before kept s then Some after else None) t found.2 in
    let before = if-some (is_before kept s) (Some after) t saved.1 in
    let all = both-true (nat_le kept.mark (length s.trail.entries) && nat_le kept.top (length s.heap.values)) (list_all (λ e. nat_lt e kept.top) (take kept.mark s.trail.entries)) before.0 in
    let below : AllByRecursion (λ e. e < kept.top) (take kept.mark s.trail.entries) = all-below kept.top (take kept.mark s.trail.entries) all.1 in
    let back = fits-undone s.trail s.heap kept.mark h in
    let heap : HeapState = record s.heap { values = unset_all (drop kept.mark s.trail.entries) s.heap.values } in
    let taken = fits-taken_back (record s.trail { entries = take kept.mark s.trail.entries }) heap kept.top below back in
    let framed = fits-frames (record s.trail { entries = take kept.mark s.trail.entries }) (record heap { values = take kept.top heap.values }) (drop (length rs) kept.rest) taken in
    subst (Kept s) (some-is after t before.1) (record { fits = framed; registers = length-loaded rs kept.rest s.registers; constants = refl; limit = refl })

plain-chosen : (seen : Seen) (cases : List Case) (e : Else) (s : State) → Fits s.trail s.heap → IsPlain s (chosen seen cases e s)
plain-chosen seen [] e s h = plain-otherwise e s h
plain-chosen seen (k ∷ cases) e s h = plain-if (is_same seen (asked s k.tag)) s (goes (Jump k.block) s) (chosen seen cases e s) (plain-here (Jump k.block) s h) (plain-chosen seen cases e s h)

plain-switches : (cases : List Case) (e : Else) (s : State) → Fits s.trail s.heap → (seen : Seen) → IsPlain s (switches cases e s seen)
plain-switches [] e s h seen = plain-otherwise e s h
plain-switches (k ∷ cases) e s h seen = plain-if (is_alike seen (asked s k.tag)) s (chosen seen (k ∷ cases) e s) (wrong s) (plain-chosen seen (k ∷ cases) e s h) (plain-here (Stop stretch.Wrong) s h)

plain-put : (a : ℕ) (c : Cell) (s : State) → Fits s.trail s.heap → IsPlain s (behind (record s { registers = slice_set s.registers a c }))
plain-put a c s h = plain-goes stretch.Behind s (record s { registers = slice_set s.registers a c }) (record { fits = h; registers = length-set s.registers a c; constants = refl; limit = refl })

plain-framed : (n : ℕ) (s t : State) (frames : List Cell) → Fits s.trail s.heap → t.trail ≡ s.trail → t.heap ≡ record s.heap { frames = frames } → t.registers ≡ s.registers → t.constants ≡ s.constants → IsPlain s (if_room n s (behind_with n t))
plain-framed n s t frames h trail heap registers constants = plain-room n s t h (kept-frames s t frames h trail heap (ap length registers) constants)

-- each instruction
pub plain : (i : Instr) (s : State) → IsQuiet i → Fits s.trail s.heap → IsPlain s (effect i s)
plain (instr.Move a b) s q h = plain-put a _ s h
plain (instr.Word a w) s q h = plain-put a _ s h
plain (instr.Const a i) s q h = plain-put a _ s h
plain (instr.Field a b i) s q h = plain-known (part_of s.heap.values i (register s b)) _ s h (λ c _. plain-put a c s h)
plain (instr.Con a c rs) s q h = plain-builds a (con_head c (length rs) ∷ registers_of rs s) s h
plain (instr.Tuple a rs) s q h = plain-builds a (tuple_head (length rs) ∷ registers_of rs s) s h
plain (instr.Cons a b c) s q h = plain-builds a (cons_head ∷ register s b ∷ register s c ∷ []) s h
plain (instr.Save b rs) s q h = plain-framed (3 + length rs) s (saves (success_frame b (registers_of rs s) s) s) _ h refl refl refl refl
plain (instr.Guard b rs) s q h = plain-framed (5 + length rs) s (guards (failure_frame b (registers_of rs s) s) s) _ h refl refl refl refl
plain (instr.Resume rs) s q h = plain-known (option_and_then (resumed rs s) (success_at s.success s.heap)) behind s h (λ t is. plain-goes stretch.Behind s t (kept-resumed rs s t h is))
plain (instr.Retry rs) s q h = plain-known (option_and_then (retried rs s) (failure_at s.failure s.heap)) behind s h (λ t is. plain-goes stretch.Behind s t (kept-retried rs s t h is))
plain instr.Drop s q h = plain-known (failure_at s.failure s.heap) _ s h (λ kept _. plain-goes stretch.Behind s (record s { failure = kept.failure }) (record { fits = h; registers = refl; constants = refl; limit = refl }))
plain (instr.Builtin k rs ys e) s q h = absurd q
plain (instr.Equal a b e) s q h =
    plain-known (value_in s.heap.values (register s a)) _ s h
    (λ v _. plain-known (value_in s.heap.values (register s b)) (λ (w : Value). if same v w then behind s else otherwise e s) s h (λ w _. plain-if (same v w) s (behind s) (otherwise e s) (plain-here stretch.Behind s h) (plain-otherwise e s h)))
plain (instr.Switch a cases e) s q h = plain-known (seen_in s.heap.values (register s a)) (switches cases e s) s h (λ seen _. plain-switches cases e s h seen)
plain (instr.Goto b) s q h = plain-here (Jump b) s h
plain (instr.Call b) s q h = plain-here (Turn b) s h
plain (instr.CallRegister a) s q h = plain-known (entry_in (form_of (register s a))) (λ b. goes (Turn b) s) s h (λ b _. plain-here (Turn b) s h)
plain instr.Answer s q h = plain-label s.success s h
plain instr.Fail s q h = plain-label s.failure s h
plain (instr.Halt halt.Yes) s q h = plain-here _ s h
plain (instr.Halt halt.Integer) s q h = plain-known (word_of (register s 0)) _ s h (λ i _. plain-here _ s h)
plain (instr.Halt halt.No) s q h = plain-here _ s h
