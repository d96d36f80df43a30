-- What each instruction does. Registers are copied, blocks of cells are added behind the values, and frames below the frames. Cells are
-- handed out all at once, or the run ends Full. What is of another kind than an instruction takes is Wrong, and so is what leads nowhere.
use Rattle.std.specs.Prelude.{ℕ, ◌+◌, ◌-◌, ◌*◌, ◌^◌, Bool, ◌&&◌, ◌==◌, nat_le, nat_lt, if◌then◌else◌, List, [], ◌∷◌, ◌++◌, length, take, drop, Option, Some, None, pos, option_and_then, slice_get}
use Rattle.std.specs.List.{list_all}
use Rattle.rml_value.specs.Same.{same}
use Rattle.rml_builtin.specs.declared.row.TheConstants.{ROWS}
use Rattle.rml_builtin.specs.declared.row.Row.{Row}
use Rattle.rml_builtin.specs.declared.applied.Answer.{Answer}
use Rattle.rml_builtin.specs.declared.applied.Applied.{Applied}
use Rattle.rml_builtin.specs.declared.applied.Applied.TheVariants as applied
use Rattle.rml_builtin.specs.BuiltIns.{apply}
use Rattle.rml_builtin.specs.Made.{cells_made}
use Rattle.rml_heap.specs.declared.cell.Cell.{Cell}
use Rattle.rml_heap.specs.declared.cell.TheConstants.{REL, CON_BLOCK, TUPLE}
use Rattle.rml_heap.specs.HeapState.{cells_used, bottom_of}
use Rattle.rml_heap.specs.Form as form
use Rattle.rml_heap.specs.Form.{Form, form_of}
use Rattle.rml_heap.specs.Reading.{cell_at, word_of}
use Rattle.rml_trail.specs.TrailState.{unset_all}
use Rattle.rml_prims.specs.Shapes.{int_cell, char_cell, con_cell, block_cell, cons_head}
use Rattle.rml_prims.specs.Taken.{cells_taken}
use Rattle.rml_prims.specs.Exact.{cells_kept, entries_kept}
use Rattle.rml_code.specs.declared.instructions.Word.{Word}
use Rattle.rml_code.specs.declared.instructions.Word.TheVariants as word
use Rattle.rml_code.specs.declared.instructions.Else.{Else}
use Rattle.rml_code.specs.declared.instructions.Else.TheVariants as else
use Rattle.rml_code.specs.declared.instructions.Case.{Case}
use Rattle.rml_code.specs.declared.instructions.Halt.{Halt}
use Rattle.rml_code.specs.declared.instructions.Halt.TheVariants as halt
use Rattle.rml_code.specs.declared.instructions.Instr.{Instr}
use Rattle.rml_code.specs.declared.instructions.Instr.TheVariants as instr
use Rattle.rml_code.specs.declared.state.State.{State}
use Rattle.rml_code.specs.Frames.{register, constant, put, registers_of, loaded, success_frame, failure_frame, with_frame, Success, Failure as FailureKept, success_at, failure_at, label_at}
use Rattle.rml_prims.specs.Standing.{value_in, values_in, store_in}
use Rattle.rml_prims.specs.Laid.{Results, results_laid}
use Rattle.rml_code.specs.Seen.{Seen, seen_in, asked, is_same, is_alike}
use Rattle.rml_code.specs.Stretch.{Answer as Answered, Failure, Full, Behind, Jump, Turn, Stop, Stretch, goes, wrong, with_known}

-- ---- ways to go on

-- with the instruction behind
abbrev pub behind : State → Stretch
behind s = goes Behind s

-- so many cells are handed out at once, or they do not fit
abbrev pub if_room : ℕ → State → Stretch → Stretch
if_room n s fitting = if nat_le (cells_used s.heap + n) s.heap.limit then fitting else goes (Stop (Full (cells_used s.heap) n)) s

-- so many were, and are weighed
abbrev pub behind_with : ℕ → State → Stretch
behind_with n s = record (behind s) { weighed = n }

-- by a turn, where the frame at this address says
abbrev pub to_label : ℕ → State → Stretch
to_label at s = with_known (label_at at s.heap) (λ b. goes (Turn b) s) s

abbrev pub otherwise : Else → State → Stretch
otherwise else.Fail s = to_label s.failure s
otherwise (else.Block b) s = goes (Jump b) s

-- ---- values

abbrev pub word_cell : Word → Cell
word_cell (word.Int i) = int_cell i
word_cell (word.Char c) = char_cell c
word_cell (word.Rel b) = record { kind = REL; number = pos b }
word_cell (word.Con c) = con_cell c

-- the head of a constructor with so many arguments, and of a tuple of so many parts
abbrev pub con_head : ℕ → ℕ → Cell
con_head c n = record { kind = CON_BLOCK; number = pos (c * 2 ^ 20 + n) }

abbrev pub tuple_head : ℕ → Cell
tuple_head n = record { kind = TUPLE; number = pos n }

-- a register gets a new block of cells
abbrev pub with_block : ℕ → List Cell → State → State
with_block a cells s = put a (block_cell (length s.heap.values)) (record s { heap = record s.heap { values = s.heap.values ++ cells } })

abbrev pub builds : ℕ → List Cell → State → Stretch
builds a cells s = if_room (length cells) s (behind_with (length cells) (with_block a cells s))

-- how many parts a block has that an instruction can take
abbrev pub parts_in : Form → ℕ
parts_in (form.ConBlock c n) = n
parts_in (form.Tuple n) = n
parts_in form.ConsBlock = 2
parts_in _ = 0

-- the part of a block, from 1
abbrev pub part_at : List Cell → ℕ → Form → Option Cell
part_at cells i (form.Block at) = if nat_le 1 i && nat_le i (parts_in (form_of (cell_at cells at))) then slice_get cells (at + i) else None
part_at cells i _ = None

abbrev pub part_of : List Cell → ℕ → Cell → Option Cell
part_of cells i c = part_at cells i (form_of c)

-- ---- frames

abbrev pub saves : List Cell → State → State
saves cells s = record s { heap = with_frame cells s.heap; success = bottom_of (with_frame cells s.heap) }

abbrev pub guards : List Cell → State → State
guards cells s = record s { heap = with_frame cells s.heap; failure = bottom_of (with_frame cells s.heap) }

-- the frames before a frame that saved so many cells, if it did
abbrev pub with_saved : {A : Type 0} → ℕ → List Cell → Option A → Option A
with_saved n rest go = if nat_le n (length rest) then go else None

-- registers get what the frame saved, and its cells and all below it are taken back
abbrev pub resumed : List ℕ → State → Success → Option State
resumed rs s kept = with_saved (length rs) kept.rest (Some (record s {
  registers = loaded rs kept.rest s.registers;
  heap = record s.heap { frames = drop (length rs) kept.rest };
  success = kept.success;
  failure = kept.failure;
}))

-- the trail was no longer, values had no fewer cells, and what is still set lies below those
abbrev pub is_before : FailureKept → State → Bool
is_before kept s = nat_le kept.mark (length s.trail.entries) && nat_le kept.top (length s.heap.values) && list_all (λ e. nat_lt e kept.top) (take kept.mark s.trail.entries)

-- the trail is undone, and the cells of values from then on are taken back
abbrev pub undone : FailureKept → State → State
undone kept s = record s {
  heap = record s.heap { values = take kept.top (unset_all (drop kept.mark s.trail.entries) s.heap.values) };
  trail = record s.trail { entries = take kept.mark s.trail.entries };
}

abbrev pub taken_up : List ℕ → FailureKept → State → State
taken_up rs kept s = record s {
  registers = loaded rs kept.rest s.registers;
  heap = record s.heap { frames = drop (length rs) kept.rest };
  success = kept.success;
  failure = kept.failure;
}

abbrev pub retried : List ℕ → State → FailureKept → Option State
retried rs s kept = with_saved (length rs) kept.rest (if is_before kept s then Some (taken_up rs kept (undone kept s)) else None)

-- ---- built-ins

-- results in their registers, which are as many
abbrev pub with_results : List ℕ → Row → List Cell → Results → State → State
with_results ys row inputs results s = record s {
  registers = loaded ys results.cells s.registers;
  heap = record s.heap { values = cells_kept row inputs s.heap.values ++ results.added };
  trail = record s.trail { entries = entries_kept row inputs s.trail.entries };
}

-- an answer: the cells of texts, lists and vectors are made, and others weighed
abbrev pub answered : List ℕ → Row → List Cell → Answer → List ℕ → Results → State → Stretch
answered ys row inputs answer text results s = record (behind (with_results ys row inputs results s)) {
  text = text;
  made = cells_made row answer.values;
  weighed = cells_taken row answer.values - cells_made row answer.values;
}

-- its cells are handed out at once, and there are as many results as registers for them
abbrev pub answers : List ℕ → Row → List Cell → Answer → List ℕ → Results → State → Stretch
answers ys row inputs answer text results s =
    if length ys == length results.cells then if_room (cells_taken row answer.values) s (answered ys row inputs answer text results s) else wrong s

-- by what the built-in gives on the values and the store that the cells stand for
abbrev pub ends_with : List ℕ → Row → List Cell → Else → Applied → State → Stretch
ends_with ys row inputs e (applied.Yes answer text) s = answers ys row inputs answer text (results_laid row s.heap.values inputs answer.values) s
ends_with ys row inputs e applied.No s = otherwise e s
ends_with ys row inputs e applied.Wrong s = wrong s

abbrev pub runs_row : List ℕ → List Cell → Else → State → Row → Stretch
runs_row ys inputs e s row =
    with_known (values_in s.heap.values inputs) (λ vs. with_known (store_in s.heap.values) (λ store. ends_with ys row inputs e (apply row vs store) s) s) s

-- ---- choices

-- the first case with the tag that is seen
abbrev pub chosen : Seen → List Case → Else → State → Stretch
chosen seen [] e s = otherwise e s
chosen seen (k ∷ cases) e s = if is_same seen (asked s k.tag) then goes (Jump k.block) s else chosen seen cases e s

-- what is of another kind than the first tag is Wrong
abbrev pub switches : List Case → Else → State → Seen → Stretch
switches [] e s seen = otherwise e s
switches (k ∷ cases) e s seen = if is_alike seen (asked s k.tag) then chosen seen (k ∷ cases) e s else wrong s

abbrev pub entry_in : Form → Option ℕ
entry_in (form.Rel relation) = Some (2 + relation)
entry_in _ = None

abbrev pub halts : Halt → State → Stretch
halts halt.Yes s = goes (Stop (Answered None)) s
halts halt.Integer s = with_known (word_of (register s 0)) (λ i. goes (Stop (Answered (Some i))) s) s
halts halt.No s = goes (Stop Failure) s

-- ---- instructions

abbrev pub effect : Instr → State → Stretch
effect (instr.Move a b) s = behind (put a (register s b) s)
effect (instr.Word a w) s = behind (put a (word_cell w) s)
effect (instr.Const a i) s = behind (put a (constant s i) s)
effect (instr.Field a b i) s = with_known (part_of s.heap.values i (register s b)) (λ c. behind (put a c s)) s
effect (instr.Con a c rs) s = builds a (con_head c (length rs) ∷ registers_of rs s) s
effect (instr.Tuple a rs) s = builds a (tuple_head (length rs) ∷ registers_of rs s) s
effect (instr.Cons a b c) s = builds a (cons_head ∷ register s b ∷ register s c ∷ []) s
effect (instr.Save b rs) s = if_room (3 + length rs) s (behind_with (3 + length rs) (saves (success_frame b (registers_of rs s) s) s))
effect (instr.Guard b rs) s = if_room (5 + length rs) s (behind_with (5 + length rs) (guards (failure_frame b (registers_of rs s) s) s))
effect (instr.Resume rs) s = with_known (option_and_then (resumed rs s) (success_at s.success s.heap)) behind s
effect (instr.Retry rs) s = with_known (option_and_then (retried rs s) (failure_at s.failure s.heap)) behind s
effect instr.Drop s = with_known (failure_at s.failure s.heap) (λ (kept : FailureKept). behind (record s { failure = kept.failure })) s
effect (instr.Builtin k rs ys e) s = with_known (slice_get ROWS k) (runs_row ys (registers_of rs s) e s) s
effect (instr.Equal a b e) s =
    with_known (value_in s.heap.values (register s a)) (λ v. with_known (value_in s.heap.values (register s b)) (λ w. if same v w then behind s else otherwise e s) s) s
effect (instr.Switch a cases e) s = with_known (seen_in s.heap.values (register s a)) (switches cases e s) s
effect (instr.Goto b) s = goes (Jump b) s
effect (instr.Call b) s = goes (Turn b) s
effect (instr.CallRegister a) s = with_known (entry_in (form_of (register s a))) (λ b. goes (Turn b) s) s
effect instr.Answer s = to_label s.success s
effect instr.Fail s = to_label s.failure s
effect (instr.Halt h) s = halts h s
