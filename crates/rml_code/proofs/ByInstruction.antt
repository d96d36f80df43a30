-- What remains of a run, by the instruction that comes first: its line of the effects, a lemma each.
use Rattle.std.specs.Prelude.{ℕ, ◌≡◌, ◌+◌, Bool, true, false, nat_le, if◌then◌else◌, ℤ, List, [], ◌∷◌, length, Option, Some, None, option_and_then, slice_get}
use Rattle.std.proofs.Common.{refl, ◌∙◌, ap, arith}
use Rattle.rml_base.specs.Run as run
use Rattle.rml_base.specs.Run.{bare, weigh}
use Rattle.rml_value.specs.declared.value.Value.{Value}
use Rattle.rml_value.specs.Same.{same}
use Rattle.rml_builtin.specs.declared.row.TheConstants.{ROWS}
use Rattle.rml_builtin.specs.declared.row.Row.{Row}
use Rattle.rml_builtin.specs.Applied.{Store}
use Rattle.rml_builtin.specs.BuiltIns.{apply}
use Rattle.rml_heap.specs.declared.cell.Cell.{Cell}
use Rattle.rml_heap.specs.HeapState.{cells_used}
use Rattle.rml_heap.specs.Form.{form_of}
use Rattle.rml_heap.specs.Reading.{word_of}
use Rattle.rml_prims.specs.Shapes.{cons_head}
use Rattle.rml_code.specs.declared.instructions.Word.{Word}
use Rattle.rml_code.specs.declared.instructions.Else.{Else}
use Rattle.rml_code.specs.declared.instructions.Case.{Case}
use Rattle.rml_code.specs.declared.instructions.Halt.TheVariants as halt
use Rattle.rml_code.specs.declared.instructions.Instr.{Instr}
use Rattle.rml_code.specs.declared.instructions.Instr.TheVariants as instr
use Rattle.rml_code.specs.declared.state.State.{State}
use Rattle.rml_code.specs.Frames.{register, constant, put, registers_of, success_frame, failure_frame, Failure, success_at, failure_at, label_at}
use Rattle.rml_prims.specs.Standing.{value_in, values_in, store_in}
use Rattle.rml_code.specs.Seen.{Seen, seen_in}
use Rattle.rml_code.specs.Stretch.{Full, Next, Behind, Jump, Turn, Stop, Stretch, goes, with_known, Answer as Answered, Failure as Failed}
use Rattle.rml_code.specs.Effects.{behind, if_room, behind_with, otherwise, word_cell, con_head, tuple_head, with_block, part_of, saves, guards, resumed, retried, ends_with, runs_row, switches, entry_in, effect}
use Rattle.rml_code.specs.Remaining.{remains, at_block, at_turn, follows, comes_of, weigh_if_room}
use Rattle.rml_code.proofs.Remains.{behind-nothing, remains-first}

module _ (blocks : List (List Instr)) (k : ℕ) (rest : List Instr) (s : State) (n : ℕ) where
  -- ---- by the shape of an effect

  -- it comes to this
  comes-of : (i : Instr) (a : Stretch) → effect i s ≡ a → remains blocks k (i ∷ rest) s n ≡ comes_of blocks k rest a n
  comes-of i a e = remains-first blocks k i rest s n ∙ ap (λ (b : Stretch). comes_of blocks k rest b n) e

  -- nothing but to go on
  goes-on : (i : Instr) (next : Next) (t : State) → effect i s ≡ goes next t → remains blocks k (i ∷ rest) s n ≡ follows blocks k rest next t n
  goes-on i next t e = comes-of i (goes next t) e ∙ behind-nothing next t (follows blocks k rest next t n)

  -- from what is there
  goes-from : {A : Type 0} (i : Instr) (o : Option A) (x : A) (go : A → Stretch) (next : Next) (t : State)
      → effect i s ≡ with_known o go s → o ≡ Some x → go x ≡ goes next t → remains blocks k (i ∷ rest) s n ≡ follows blocks k rest next t n
  goes-from i o x go next t e there so = goes-on i next t (e ∙ ap (λ p. with_known p go s) there ∙ so)

  -- cells are handed out, if they fit
  fitting : (b : Bool) (m : ℕ) (t : State)
      → comes_of blocks k rest (if b then behind_with m t else goes (Stop (Full (cells_used s.heap) m)) s) n ≡ (if b then weigh m (remains blocks k rest t n) else bare run.Full)
  fitting true m t = let e : 0 + (remains blocks k rest t n).made ≡ (remains blocks k rest t n).made = omega arith in ap (λ l. record (weigh m (remains blocks k rest t n)) { made = l }) e
  fitting false m t = behind-nothing (Stop (Full (cells_used s.heap) m)) s (bare run.Full)

  takes-cells : (i : Instr) (m : ℕ) (t : State) → effect i s ≡ if_room m s (behind_with m t) → remains blocks k (i ∷ rest) s n ≡ weigh_if_room m s (remains blocks k rest t n)
  takes-cells i m t e = comes-of i (if_room m s (behind_with m t)) e ∙ fitting (nat_le (cells_used s.heap + m) s.heap.limit) m t

  -- ---- by the instruction

  pub by-Move : (a b : ℕ) → remains blocks k (instr.Move a b ∷ rest) s n ≡ remains blocks k rest (put a (register s b) s) n
  by-Move a b = goes-on (instr.Move a b) Behind (put a (register s b) s) refl

  pub by-Word : (a : ℕ) (w : Word) → remains blocks k (instr.Word a w ∷ rest) s n ≡ remains blocks k rest (put a (word_cell w) s) n
  by-Word a w = goes-on (instr.Word a w) Behind (put a (word_cell w) s) refl

  pub by-Const : (a i : ℕ) → remains blocks k (instr.Const a i ∷ rest) s n ≡ remains blocks k rest (put a (constant s i) s) n
  by-Const a i = goes-on (instr.Const a i) Behind (put a (constant s i) s) refl

  pub by-Field : (a b i : ℕ) (c : Cell) → part_of s.heap.values i (register s b) ≡ Some c → remains blocks k (instr.Field a b i ∷ rest) s n ≡ remains blocks k rest (put a c s) n
  by-Field a b i c there = goes-from (instr.Field a b i) (part_of s.heap.values i (register s b)) c (λ c. behind (put a c s)) Behind (put a c s) refl there refl

  pub by-Con : (a c : ℕ) (rs : List ℕ) → let cells : List Cell = con_head c (length rs) ∷ registers_of rs s in
      remains blocks k (instr.Con a c rs ∷ rest) s n ≡ weigh_if_room (length cells) s (remains blocks k rest (with_block a cells s) n)
  by-Con a c rs = let cells : List Cell = con_head c (length rs) ∷ registers_of rs s in takes-cells (instr.Con a c rs) (length cells) (with_block a cells s) refl

  pub by-Tuple : (a : ℕ) (rs : List ℕ) → let cells : List Cell = tuple_head (length rs) ∷ registers_of rs s in
      remains blocks k (instr.Tuple a rs ∷ rest) s n ≡ weigh_if_room (length cells) s (remains blocks k rest (with_block a cells s) n)
  by-Tuple a rs = let cells : List Cell = tuple_head (length rs) ∷ registers_of rs s in takes-cells (instr.Tuple a rs) (length cells) (with_block a cells s) refl

  pub by-Cons : (a b c : ℕ) → let cells : List Cell = cons_head ∷ register s b ∷ register s c ∷ [] in
      remains blocks k (instr.Cons a b c ∷ rest) s n ≡ weigh_if_room (length cells) s (remains blocks k rest (with_block a cells s) n)
  by-Cons a b c = let cells : List Cell = cons_head ∷ register s b ∷ register s c ∷ [] in takes-cells (instr.Cons a b c) (length cells) (with_block a cells s) refl

  pub by-Save : (b : ℕ) (rs : List ℕ)
      → remains blocks k (instr.Save b rs ∷ rest) s n ≡ weigh_if_room (3 + length rs) s (remains blocks k rest (saves (success_frame b (registers_of rs s) s) s) n)
  by-Save b rs = takes-cells (instr.Save b rs) (3 + length rs) (saves (success_frame b (registers_of rs s) s) s) refl

  pub by-Guard : (b : ℕ) (rs : List ℕ)
      → remains blocks k (instr.Guard b rs ∷ rest) s n ≡ weigh_if_room (5 + length rs) s (remains blocks k rest (guards (failure_frame b (registers_of rs s) s) s) n)
  by-Guard b rs = takes-cells (instr.Guard b rs) (5 + length rs) (guards (failure_frame b (registers_of rs s) s) s) refl

  pub by-Resume : (rs : List ℕ) (t : State) → option_and_then (resumed rs s) (success_at s.success s.heap) ≡ Some t → remains blocks k (instr.Resume rs ∷ rest) s n ≡ remains blocks k rest t n
  by-Resume rs t there = goes-from (instr.Resume rs) (option_and_then (resumed rs s) (success_at s.success s.heap)) t behind Behind t refl there refl

  pub by-Retry : (rs : List ℕ) (t : State) → option_and_then (retried rs s) (failure_at s.failure s.heap) ≡ Some t → remains blocks k (instr.Retry rs ∷ rest) s n ≡ remains blocks k rest t n
  by-Retry rs t there = goes-from (instr.Retry rs) (option_and_then (retried rs s) (failure_at s.failure s.heap)) t behind Behind t refl there refl

  pub by-Drop : (kept : Failure) → failure_at s.failure s.heap ≡ Some kept → remains blocks k (instr.Drop ∷ rest) s n ≡ remains blocks k rest (record s { failure = kept.failure }) n
  by-Drop kept there = goes-from instr.Drop (failure_at s.failure s.heap) kept (λ (kept : Failure). behind (record s { failure = kept.failure })) Behind (record s { failure = kept.failure }) refl there refl

  -- by what the built-in gives
  pub by-Builtin : (b : ℕ) (rs ys : List ℕ) (e : Else) (row : Row) (vs : List Value) (store : Store)
      → slice_get ROWS b ≡ Some row → values_in s.heap.values (registers_of rs s) ≡ Some vs → store_in s.heap.values ≡ Some store
      → remains blocks k (instr.Builtin b rs ys e ∷ rest) s n ≡ comes_of blocks k rest (ends_with ys row (registers_of rs s) e (apply row vs store) s) n
  by-Builtin b rs ys e row vs store there stand held =
      let given : List Cell = registers_of rs s in
      let gives : Store → Stretch = λ store. ends_with ys row given e (apply row vs store) s in
      let over : List Value → Stretch = λ vs. with_known (store_in s.heap.values) (λ store. ends_with ys row given e (apply row vs store) s) s in
      comes-of (instr.Builtin b rs ys e) (gives store)
      (ap (λ o. with_known o (runs_row ys given e s) s) there ∙ ap (λ o. with_known o over s) stand ∙ ap (λ o. with_known o gives s) held)

  pub by-Equal : (a b : ℕ) (e : Else) (v w : Value) → value_in s.heap.values (register s a) ≡ Some v → value_in s.heap.values (register s b) ≡ Some w
      → remains blocks k (instr.Equal a b e ∷ rest) s n ≡ comes_of blocks k rest (if same v w then behind s else otherwise e s) n
  by-Equal a b e v w first second =
      let ends : Value → Value → Stretch = λ v w. if same v w then behind s else otherwise e s in
      let over : Value → Stretch = λ v. with_known (value_in s.heap.values (register s b)) (ends v) s in
      comes-of (instr.Equal a b e) (ends v w) (ap (λ o. with_known o over s) first ∙ ap (λ o. with_known o (ends v) s) second)

  pub by-Switch : (a : ℕ) (cases : List Case) (e : Else) (seen : Seen) → seen_in s.heap.values (register s a) ≡ Some seen
      → remains blocks k (instr.Switch a cases e ∷ rest) s n ≡ comes_of blocks k rest (switches cases e s seen) n
  by-Switch a cases e seen there = comes-of (instr.Switch a cases e) (switches cases e s seen) (ap (λ o. with_known o (switches cases e s) s) there)

  pub by-Goto : (b : ℕ) → remains blocks k (instr.Goto b ∷ rest) s n ≡ at_block blocks k b s n
  by-Goto b = goes-on (instr.Goto b) (Jump b) s refl

  pub by-Call : (b : ℕ) → remains blocks k (instr.Call b ∷ rest) s n ≡ at_turn blocks b s n
  by-Call b = goes-on (instr.Call b) (Turn b) s refl

  pub by-CallRegister : (a b : ℕ) → entry_in (form_of (register s a)) ≡ Some b → remains blocks k (instr.CallRegister a ∷ rest) s n ≡ at_turn blocks b s n
  by-CallRegister a b there = goes-from (instr.CallRegister a) (entry_in (form_of (register s a))) b (λ b. goes (Turn b) s) (Turn b) s refl there refl

  pub by-Answer : (b : ℕ) → label_at s.success s.heap ≡ Some b → remains blocks k (instr.Answer ∷ rest) s n ≡ at_turn blocks b s n
  by-Answer b there = goes-from instr.Answer (label_at s.success s.heap) b (λ b. goes (Turn b) s) (Turn b) s refl there refl

  pub by-Fail : (b : ℕ) → label_at s.failure s.heap ≡ Some b → remains blocks k (instr.Fail ∷ rest) s n ≡ at_turn blocks b s n
  by-Fail b there = goes-from instr.Fail (label_at s.failure s.heap) b (λ b. goes (Turn b) s) (Turn b) s refl there refl

  pub by-Yes : remains blocks k (instr.Halt halt.Yes ∷ rest) s n ≡ bare (run.Answer None)
  by-Yes = goes-on (instr.Halt halt.Yes) (Stop (Answered None)) s refl

  pub by-Integer : (i : ℤ) → word_of (register s 0) ≡ Some i → remains blocks k (instr.Halt halt.Integer ∷ rest) s n ≡ bare (run.Answer (Some i))
  by-Integer i there = goes-from (instr.Halt halt.Integer) (word_of (register s 0)) i (λ i. goes (Stop (Answered (Some i))) s) (Stop (Answered (Some i))) s refl there refl

  pub by-No : remains blocks k (instr.Halt halt.No ∷ rest) s n ≡ bare run.Failure
  by-No = goes-on (instr.Halt halt.No) (Stop Failed) s refl
