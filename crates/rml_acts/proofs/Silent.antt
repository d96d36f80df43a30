-- What a built-in keeps that does not print.
use Rattle.std.specs.Prelude.{ℕ, ◌≡◌, ◌≢◌, ◌+◌, ◌==◌, Bool, true, false, IsTrue, nat_le, if◌then◌else◌, List, [], length, Option, Some, None, slice_get}
use Rattle.std.proofs.Common.{refl, ap}
use Rattle.rml_value.specs.declared.value.Value.{Value}
use Rattle.rml_builtin.specs.declared.row.TheConstants.{ROWS}
use Rattle.rml_builtin.specs.declared.row.Row.{Row}
use Rattle.rml_builtin.specs.declared.row.Row.TheVariants as rows
use Rattle.rml_builtin.specs.declared.applied.Answer.{Answer}
use Rattle.rml_builtin.specs.declared.applied.Applied.{Applied}
use Rattle.rml_builtin.specs.declared.applied.Applied.TheVariants as applied
use Rattle.rml_builtin.specs.Applied.{Store}
use Rattle.rml_builtin.specs.BuiltIns.{apply}
use Rattle.rml_builtin.specs.Keeps.{IsSilent}
use Rattle.rml_builtin.specs.Table.{is_silent}
use Rattle.rml_heap.specs.declared.cell.Cell.{Cell}
use Rattle.rml_heap.specs.HeapState.{cells_used}
use Rattle.rml_trail.specs.TrailState.{Fits}
use Rattle.rml_prims.specs.Taken.{cells_taken}
use Rattle.rml_prims.specs.Standing.{values_in, store_in}
use Rattle.rml_prims.specs.Laid.{Results, results_laid}
use Rattle.rml_code.specs.declared.instructions.Else.{Else}
use Rattle.rml_code.specs.declared.instructions.Else.TheVariants as else
use Rattle.rml_code.specs.declared.instructions.Instr.TheVariants as instr
use Rattle.rml_code.specs.declared.state.State.{State}
use Rattle.rml_code.specs.Frames.{registers_of, label_at}
use Rattle.rml_code.specs.Stretch as stretch
use Rattle.rml_code.specs.Stretch.{Stretch, Full, Jump, Turn, Stop, goes, wrong, with_known}
use Rattle.rml_code.specs.Effects.{effect, if_room, otherwise, answered, ends_with, runs_row}
use Rattle.rml_acts.specs.Kept.{IsQuietRow, IsPlain}
use Rattle.rml_acts.proofs.Keeping.{length-loaded}

-- all that it keeps, but that the trail fits the heap
record Still (s : State) (a : Stretch) : Type 0 where
  pub registers : length a.state.registers ≡ length s.registers
  pub constants : a.state.constants ≡ s.constants
  pub limit : a.state.heap.limit ≡ s.heap.limit
  pub text : a.text ≡ []
  pub cells : a.cells ≡ cells_used a.state.heap
  pub turns : a.turns ≡ 0

still-here : (next : stretch.Next) (s : State) → Still s (goes next s)
still-here next s = record { registers = refl; constants = refl; limit = refl; text = refl; cells = refl; turns = refl }

still-known : {A : Type 0} (o : Option A) (go : A → Stretch) (s : State) → ((x : A) → o ≡ Some x → Still s (go x)) → Still s (with_known o go s)
still-known None go s each = still-here (Stop stretch.Wrong) s
still-known (Some x) go s each = each x refl

still-if : (b : Bool) (s : State) (x y : Stretch) → Still s x → Still s y → Still s (if b then x else y)
still-if true s x y h i = h
still-if false s x y h i = i

still-otherwise : (e : Else) (s : State) → Still s (otherwise e s)
still-otherwise else.Fail s = still-known (label_at s.failure s.heap) (λ b. goes (Turn b) s) s (λ b _. still-here (Turn b) s)
still-otherwise (else.Block b) s = still-here (Jump b) s

still-answered : (ys : List ℕ) (row : Row) (inputs : List Cell) (answer : Answer) (text : List ℕ) (laid : Results) (s : State) → text ≡ [] → Still s (answered ys row inputs answer text laid s)
still-answered ys row inputs answer text laid s none =
    record { registers = length-loaded ys laid.cells s.registers; constants = refl; limit = refl; text = none; cells = refl; turns = refl }

still-ends : (row : Row) (ys : List ℕ) (inputs : List Cell) (e : Else) (a : Applied) (s : State) → IsSilent a → Still s (ends_with ys row inputs e a s)
still-ends row ys inputs e (applied.Yes answer text) s none =
    let laid : Results = results_laid row s.heap.values inputs answer.values in
    let gives : Stretch = answered ys row inputs answer text laid s in
    let n : ℕ = cells_taken row answer.values in
    still-if (length ys == length laid.cells) s (if_room n s gives) (wrong s)
    (still-if (nat_le (cells_used s.heap + n) s.heap.limit) s gives (goes (Stop (Full (cells_used s.heap) n)) s) (still-answered ys row inputs answer text laid s none) (still-here (Stop (Full (cells_used s.heap) n)) s))
    (still-here (Stop stretch.Wrong) s)
still-ends row ys inputs e applied.No s none = still-otherwise e s
still-ends row ys inputs e applied.Wrong s none = still-here (Stop stretch.Wrong) s

module _ (silent : (row : Row) (vs : List Value) (store : Store) → row ≢ rows.Print → IsSilent (apply row vs store)) where
  still-row : (ys : List ℕ) (inputs : List Cell) (e : Else) (s : State) (row : Row) → IsTrue (is_silent row) → Still s (runs_row ys inputs e s row)
  still-row ys inputs e s row quiet =
      let other : row ≢ rows.Print = λ is. let prints : is_silent row ≡ false = ap is_silent is in absurd (cc) in
      still-known (values_in s.heap.values inputs) _ s (λ vs _.
      still-known (store_in s.heap.values) (λ (store : Store). ends_with ys row inputs e (apply row vs store) s) s (λ store _.
      still-ends row ys inputs e (apply row vs store) s (silent row vs store other)))

  still-built-in : (rs ys : List ℕ) (e : Else) (s : State) (o : Option Row) → IsQuietRow o → Still s (with_known o (runs_row ys (registers_of rs s) e s) s)
  still-built-in rs ys e s None quiet = still-here (Stop stretch.Wrong) s
  still-built-in rs ys e s (Some row) quiet = still-row ys (registers_of rs s) e s row quiet

  pub built-in-plain : (k : ℕ) (rs ys : List ℕ) (e : Else) (s : State) → IsQuietRow (slice_get ROWS k) → Fits (effect (instr.Builtin k rs ys e) s).state.trail (effect (instr.Builtin k rs ys e) s).state.heap → IsPlain s (effect (instr.Builtin k rs ys e) s)
  built-in-plain k rs ys e s quiet fits =
      let h : Still s (effect (instr.Builtin k rs ys e) s) = still-built-in rs ys e s (slice_get ROWS k) quiet in
      record { kept = record { fits = fits; registers = h.registers; constants = h.constants; limit = h.limit }; text = h.text; cells = h.cells; turns = h.turns }
