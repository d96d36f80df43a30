-- What each instruction keeps: the trail fits the heap, and there are as many registers, the same constants, and the same limit.
use Rattle.std.specs.Prelude.{◌≡◌, IsTrue, length, [], Option, Some, None, slice_get}
use Rattle.rml_builtin.specs.declared.row.TheConstants.{ROWS}
use Rattle.rml_builtin.specs.declared.row.Row.{Row}
use Rattle.rml_builtin.specs.Table.{is_silent}
use Rattle.rml_heap.specs.HeapState.{cells_used}
use Rattle.rml_trail.specs.TrailState.{Fits}
use Rattle.rml_code.specs.declared.instructions.Instr.{Instr}
use Rattle.rml_code.specs.declared.instructions.Instr.TheVariants as instr
use Rattle.rml_code.specs.declared.state.State.{State}
use Rattle.rml_code.specs.Stretch.{Stretch}

pub record Kept (before after : State) : Type 0 where
  pub fits : Fits after.trail after.heap
  pub registers : length after.registers ≡ length before.registers
  pub constants : after.constants ≡ before.constants
  pub limit : after.heap.limit ≡ before.heap.limit

-- it is no built-in
abbrev pub IsQuiet : Instr → Type 0
IsQuiet (instr.Builtin k rs ys e) = ⊥
IsQuiet _ = Unit {0}

-- a row that the table has there prints nothing
abbrev pub IsQuietRow : Option Row → Type 0
IsQuietRow None = Unit {0}
IsQuietRow (Some row) = IsTrue (is_silent row)

-- it does not print
abbrev pub PrintsNothing : Instr → Type 0
PrintsNothing (instr.Builtin k rs ys e) = IsQuietRow (slice_get ROWS k)
PrintsNothing _ = Unit {0}

-- what an instruction comes to prints nothing, makes no turn, and counts the cells at its end
pub record IsPlain (s : State) (a : Stretch) : Type 0 where
  pub kept : Kept s a.state
  pub text : a.text ≡ []
  pub cells : a.cells ≡ cells_used a.state.heap
  pub turns : a.turns ≡ 0
