-- What an instruction may rest on, by its numbers alone: registers and constants are there, and what it counts is counted in 32 bits.
use Rattle.std.specs.Prelude.{ℕ, ◌≡◌, ◌<◌, ◌^◌, IsTrue, List, length, Option, Some, None, slice_get, slice_index_or}
use Rattle.std.specs.List.{AllByRecursion}
use Rattle.rml_builtin.specs.declared.row.TheConstants.{ROWS}
use Rattle.rml_builtin.specs.declared.row.Row.{Row}
use Rattle.rml_builtin.specs.Table.{inputs_of, outputs_of, is_silent}
use Rattle.rml_heap.specs.declared.cell.Cell.{Cell}
use Rattle.rml_heap.specs.HeapState.{free_cell}
use Rattle.rml_code.specs.declared.limits.TheConstants.{CON_PARTS, LENGTH}
use Rattle.rml_code.specs.declared.instructions.Word.{Word}
use Rattle.rml_code.specs.declared.instructions.Word.TheVariants as word
use Rattle.rml_code.specs.declared.instructions.Tag.{Tag}
use Rattle.rml_code.specs.declared.instructions.Tag.TheVariants as tag
use Rattle.rml_code.specs.declared.instructions.Case.{Case}
use Rattle.rml_code.specs.declared.instructions.Halt.{Halt}
use Rattle.rml_code.specs.declared.instructions.Halt.TheVariants as halt
use Rattle.rml_code.specs.declared.instructions.Instr.{Instr}
use Rattle.rml_code.specs.declared.instructions.Instr.TheVariants as instr

-- the cell of a register
abbrev pub held : List Cell → ℕ → Cell
held registers a = slice_index_or registers a free_cell

abbrev pub AreBelow : ℕ → List ℕ → Type 0
AreBelow n rs = AllByRecursion (λ r. r < n) rs

-- a number of a block is kept in a cell
abbrev pub IsLabel : ℕ → Type 0
IsLabel b = b < 2 ^ 63

abbrev pub IsFineWord : Word → Type 0
IsFineWord (word.Rel b) = IsLabel b
IsFineWord _ = Unit {0}

abbrev pub IsFineHalt : ℕ → Halt → Type 0
IsFineHalt n halt.Integer = 0 < n
IsFineHalt n _ = Unit {0}

-- the constant that a tag names is there
abbrev pub IsFineTag : ℕ → Tag → Type 0
IsFineTag m (tag.Text i) = i < m
IsFineTag m _ = Unit {0}

abbrev pub AreFineCases : ℕ → List Case → Type 0
AreFineCases m cases = AllByRecursion (λ (k : Case). IsFineTag m k.tag) cases

-- a row that prints nothing, with so many arguments and results
abbrev pub IsFineRow : ℕ → ℕ → Option Row → Type 0
IsFineRow taken given None = ⊥
IsFineRow taken given (Some row) = IsTrue (is_silent row) × (length (inputs_of row) ≡ taken) × (length (outputs_of row) ≡ given)

-- where there are so many registers, and so many constants; `print` is not here
abbrev pub IsFine : ℕ → ℕ → Instr → Type 0
IsFine n m (instr.Move a b) = (a < n) × (b < n)
IsFine n m (instr.Word a w) = (a < n) × IsFineWord w
IsFine n m (instr.Const a i) = (a < n) × (i < m)
IsFine n m (instr.Field a b i) = (a < n) × (b < n)
IsFine n m (instr.Con a c rs) = (a < n) × (length rs < CON_PARTS) × AreBelow n rs
IsFine n m (instr.Tuple a rs) = (a < n) × (length rs < LENGTH) × AreBelow n rs
IsFine n m (instr.Cons a b c) = (a < n) × (b < n) × (c < n)
IsFine n m (instr.Save b rs) = IsLabel b × (length rs < LENGTH) × AreBelow n rs
IsFine n m (instr.Guard b rs) = IsLabel b × (length rs < LENGTH) × AreBelow n rs
IsFine n m (instr.Resume rs) = AreBelow n rs
IsFine n m (instr.Retry rs) = AreBelow n rs
IsFine n m (instr.Equal a b e) = (a < n) × (b < n)
IsFine n m (instr.CallRegister a) = a < n
IsFine n m (instr.Halt h) = IsFineHalt n h
IsFine n m (instr.Builtin k rs ys e) = IsFineRow (length rs) (length ys) (slice_get ROWS k) × AreBelow n rs × AreBelow n ys
IsFine n m (instr.Switch a cases e) = (a < n) × AreFineCases m cases
IsFine n m _ = Unit {0}
