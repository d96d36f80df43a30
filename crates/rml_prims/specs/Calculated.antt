-- What the rows over integers give, where a row is known to be one of them: as an integer, or None for no answer, and as a truth value.
use Rattle.std.specs.Prelude.{ℕ, ◌⊎◌, List, Bool, not, nat_le, negsuc, Option, Some, None, if◌then◌else◌, ℤ, pos, ◌+ℤ◌, ◌-ℤ◌, ◌*ℤ◌, neg_ℤ, int_div, int_le, int_lt}
use Rattle.std.specs.Int.{int_max, int_min}
use Rattle.std.specs.Ordering.{int_eq}
use Rattle.rml_builtin.specs.declared.row.Row.{Row}
use Rattle.rml_builtin.specs.declared.row.Row.TheVariants.{IntAdd, IntSub, IntMul, IntDiv, IntMod, IntNeg, IntAbs, IntMax, IntMin, IntLt, IntLe, IntGt, IntGe, IntEq, IntNe}
use Rattle.rml_builtin.specs.Decimal.{integer_of}
use Rattle.rml_builtin.specs.Integers.{absolute}
use Rattle.rml_heap.specs.declared.cell.Cell.{Cell}
use Rattle.rml_prims.specs.Shapes.{OneInt, TwoInts}

-- the rows that calculate with two integers, that turn the sign of one, and that compare two
abbrev pub IsCalculation : Row → Type 0
IsCalculation IntAdd = Unit {0}
IsCalculation IntSub = Unit {0}
IsCalculation IntMul = Unit {0}
IsCalculation IntDiv = Unit {0}
IsCalculation IntMod = Unit {0}
IsCalculation IntMax = Unit {0}
IsCalculation IntMin = Unit {0}
IsCalculation _ = ⊥

abbrev pub IsTurn : Row → Type 0
IsTurn IntNeg = Unit {0}
IsTurn IntAbs = Unit {0}
IsTurn _ = ⊥

abbrev pub IsComparison : Row → Type 0
IsComparison IntLt = Unit {0}
IsComparison IntLe = Unit {0}
IsComparison IntGt = Unit {0}
IsComparison IntGe = Unit {0}
IsComparison IntEq = Unit {0}
IsComparison IntNe = Unit {0}
IsComparison _ = ⊥

abbrev pub calculated : Row → ℤ → ℤ → Option ℤ
calculated IntAdd m n = integer_of (m +ℤ n)
calculated IntSub m n = integer_of (m -ℤ n)
calculated IntMul m n = integer_of (m *ℤ n)
calculated IntDiv m n = if int_eq n (pos 0) then None else integer_of (int_div m n)
calculated IntMod m n = if int_eq n (pos 0) then None else Some (m -ℤ (n *ℤ int_div m n))
calculated IntMax m n = Some (int_max m n)
calculated IntMin m n = Some (int_min m n)
calculated _ m n = None

abbrev pub turned : Row → ℤ → Option ℤ
turned IntNeg n = integer_of (neg_ℤ n)
turned IntAbs n = integer_of (absolute n)
turned _ n = None

abbrev pub compared : Row → ℤ → ℤ → Bool
compared IntLt m n = int_lt m n
compared IntLe m n = int_le m n
compared IntGt m n = int_lt n m
compared IntGe m n = int_le n m
compared IntEq m n = int_eq m n
compared _ m n = not (int_eq m n)

-- the character of a number from 0 to 255
abbrev pub char_numbered : ℤ → Option ℕ
char_numbered (pos n) = if nat_le n 255 then Some n else None
char_numbered (negsuc n) = None

-- the rows over integers whose results are integers or truth values, and what they take
abbrev pub IsOverInts : Row → Type 0
IsOverInts row = IsCalculation row ⊎ IsTurn row ⊎ IsComparison row

abbrev pub TakesInts : Row → List Cell → Type 0
TakesInts IntNeg inputs = OneInt inputs
TakesInts IntAbs inputs = OneInt inputs
TakesInts row inputs = TwoInts inputs
