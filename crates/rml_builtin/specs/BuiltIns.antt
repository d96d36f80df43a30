-- The built-ins: what each row gives of its arguments and the store, a line a row. Arguments of other kinds than a row takes
-- are Wrong; in the rows with `ranged`, an integer result out of range is no answer.
use Rattle.std.specs.Prelude.{ℕ, not, List, ◌++◌, length, map, Option, Some, slice_get, pos, ◌+ℤ◌, ◌-ℤ◌, ◌*ℤ◌, neg_ℤ, int_le, int_lt}
use Rattle.std.specs.Int.{int_max, int_min}
use Rattle.std.specs.Ordering.{int_eq}
use Rattle.rml_value.specs.declared.value.Value.{Value}
use Rattle.rml_value.specs.declared.value.Value.TheVariants as value
use Rattle.rml_value.specs.Lists.{items_of, list_of}
use Rattle.rml_builtin.specs.declared.row.TheConstants.{ROWS}
use Rattle.rml_builtin.specs.declared.row.Row.{Row}
use Rattle.rml_builtin.specs.declared.row.Row.TheVariants.{IntAdd, IntSub, IntMul, IntDiv, IntMod, IntNeg, IntAbs, IntMax, IntMin, IntLt, IntLe, IntGt, IntGe, IntEq, IntNe, IntString, StringInt, IntChar, CharInt, StringLength, StringNth, StringAppend, StringList, ListString, LvarNew, LvarGet, LvarSet, Print, ListVector, VectorList, VectorLength, VectorNth}
use Rattle.rml_builtin.specs.declared.applied.Applied.{Applied}
use Rattle.rml_builtin.specs.Applied.{Store, gives_one, ranged, truth, or_wrong}
use Rattle.rml_builtin.specs.Arguments.{int_of, char_of, text_of, cell_of, vector_of, chars_of, one, two}
use Rattle.rml_builtin.specs.Integers.{divided, remaining, absolute}
use Rattle.rml_builtin.specs.Decimal.{decimal_of}
use Rattle.rml_builtin.specs.Texts.{int_from, char_from, nth_char, printed}
use Rattle.rml_builtin.specs.Lvars.{new_lvar, get_lvar, set_lvar}
use Rattle.rml_builtin.specs.Vectors.{nth_item}

-- what a row gives of the store, where its arguments are known
abbrev pub Effect : Type 0
Effect = Store → Applied

-- a row over one argument
abbrev pub over_one : {A : Type 0} → (Value → Option A) → (A → Effect) → List Value → Effect
over_one kind go vs store = or_wrong (one kind vs) (λ x. go x store)

-- a row over two arguments
abbrev pub over_two : {A B : Type 0} → (Value → Option A) → (Value → Option B) → (A → B → Effect) → List Value → Effect
over_two first second go vs store = or_wrong (two first second vs) (λ p. go p.0 p.1 store)

abbrev pub apply : Row → List Value → Effect
apply IntAdd = over_two int_of int_of (λ m n. ranged (m +ℤ n))
apply IntSub = over_two int_of int_of (λ m n. ranged (m -ℤ n))
apply IntMul = over_two int_of int_of (λ m n. ranged (m *ℤ n))
apply IntDiv = over_two int_of int_of divided
apply IntMod = over_two int_of int_of remaining
apply IntNeg = over_one int_of (λ n. ranged (neg_ℤ n))
apply IntAbs = over_one int_of (λ n. ranged (absolute n))
apply IntMax = over_two int_of int_of (λ m n. gives_one (value.Int (int_max m n)))
apply IntMin = over_two int_of int_of (λ m n. gives_one (value.Int (int_min m n)))
apply IntLt = over_two int_of int_of (λ m n. truth (int_lt m n))
apply IntLe = over_two int_of int_of (λ m n. truth (int_le m n))
apply IntGt = over_two int_of int_of (λ m n. truth (int_lt n m))
apply IntGe = over_two int_of int_of (λ m n. truth (int_le n m))
apply IntEq = over_two int_of int_of (λ m n. truth (int_eq m n))
apply IntNe = over_two int_of int_of (λ m n. truth (not (int_eq m n)))
apply IntString = over_one int_of (λ n. gives_one (value.Text (decimal_of n)))
apply StringInt = over_one text_of int_from
apply IntChar = over_one int_of char_from
apply CharInt = over_one char_of (λ c. gives_one (value.Int (pos c)))
apply StringLength = over_one text_of (λ t. ranged (pos (length t)))
apply StringNth = over_two text_of int_of nth_char
apply StringAppend = over_two text_of text_of (λ t u. gives_one (value.Text (t ++ u)))
apply StringList = over_one text_of (λ t. gives_one (list_of (map value.Char t)))
apply ListString = over_one chars_of (λ cs. gives_one (value.Text cs))
apply LvarNew = new_lvar
apply LvarGet = over_one cell_of get_lvar
apply LvarSet = over_two cell_of Some set_lvar
apply Print = over_one text_of printed
apply ListVector = over_one items_of (λ items. gives_one (value.Vector items))
apply VectorList = over_one vector_of (λ items. gives_one (list_of items))
apply VectorLength = over_one vector_of (λ items. ranged (pos (length items)))
apply VectorNth = over_two vector_of int_of nth_item

-- a built-in by its number; a number that is off has no meaning
abbrev pub apply_at : ℕ → List Value → Effect
apply_at number vs store = or_wrong (slice_get ROWS number) (λ row. apply row vs store)
