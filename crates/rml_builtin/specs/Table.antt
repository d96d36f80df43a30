-- The table of built-ins: the number, the name and the type of each row, and whether it prints.
use Rattle.std.specs.Prelude.{ℕ, Bool, true, false, List, [], ◌∷◌, codes}
use Rattle.rml_types.specs.declared.tree.SchemeTree.{SchemeTree}
use Rattle.rml_types.specs.declared.tree.SchemeTree.TheVariants as tree
use Rattle.rml_builtin.specs.declared.row.Row.{Row}
use Rattle.rml_builtin.specs.declared.row.Row.TheVariants.{IntAdd, IntSub, IntMul, IntDiv, IntMod, IntNeg, IntAbs, IntMax, IntMin, IntLt, IntLe, IntGt, IntGe, IntEq, IntNe, IntString, StringInt, IntChar, CharInt, StringLength, StringNth, StringAppend, StringList, ListString, LvarNew, LvarGet, LvarSet, Print, ListVector, VectorList, VectorLength, VectorNth}
use Rattle.rml_builtin.specs.Types.{a, int, char, string, bool, list, lvar, vector, option}

abbrev pub row_number : Row → ℕ
row_number IntAdd = 0
row_number IntSub = 1
row_number IntMul = 2
row_number IntDiv = 3
row_number IntMod = 4
row_number IntNeg = 5
row_number IntAbs = 6
row_number IntMax = 7
row_number IntMin = 8
row_number IntLt = 9
row_number IntLe = 10
row_number IntGt = 11
row_number IntGe = 12
row_number IntEq = 13
row_number IntNe = 14
row_number IntString = 15
row_number StringInt = 16
row_number IntChar = 17
row_number CharInt = 18
row_number StringLength = 19
row_number StringNth = 20
row_number StringAppend = 21
row_number StringList = 22
row_number ListString = 23
row_number LvarNew = 24
row_number LvarGet = 25
row_number LvarSet = 26
row_number Print = 27
row_number ListVector = 28
row_number VectorList = 29
row_number VectorLength = 30
row_number VectorNth = 31

abbrev pub name_of : Row → List ℕ
name_of IntAdd = codes "int_add"
name_of IntSub = codes "int_sub"
name_of IntMul = codes "int_mul"
name_of IntDiv = codes "int_div"
name_of IntMod = codes "int_mod"
name_of IntNeg = codes "int_neg"
name_of IntAbs = codes "int_abs"
name_of IntMax = codes "int_max"
name_of IntMin = codes "int_min"
name_of IntLt = codes "int_lt"
name_of IntLe = codes "int_le"
name_of IntGt = codes "int_gt"
name_of IntGe = codes "int_ge"
name_of IntEq = codes "int_eq"
name_of IntNe = codes "int_ne"
name_of IntString = codes "int_string"
name_of StringInt = codes "string_int"
name_of IntChar = codes "int_char"
name_of CharInt = codes "char_int"
name_of StringLength = codes "string_length"
name_of StringNth = codes "string_nth"
name_of StringAppend = codes "string_append"
name_of StringList = codes "string_list"
name_of ListString = codes "list_string"
name_of LvarNew = codes "lvar_new"
name_of LvarGet = codes "lvar_get"
name_of LvarSet = codes "lvar_set"
name_of Print = codes "print"
name_of ListVector = codes "list_vector"
name_of VectorList = codes "vector_list"
name_of VectorLength = codes "vector_length"
name_of VectorNth = codes "vector_nth"

-- the types of the arguments
abbrev pub inputs_of : Row → List SchemeTree
inputs_of IntNeg = int ∷ []
inputs_of IntAbs = int ∷ []
inputs_of IntString = int ∷ []
inputs_of StringInt = string ∷ []
inputs_of IntChar = int ∷ []
inputs_of CharInt = char ∷ []
inputs_of StringLength = string ∷ []
inputs_of StringNth = string ∷ int ∷ []
inputs_of StringAppend = string ∷ string ∷ []
inputs_of StringList = string ∷ []
inputs_of ListString = list char ∷ []
inputs_of LvarNew = []
inputs_of LvarGet = lvar a ∷ []
inputs_of LvarSet = lvar a ∷ a ∷ []
inputs_of Print = string ∷ []
inputs_of ListVector = list a ∷ []
inputs_of VectorList = vector a ∷ []
inputs_of VectorLength = vector a ∷ []
inputs_of VectorNth = vector a ∷ int ∷ []
inputs_of _ = int ∷ int ∷ []

-- the types of the results
abbrev pub outputs_of : Row → List SchemeTree
outputs_of IntLt = bool ∷ []
outputs_of IntLe = bool ∷ []
outputs_of IntGt = bool ∷ []
outputs_of IntGe = bool ∷ []
outputs_of IntEq = bool ∷ []
outputs_of IntNe = bool ∷ []
outputs_of IntString = string ∷ []
outputs_of IntChar = char ∷ []
outputs_of StringNth = char ∷ []
outputs_of StringAppend = string ∷ []
outputs_of StringList = list char ∷ []
outputs_of ListString = string ∷ []
outputs_of LvarNew = lvar a ∷ []
outputs_of LvarGet = option a ∷ []
outputs_of LvarSet = []
outputs_of Print = []
outputs_of ListVector = vector a ∷ []
outputs_of VectorList = list a ∷ []
outputs_of VectorNth = a ∷ []
outputs_of _ = int ∷ []

-- how many variables the type has: 1 for a row of logical variables or vectors
abbrev pub vars_of : Row → ℕ
vars_of LvarNew = 1
vars_of LvarGet = 1
vars_of LvarSet = 1
vars_of ListVector = 1
vars_of VectorList = 1
vars_of VectorLength = 1
vars_of VectorNth = 1
vars_of _ = 0

abbrev pub type_of : Row → SchemeTree
type_of row = tree.Rel (inputs_of row) (outputs_of row)

-- all but `print` are silent
abbrev pub is_silent : Row → Bool
is_silent Print = false
is_silent _ = true
