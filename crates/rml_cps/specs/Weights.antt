-- The weights that are met on the way through continuation form: what flat code may hand out in cells on the way from one step to the
-- next. A path begins with 14 cells: 2 and 1 a value for a block that keeps what is received, 4 for the frame by which a call is
-- answered, and 8 for what was saved. What a statement binds is kept by 1 cell, and by 3 where it is the first since all was kept; that
-- is said of every statement, since a statement does not know. A variable that stands for what another stands for, or for an argument of
-- it, is found where that one is, and needs none.
use Rattle.std.specs.Prelude.{ℕ, ◌+◌, ◌*◌, if◌then◌else◌, Option, Some, None, slice_get}
use Rattle.rml_builtin.specs.declared.row.TheConstants.{ROWS}
use Rattle.rml_builtin.specs.declared.row.Row.{Row}
use Rattle.rml_builtin.specs.Table.{is_silent}
use Rattle.rml_fol.specs.declared.terms.Expression.{Expression, out-Expression}
use Rattle.rml_fol.specs.declared.terms.Expression.TheOpen.{Expression-F}
use Rattle.rml_fol.specs.Expressions.{cells_of}

-- Where a path begins: at the beginning of a relation, where an answer is received, and where a failure follows. So many values are
-- received there: parameters, or results.
abbrev pub entry_weight : ℕ → ℕ
entry_weight received = 14 + received

abbrev pub set_weight_at : Expression-F Expression → ℕ → ℕ
set_weight_at (Expression-F.Var x) cells = 0
set_weight_at _ cells = 3 + cells

-- the cells of an expression's blocks, and what is bound; a variable is no more than another name for what is kept
abbrev pub set_weight : Expression → ℕ
set_weight e = set_weight_at (out-Expression e) (cells_of e)

abbrev pub row_weight : Option Row → ℕ → ℕ
row_weight None results = 0
row_weight (Some row) results = if is_silent row then 2 + 3 * results else 0

-- A built-in with so many results. One that makes a logical variable, or says what one holds, hands out 2 cells besides.
abbrev pub built_in_weight : ℕ → ℕ → ℕ
built_in_weight number results = row_weight (slice_get ROWS number) results

-- a frame to go back to, with what is kept
abbrev pub failure_weight : ℕ
failure_weight = 6

-- a `goto` that hands on so many variables, which are kept anew where it goes
abbrev pub goto_weight : ℕ → ℕ
goto_weight handed = 2 + handed
